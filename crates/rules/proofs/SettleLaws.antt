-- What `settle` leaves are least distances over the arcs used. One invariant goes through the recursion of the definition; the fuel
-- is enough because each gain makes an unknown distance known, or a known one less.
--
--   offered D a        the distance that the hearer of arc a gets from its neighbour's
--   Via net uses D u   an arc used over which u gets its distance
--   LeastDistances net uses start D   D are the least distances from the starts over the arcs used
use Prim.Native.Nat.{ℕ, zero, suc, ◌≤◌, ◌<◌, ◌+◌}
use mathlib.Core.Path.{◌≡◌, refl, sym, ◌∙◌, ap}
use mathlib.Core.Logic.{◌⊎◌, inl, inr, ⊎_elim, ◌≢◌}
use mathlib.Core.Bool.{Bool, true, false, ◌&&◌}
use mathlib.Core.List.{List, [], ◌∷◌}
use native.Mathlib.Omega.{arith}
use native.Mathlib.Decide.{ℕ_discrete}
use lib.Dec.{leb, eqb}
use borrow.Author.Tests.{leb-true, eqb-true, eqb-false, ltb-true, ltb-false, eq-eqb, ne_eqb, le-leb}
use Rattle.rules.specs.Lists.{In}
use Rattle.rules.specs.Offers.{Arc}
use Rattle.rules.specs.Solve.{gains, relaxed, Gain, still, over, gain_or, first_gain, sum_over, unknown, gain_by, take_gain, shorten, extend, settle}
use Rattle.rules.proofs.Tests.{and_left, and_right, and_yes, and_no, or_one, or_no, changed_same, changed_other}

abbrev pub offered : (ℕ → ℕ) → Arc → ℕ
offered D a = D a.neighbour + a.cost

pub record Via (net : List Arc) (uses : Arc → Bool) (D : ℕ → ℕ) (u : ℕ) : Type 0 where
  pub arc : Arc
  pub has : In arc net
  pub used : uses arc ≡ true
  pub hearer : arc.hearer ≡ u
  pub known : 1 ≤ D arc.neighbour
  pub long : offered D arc ≤ D u

-- the starts keep theirs; every other distance comes over an arc used; no arc used gives a lesser one
pub record LeastDistances (net : List Arc) (uses : Arc → Bool) (start D : ℕ → ℕ) : Type 0 where
  pub starts : (u : ℕ) → 1 ≤ start u → D u ≡ start u
  pub via : (u : ℕ) → 1 ≤ D u → start u ≡ 0 → Via net uses D u
  pub least : (a : Arc) → In a net → uses a ≡ true → 1 ≤ D a.neighbour → (1 ≤ D a.hearer) × (D a.hearer ≤ offered D a)

-- so that the arc gives the distance exactly
pub Via-exact : {net : List Arc} {uses : Arc → Bool} {start D : ℕ → ℕ} {u : ℕ}
    → LeastDistances net uses start D → (v : Via net uses D u) → D u ≡ offered D v.arc
Via-exact {D} l v =
    let b = l.least v.arc v.has v.used v.known in
    omega (arith, v.long, ap D v.hearer)

-- The measures ------------------------------------------------------------------------------------------------------------

sum_le : (f g : ℕ → ℕ) → ((u : ℕ) → f u ≤ g u) → (net : List Arc) → sum_over f net ≤ sum_over g net
unfolding sum_over
sum_le f g h [] = omega arith
sum_le f g h (a ∷ net) = omega (arith, h a.hearer, sum_le f g h net)

sum_lt : (f g : ℕ → ℕ) → ((u : ℕ) → f u ≤ g u) → (net : List Arc) (a : Arc) → In a net → f a.hearer < g a.hearer
    → sum_over f net < sum_over g net
unfolding sum_over
sum_lt f g h [] a x'' l = elim x'' [ ]
sum_lt f g h (b ∷ net) a (inl e) l = omega (arith, sum_le f g h net, rw e at l)
sum_lt f g h (b ∷ net) a (inr m) l = omega (arith, h b.hearer, sum_lt f g h net a m l)

unknown_none : (D : ℕ → ℕ) (u : ℕ) → D u ≡ 0 → unknown D u ≡ 1
unfolding unknown
unknown_none D u e = cc (eq-eqb (D u) 0 e)

unknown_some : (D : ℕ → ℕ) (u : ℕ) → 1 ≤ D u → unknown D u ≡ 0
unfolding unknown
unknown_some D u k = (let n : D u ≢ 0 = omega arith in cc (ne_eqb (D u) 0 n))

unknown-le : (D E : ℕ → ℕ) (u : ℕ) → (1 ≤ D u → 1 ≤ E u) → unknown E u ≤ unknown D u
unknown-le D E u h = go (ℕ_discrete (D u) 0) (ℕ_discrete (E u) 0)
  where
    go : Dec (D u ≡ 0) → Dec (E u ≡ 0) → unknown E u ≤ unknown D u
    go (yes p) (yes q) = omega (arith, unknown_none D u p, unknown_none E u q)
    go (yes p) (no q) = omega (arith, unknown_some E u (omega arith))
    go (no p) q = omega (arith, unknown_some E u (h (omega arith)))

module _ (net : List Arc) (uses : Arc → Bool) where
  -- A gain, and none ------------------------------------------------------------------------------------------------------

  record Gained (D : ℕ → ℕ) (a : Arc) : Type 0 where
    used : uses a ≡ true
    known : 1 ≤ D a.neighbour
    gain : (D a.hearer ≡ 0) ⊎ (offered D a < D a.hearer)

  gains-true : (D : ℕ → ℕ) (a : Arc) → gains uses D a ≡ true → Gained D a
  unfolding gains
  gains-true D a e =
      let f = and_left (uses a && leb 1 (D a.neighbour)) _ e in
      let g = and_right (uses a && leb 1 (D a.neighbour)) _ e in
      record {
        used = and_left (uses a) _ f;
        known = leb-true 1 (D a.neighbour) (and_right (uses a) _ f);
        gain =
            ⊎_elim (λ z. inl (eqb-true (D a.hearer) 0 z)) (λ l. inr (ltb-true (offered D a) (D a.hearer) l))
            (or_one (eqb (D a.hearer) 0) _ g);
      }

  gains-false : (D : ℕ → ℕ) (a : Arc) → gains uses D a ≡ false → uses a ≡ true → 1 ≤ D a.neighbour
      → (1 ≤ D a.hearer) × (D a.hearer ≤ offered D a)
  unfolding gains
  gains-false D a e u k =
      let t = and_yes (uses a) _ u (le-leb 1 (D a.neighbour) k) in
      let (p, q) = or_no _ _ (and_no (uses a && leb 1 (D a.neighbour)) _ e t) in
      let n = eqb-false (D a.hearer) 0 p in
      omega (arith, ltb-false (offered D a) (D a.hearer) q)

  data First (D : ℕ → ℕ) (w : List Arc) : Gain → Type 0 where
    no_gain : ((a : Arc) → In a w → gains uses D a ≡ false) → First D w still
    a_gain : (a : Arc) → In a w → gains uses D a ≡ true → First D w (over a)

  First-is : (D : ℕ → ℕ) (w : List Arc) → First D w (first_gain uses D w)
  unfolding first_gain
  First-is D [] = no_gain (λ a m. absurd m)
  First-is D (b ∷ w) = go (gains uses D b) refl (First-is D w)
    where
      go : {g : Gain} (t : Bool) → gains uses D b ≡ t → First D w g → First D (b ∷ w) (gain_or b g t)
      go true e r = a_gain b (inl refl) e
      go false e (no_gain r) = no_gain (λ a m. ⊎_elim (λ q. ap (gains uses D) q ∙ e) (r a) m)
      go false e (a_gain a m t) = a_gain a (inr m) t

  -- A gain taken ----------------------------------------------------------------------------------------------------------

  module _ (D : ℕ → ℕ) (a : Arc) (g : Gained D a) where
    relaxed_same : (u : ℕ) → u ≡ a.hearer → relaxed D a u ≡ offered D a
    relaxed_same u e = changed_same D a.hearer (offered D a) u e

    relaxed_other : (u : ℕ) → u ≢ a.hearer → relaxed D a u ≡ D u
    relaxed_other u ne = changed_other D a.hearer (offered D a) u ne

    relaxed_known : (u : ℕ) → 1 ≤ D u → (1 ≤ relaxed D a u) × (relaxed D a u ≤ D u)
    relaxed_known u k = go (ℕ_discrete u a.hearer) g.gain
      where
        go : Dec (u ≡ a.hearer) → (D a.hearer ≡ 0) ⊎ (offered D a < D a.hearer) → (1 ≤ relaxed D a u) × (relaxed D a u ≤ D u)
        go (yes e) (inl z) = absurd (omega (arith, ap D e))
        go (yes e) (inr l) = omega (arith, ap D e, relaxed_same u e, g.known)
        go (no ne) l = omega (arith, relaxed_other u ne)

    no_more_unknown : (u : ℕ) → unknown (relaxed D a) u ≤ unknown D u
    no_more_unknown u = unknown-le D (relaxed D a) u (λ k. (relaxed_known u k).0)

    fewer_unknown : D a.hearer ≡ 0 → In a net → sum_over (unknown (relaxed D a)) net < sum_over (unknown D) net
    fewer_unknown z m =
        let k : 1 ≤ relaxed D a a.hearer = omega (arith, relaxed_same a.hearer refl, g.known) in
        sum_lt (unknown (relaxed D a)) (unknown D) no_more_unknown net a m
        (omega (arith, unknown_none D a.hearer z, unknown_some (relaxed D a) a.hearer k))

    less_sum : offered D a < D a.hearer → In a net → sum_over (relaxed D a) net < sum_over D net
    less_sum l m = sum_lt (relaxed D a) D (λ u. at u (ℕ_discrete u a.hearer)) net a m (omega (arith, relaxed_same a.hearer refl))
      where
        at : (u : ℕ) → Dec (u ≡ a.hearer) → relaxed D a u ≤ D u
        at u (yes e) = omega (arith, ap D e, relaxed_same u e)
        at u (no ne) = omega (arith, relaxed_other u ne)

  -- The recursion ---------------------------------------------------------------------------------------------------------

  module _ (start : ℕ → ℕ) (free : (a : Arc) → uses a ≡ true → start a.hearer ≡ 0) where
    -- what every gain keeps
    record Kept (D : ℕ → ℕ) : Type 0 where
      starts : (u : ℕ) → 1 ≤ start u → D u ≡ start u
      via : (u : ℕ) → 1 ≤ D u → start u ≡ 0 → Via net uses D u

    relaxed-Kept : (D : ℕ → ℕ) (a : Arc) → In a net → Gained D a → Kept D → Kept (relaxed D a)
    relaxed-Kept D a m g i =
        record { starts = λ u k. at u k (ℕ_discrete u a.hearer); via = λ u k z. on u k z (ℕ_discrete u a.hearer) }
      where
        at : (u : ℕ) → 1 ≤ start u → Dec (u ≡ a.hearer) → relaxed D a u ≡ start u
        at u k (yes e) = absurd (omega (arith, ap start e, free a g.used))
        at u k (no ne) = relaxed_other D a g u ne ∙ i.starts u k

        on : (u : ℕ) → 1 ≤ relaxed D a u → start u ≡ 0 → Dec (u ≡ a.hearer) → Via net uses (relaxed D a) u
        on u k z (yes e) =
            let n = relaxed_known D a g a.neighbour g.known in
            record { arc = a; has = m; used = g.used; hearer = sym e; known = n.0; long = omega (arith, relaxed_same D a g u e) }
        on u k z (no ne) =
            let r = relaxed_other D a g u ne in
            let v = i.via u (omega arith) z in
            let n = relaxed_known D a g v.arc.neighbour v.known in
            record { arc = v.arc; has = v.has; used = v.used; hearer = v.hearer; known = n.0; long = omega (arith, v.long) }

    Least : (ℕ → ℕ) → Type 0
    Least = LeastDistances net uses start

    unknowns : (ℕ → ℕ) → ℕ
    unknowns D = sum_over (unknown D) net

    take_least : (new less : (ℕ → ℕ) → ℕ → ℕ) (D : ℕ → ℕ) → Kept D → ((E : ℕ → ℕ) → Kept E → unknowns E < unknowns D → Least (new E))
        → ((E : ℕ → ℕ) → Kept E → unknowns E ≤ unknowns D → sum_over E net < sum_over D net → Least (less E))
        → {g : Gain} → First D net g → Least (take_gain new less D g)
    unfolding Least unknowns
    take_least new less D i n l (no_gain f) =
        record { starts = i.starts; via = i.via; least = λ a m u k. gains-false D a (f a m) u k }
    take_least new less D i n l (a_gain a m t) = go (eqb (D a.hearer) 0) refl
      where
        g : Gained D a
        g = gains-true D a t

        lesser : D a.hearer ≢ 0 → offered D a < D a.hearer
        lesser ne = ⊎_elim (λ z. absurd (ne z)) (λ s. s) g.gain

        go : (b : Bool) → eqb (D a.hearer) 0 ≡ b → LeastDistances net uses start (gain_by new less (relaxed D a) b)
        go true e = n (relaxed D a) (relaxed-Kept D a m g i) (fewer_unknown D a g (eqb-true (D a.hearer) 0 e) m)
        go false e =
            l (relaxed D a) (relaxed-Kept D a m g i) (sum_le (unknown (relaxed D a)) (unknown D) (no_more_unknown D a g) net)
            (less_sum D a g (lesser (eqb-false (D a.hearer) 0 e)) m)

    shorten_least : (k : ℕ) (new : (ℕ → ℕ) → ℕ → ℕ) → ((E : ℕ → ℕ) → Kept E → unknowns E < k → Least (new E))
        → (m : ℕ) (D : ℕ → ℕ) → Kept D → unknowns D < suc k → sum_over D net < m → Least (shorten net uses new m D)
    unfolding shorten
    shorten_least k new next zero D i p q = absurd (omega arith)
    shorten_least k new next (suc m) D i p q =
        take_least new (shorten net uses new m) D i (λ E j r. next E j (omega arith))
        (λ E j r s. shorten_least k new next m E j (omega arith) (omega arith)) (First-is D net)

    extend-Least : (k : ℕ) (D : ℕ → ℕ) → Kept D → unknowns D < k → Least (extend net uses k D)
    unfolding extend
    extend-Least zero D i p = absurd (omega arith)
    extend-Least (suc k) D i p =
        shorten_least k (extend net uses k) (λ E j q. extend-Least k E j q) (suc (sum_over D net)) D i p (omega arith)

    pub settle_least : LeastDistances net uses start (settle net uses start)
    unfolding settle Least unknowns
    settle_least =
        extend-Least (suc (sum_over (unknown start) net)) start
        (record { starts = λ u k. refl; via = λ u k z. absurd (omega arith) }) (omega arith)
