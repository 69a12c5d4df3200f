-- Every network has a stable routing to each destination, customer rings or not: the types and lengths of `marks` are those of best
-- offers, phase by phase from what each leaves as least distances. Where costs are at least 1 it is the only one.
use Prim.Native.Nat.{ℕ, ◌≤◌, ◌+◌, ◌-◌}
use mathlib.Core.Path.{◌≡◌, refl, sym, ◌∙◌}
use mathlib.Core.Logic.{◌≢◌}
use mathlib.Core.Bool.{true}
use mathlib.Core.List.{List}
use native.Mathlib.Omega.{arith}
use lib.Dec.{leb, eqb}
use borrow.Author.Tests.{leb-true, eqb-true, eq-eqb, ne_eqb, le-leb}
use Rattle.rules.specs.Lists.{In}
use Rattle.rules.specs.Offers.{Arc}
use Rattle.rules.specs.Stable.{Routing, Stable}
use Rattle.rules.specs.Solve.{leaving, between, start, up, across, down, typed, marks, stable_of}
use Rattle.rules.proofs.Faces.{Ext, cust, peer, prov, typ, len, Heard, Marked}
use Rattle.rules.proofs.Tests.{tests, by_cond, and_left, and_right, and_yes}
use Rattle.rules.proofs.StableFaces.{due-Stable}
use Rattle.rules.proofs.Unique.{Stable-unique}
use Rattle.rules.proofs.SettleLaws.{offered, LeastDistances, settle_least, Via-exact}

-- the arcs of a phase
leaving-kind : (k : ℕ) (s : ℕ → ℕ) (a : Arc) → leaving k s a ≡ true → a.kind ≡ k
unfolding leaving
leaving-kind k s a e = eqb-true a.kind k (and_left (eqb a.kind k) _ e)

leaving_free : (k : ℕ) (s : ℕ → ℕ) (a : Arc) → leaving k s a ≡ true → s a.hearer ≡ 0
unfolding leaving
leaving_free k s a e = eqb-true (s a.hearer) 0 (and_right (eqb a.kind k) _ e)

leaving_yes : (k : ℕ) (s : ℕ → ℕ) (a : Arc) → a.kind ≡ k → s a.hearer ≡ 0 → leaving k s a ≡ true
unfolding leaving
leaving_yes k s a p q = and_yes _ _ (eq-eqb a.kind k p) (eq-eqb (s a.hearer) 0 q)

start_own : (d : ℕ) → start d d ≡ 1
unfolding start
start_own d = cc (eq-eqb d d refl)

start_off : (d u : ℕ) → u ≢ d → start d u ≡ 0
unfolding start
start_off d u ne = cc (ne_eqb u d ne)

-- which phase knows a way first, from its three distances: x, y and z, and the type t
data Phase (x y z t : ℕ) : Type 0 where
  upward : 1 ≤ x → y ≡ x → z ≡ x → t ≡ 1 → Phase x y z t
  sideward : x ≡ 0 → 1 ≤ y → z ≡ y → t ≡ 2 → Phase x y z t
  downward : x ≡ 0 → y ≡ 0 → 1 ≤ z → t ≡ 3 → Phase x y z t
  never : x ≡ 0 → y ≡ 0 → z ≡ 0 → t ≡ 4 → Phase x y z t

Phase-is : (x y z : ℕ) → (1 ≤ x → y ≡ x) → (1 ≤ y → z ≡ y) → Phase x y z (typed x y z)
unfolding typed
Phase-is x y z f g =
    by_cond (Phase x y z) (leb 1 x) 1 _
    (λ p. (let e = f (leb-true 1 x p) in upward (omega tests) e (omega (tests, g (omega tests))) refl))
    (λ p. by_cond (Phase x y z) (leb 1 y) 2 _ (λ q. sideward (omega tests) (omega tests) (g (leb-true 1 y q)) refl)
    (λ q. by_cond (Phase x y z) (leb 1 z) 3 4 (λ r. downward (omega tests) (omega tests) (omega tests) refl)
    (λ r. never (omega tests) (omega tests) (omega tests) refl)))

-- what the type tells of the distances, and they of it
record Reading (x y z t : ℕ) : Type 0 where
  low : 1 ≤ t
  high : t ≤ 4
  one : 1 ≤ x → t ≡ 1
  up_is : t ≡ 1 → (1 ≤ x) × (y ≡ x) × (z ≡ x)
  reached : 1 ≤ z → t ≤ 3
  known : t ≤ 3 → 1 ≤ z
  lost : t ≡ 4 → z ≡ 0

reading : {x y z t : ℕ} → Phase x y z t → Reading x y z t
reading (upward x y z t) = omega arith
reading (sideward x y z t) = omega arith
reading (downward x y z t) = omega arith
reading (never x y z t) = omega arith

module _ (net : List Arc) (d : ℕ) where
  abbrev D₁ : ℕ → ℕ
  D₁ = up net d

  abbrev D₂ : ℕ → ℕ
  D₂ = across net d

  abbrev D₃ : ℕ → ℕ
  D₃ = down net d

  abbrev R : Routing
  R = marks net d

  up_least : LeastDistances net (leaving 1 (start d)) (start d) D₁
  unfolding up
  up_least = settle_least net (leaving 1 (start d)) (start d) (leaving_free 1 (start d))

  across_least : LeastDistances net (between D₁) D₁ D₂
  unfolding across between
  across_least = settle_least net (between D₁) D₁ (λ a e. leaving_free 2 D₁ a (and_left (leaving 2 D₁ a) _ e))

  down_least : LeastDistances net (leaving 3 D₂) D₂ D₃
  unfolding down
  down_least = settle_least net (leaving 3 D₂) D₂ (leaving_free 3 D₂)

  phase : (u : ℕ) → Phase (D₁ u) (D₂ u) (D₃ u) (typ R u)
  unfolding marks
  phase u = Phase-is (D₁ u) (D₂ u) (D₃ u) (across_least.starts u) (down_least.starts u)

  read : (u : ℕ) → Reading (D₁ u) (D₂ u) (D₃ u) (typ R u)
  read u = reading (phase u)

  marks_Heard : (u : ℕ) → u ≢ d → typ R u ≤ 3 → Heard (λ a. In a net) R u
  unfolding marks between
  marks_Heard u ne h = go (phase u)
    where
      go : Phase (D₁ u) (D₂ u) (D₃ u) (typ R u) → Heard (λ a. In a net) R u
      go (upward x y z t) =
          let v = up_least.via u x (start_off d u ne) in
          let e = (read v.arc.neighbour).one v.known in
          record {
            arc = v.arc;
            has = v.has;
            hearer = v.hearer;
            ext = cust (leaving-kind 1 (start d) v.arc v.used) e t;
            long = omega (arith, Via-exact up_least v, (read v.arc.neighbour).up_is e);
          }
      go (sideward x y z t) =
          let v = across_least.via u y x in
          let l = and_left (leaving 2 D₁ v.arc) _ v.used in
          let k = leb-true 1 (D₁ v.arc.neighbour) (and_right (leaving 2 D₁ v.arc) _ v.used) in
          let e = (read v.arc.neighbour).one k in
          record {
            arc = v.arc;
            has = v.has;
            hearer = v.hearer;
            ext = peer (leaving-kind 2 D₁ v.arc l) e t;
            long = omega (arith, Via-exact across_least v, (read v.arc.neighbour).up_is e);
          }
      go (downward x y z t) =
          let v = down_least.via u z y in
          let r = read v.arc.neighbour in
          record {
            arc = v.arc;
            has = v.has;
            hearer = v.hearer;
            ext = prov (leaving-kind 3 D₂ v.arc v.used) r.low (r.reached v.known) t;
            long = omega (arith, Via-exact down_least v, v.known);
          }
      go (never x y z t) = absurd (omega arith)

  module _ (a : Arc) (m : In a net) (ne : a.hearer ≢ d) where
    abbrev u : ℕ
    u = a.hearer

    abbrev v : ℕ
    v = a.neighbour

    -- no arc of the phase gives its hearer less than the phase leaves it
    over_up : a.kind ≡ 1 → typ R v ≡ 1 → (1 ≤ D₁ u) × (D₁ u ≤ offered D₁ a)
    over_up p q = up_least.least a m (leaving_yes 1 (start d) a p (start_off d u ne)) ((read v).up_is q).0

    over_across : a.kind ≡ 2 → typ R v ≡ 1 → D₁ u ≡ 0 → (1 ≤ D₂ u) × (D₂ u ≤ offered D₂ a)
    unfolding between
    over_across p q z =
        let f = (read v).up_is q in
        across_least.least a m (and_yes _ _ (leaving_yes 2 D₁ a p z) (le-leb 1 (D₁ v) f.0)) (omega arith)

    over_down : a.kind ≡ 3 → typ R v ≤ 3 → D₂ u ≡ 0 → (1 ≤ D₃ u) × (D₃ u ≤ offered D₃ a)
    over_down p q z = down_least.least a m (leaving_yes 3 D₂ a p z) ((read v).known q)

    marks_least : (e : ℕ) → Ext a.kind (typ R v) e → (typ R u ≤ e) × (typ R u ≡ e → len R u ≤ len R v + a.cost)
    unfolding marks
    marks_least e (cust p q r) =
        let b = over_up p q in
        let t = (read u).one b.0 in
        omega (arith, (read u).up_is t, (read v).up_is q)
    marks_least e (peer p q r) = go (phase u)
      where
        go : Phase (D₁ u) (D₂ u) (D₃ u) (typ R u) → (typ R u ≤ e) × (typ R u ≡ e → D₃ u - 1 ≤ D₃ v - 1 + a.cost)
        go (upward x y z t) = omega arith
        go (sideward x y z t) = omega (arith, over_across p q x, (read v).up_is q)
        go (downward x y z t) = absurd (omega (arith, over_across p q x))
        go (never x y z t) = absurd (omega (arith, over_across p q x))
    marks_least e (prov p l h r) = go (phase u)
      where
        go : Phase (D₁ u) (D₂ u) (D₃ u) (typ R u) → (typ R u ≤ e) × (typ R u ≡ e → D₃ u - 1 ≤ D₃ v - 1 + a.cost)
        go (upward x y z t) = omega arith
        go (sideward x y z t) = omega arith
        go (downward x y z t) = omega (arith, over_down p h y, (read v).known h)
        go (never x y z t) = absurd (omega (arith, over_down p h y))

  pub marks-Marked : Marked (λ a. In a net) d (marks net d)
  unfolding marks
  marks-Marked =
      let o : D₁ d ≡ 1 = up_least.starts d (omega (arith, start_own d)) ∙ start_own d in
      let t = (read d).one (omega arith) in
      record {
        own_typ = t;
        own_len = omega (arith, (read d).up_is t);
        low = λ u. (read u).low;
        high = λ u. (read u).high;
        heard = marks_Heard;
        least = λ u ne a m h e x. rw (← h) (marks_least a m (λ q. ne (sym h ∙ q)) e x);
        lost_len = λ u ne q. omega (arith, (read u).lost q);
      }

  pub stable_of-Stable : Stable net d (stable_of net d)
  unfolding stable_of
  stable_of-Stable = due-Stable net d (marks net d) marks-Marked

-- whichever is stable is that one
pub Stable-only : (net : List Arc) → ((a : Arc) → In a net → 1 ≤ a.cost) → (d : ℕ) (R : Routing) → Stable net d R → R ≡ stable_of net d
Stable-only net pos d R r = Stable-unique net pos d R (stable_of net d) r (stable_of-Stable net d)

-- there is one stable routing and only one
pub exactly_one : (net : List Arc) → ((a : Arc) → In a net → 1 ≤ a.cost) → (d : ℕ)
    → (R : Routing) × Stable net d R × ((S : Routing) → Stable net d S → S ≡ R)
exactly_one net pos d = (stable_of net d, stable_of-Stable net d, Stable-only net pos d)
