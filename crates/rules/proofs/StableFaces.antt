-- The two faces of stability agree: a stable routing is settled, and a marked one has the pairs that are due, so that what is due
-- of it is stable. By the cases of the best offer: nothing, or over an arc, and nothing better.
use Prim.Native.Nat.{ℕ, ◌≤◌}
use mathlib.Core.Path.{◌≡◌, refl, sym, ◌∙◌, ap}
use mathlib.Core.Logic.{◌⊎◌, inl, inr, ⊎_elim, ◌≢◌}
use mathlib.Core.List.{List}
use native.Mathlib.Omega.{arith}
use native.Mathlib.Decide.{ℕ_discrete, dec_le}
use borrow.Author.Tests.{eq-eqb, ne_eqb}
use Rattle.rules.specs.declared.TypeLength.{TypeLength}
use Rattle.rules.specs.Lists.{In}
use Rattle.rules.specs.Offers.{Arc, Offer, none, best}
use Rattle.rules.specs.Stable.{Line, Routing, own, lost, line_of, told, due, Stable}
use Rattle.rules.proofs.Faces.{typ, len, Marked, Hop, Settled}
use Rattle.rules.proofs.OfferLaws.{pair_same, Ext-range}
use Rattle.rules.proofs.BestLaws.{Source, nowhere, from_arc, best_is, best_Source, best_least, best_same}

-- What is due, by cases, hangs on the pairs alone -------------------------------------------------------------------------

module _ (net : List Arc) (d : ℕ) where
  pub due-own : (R : Routing) → due net d R d ≡ own d
  unfolding due
  due-own R = cc (eq-eqb d d refl)

  pub due_off : (R : Routing) (u : ℕ) → u ≢ d → due net d R u ≡ line_of (best (told R) u net)
  unfolding due
  due_off R u ne = cc (ne_eqb u d ne)

  pub due_same : (R S : Routing) → ((u : ℕ) → (R u).pair ≡ (S u).pair) → (u : ℕ) → due net d R u ≡ due net d S u
  unfolding due
  due_same R S same u = rw (best_same (told R) (told S) u net (λ a m h. same a.neighbour))

-- A stable routing is settled ---------------------------------------------------------------------------------------------

module _ (net : List Arc) (d : ℕ) (R : Routing) (s : Stable net d R) where
  own_line : R d ≡ own d
  own_line = s d ∙ due-own net d R

  line : (u : ℕ) → u ≢ d → R u ≡ line_of (best (told R) u net)
  line u ne = s u ∙ due_off net d R u ne

  cases : (u : ℕ) → u ≢ d → (R u ≡ lost u) ⊎ Hop (λ a. In a net) R u
  unfolding none lost
  cases u ne = go (best_Source (best_is (told R) u net))
    where
      go : Source (told R) u net (best (told R) u net) → (R u ≡ lost u) ⊎ Hop (λ a. In a net) R u
      go (nowhere n) = inl (line u ne ∙ ap line_of n)
      go (from_arc a m h v) =
          inr (record {
            heard = record { arc = a; has = m; hearer = h; ext = rw (line u ne, typ) v.ext; long = rw (line u ne, len) v.long };
            next = rw (line u ne) v.next;
          })

  range : (u : ℕ) → (1 ≤ typ R u) × (typ R u ≤ 4)
  unfolding own lost
  range u = at (ℕ_discrete u d)
    where
      by : (R u ≡ lost u) ⊎ Hop (λ a. In a net) R u → (1 ≤ typ R u) × (typ R u ≤ 4)
      by (inl e) = rw (e, typ) (omega arith)
      by (inr h) = (let r = Ext-range h.heard.ext in omega arith)

      at : Dec (u ≡ d) → (1 ≤ typ R u) × (typ R u ≤ 4)
      at (yes e) = rw (e, own_line, typ) (omega arith)
      at (no ne) = by (cases u ne)

  hop : (u : ℕ) → u ≢ d → typ R u ≤ 3 → Hop (λ a. In a net) R u
  unfolding lost
  hop u ne t = ⊎_elim (λ e. absurd (omega (arith, ap (λ (l : Line). l.pair.typ) e))) (λ h. h) (cases u ne)

  no_hop : (u : ℕ) → u ≢ d → typ R u ≡ 4 → R u ≡ lost u
  no_hop u ne t = ⊎_elim (λ e. e) (λ h. absurd (omega (arith, (Ext-range h.heard.ext).2))) (cases u ne)

  pub stable_Settled : Settled (λ a. In a net) d R
  unfolding own lost
  stable_Settled =
      record {
        marked =
            record {
              own_typ = rw (own_line, typ);
              own_len = rw (own_line, len);
              low = λ u. (range u).0;
              high = λ u. (range u).1;
              heard = λ u ne t. (hop u ne t).heard;
              least = λ u ne a m h e x. rw (line u ne, typ, len) (best_least (best_is (told R) u net) a m h x);
              lost_len = λ u ne t. rw (no_hop u ne t, len);
            };
        own_next = cc own_line;
        hop = hop;
        lost_next = λ u ne t. cc (no_hop u ne t);
      }

-- A marked routing has the pairs that are due -----------------------------------------------------------------------------

module _ (net : List Arc) (d : ℕ) (R : Routing) (m : Marked (λ a. In a net) d R) where
  -- the election is no worse than the line
  no_worse : (u : ℕ) → u ≢ d → typ R u ≤ 3
      → ((best (told R) u net).pair.typ ≤ typ R u) × ((best (told R) u net).pair.typ ≡ typ R u → (best (told R) u net).pair.length ≤ len R u)
  no_worse u ne t =
      let h = m.heard u ne t in
      let b = best_least (best_is (told R) u net) h.arc h.has h.hearer h.ext in
      (b.0, λ e. omega (arith, b.1 e, h.long))

  off_pair : (u : ℕ) → u ≢ d → (best (told R) u net).pair ≡ (R u).pair
  unfolding none
  off_pair u ne = pair_same (go (best_Source (best_is (told R) u net)) (dec_le (typ R u) 3))
    where
      won : TypeLength
      won = (best (told R) u net).pair

      go : Source (told R) u net (best (told R) u net) → Dec (typ R u ≤ 3) → (won.typ ≡ typ R u) × (won.length ≡ len R u)
      go (nowhere n) (yes t) = absurd (omega (arith, no_worse u ne t, ap (λ (o : Offer). o.pair.typ) n))
      go (nowhere n) (no t) =
          let f : typ R u ≡ 4 = omega (arith, m.high u) in
          omega (arith, m.lost_len u ne f, ap (λ (o : Offer). o.pair.typ) n, ap (λ (o : Offer). o.pair.length) n)
      go (from_arc a i h v) (yes t) =
          let l = m.least u ne a i h won.typ v.ext in
          let w = no_worse u ne t in
          let e : won.typ ≡ typ R u = omega arith in
          (e, omega (arith, l.1 (sym e), w.1 e, v.long))
      go (from_arc a i h v) (no t) =
          absurd (omega (arith, (m.least u ne a i h won.typ v.ext).0, (Ext-range v.ext).2))

  pub marked_due : (u : ℕ) → (due net d R u).pair ≡ (R u).pair
  unfolding own
  marked_due u = at (ℕ_discrete u d)
    where
      at : Dec (u ≡ d) → (due net d R u).pair ≡ (R u).pair
      at (yes e) = rw (e, due-own net d R) (pair_same (sym m.own_typ, sym m.own_len))
      at (no ne) = rw (due_off net d R u ne) (off_pair u ne)

  pub due-Stable : Stable net d (due net d R)
  due-Stable u = due_same net d R (due net d R) (λ v. sym (marked_due v)) u

  pub marked_Stable : ((u : ℕ) → (R u).next ≡ (due net d R u).next) → Stable net d R
  marked_Stable hops u = λ i. record { pair = sym (marked_due u) i; next = hops u i }
