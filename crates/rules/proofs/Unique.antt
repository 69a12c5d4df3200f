-- At most one routing is stable, rings or not: any two marked routings have the same pairs, so the same is due.
-- By induction on the type, and for one type on the length, a line of the one bounds the other's: its neighbour's does already.
use Prim.Native.Nat.{ℕ, zero, suc, ◌≤◌, ◌<◌}
use mathlib.Core.Path.{◌≡◌, sym, ◌∙◌, ap, fun_ext}
use mathlib.Core.Logic.{◌≢◌}
use mathlib.Core.List.{List}
use native.Mathlib.Omega.{arith}
use native.Mathlib.Decide.{ℕ_discrete, dec_le}
use Rattle.rules.specs.Lists.{In}
use Rattle.rules.specs.Offers.{Arc}
use Rattle.rules.specs.Stable.{Routing, Stable}
use Rattle.rules.proofs.Faces.{typ, len, Marked}
use Rattle.rules.proofs.Tests.{by_len}
use Rattle.rules.proofs.OfferLaws.{pair_same, Ext-range}
use Rattle.rules.proofs.StableFaces.{due_same, stable_Settled}

-- S's line at u is of R's type and no longer
record Under (R S : Routing) (u : ℕ) : Type 0 where
  same : typ S u ≡ typ R u
  short : len S u ≤ len R u

module _ (Has : Arc → Type 0) (pos : (a : Arc) → Has a → 1 ≤ a.cost) (d : ℕ) where
  -- one line, from those of R that are shorter, and from S's where its type is smaller
  Under-step : (R S : Routing) (r : Marked Has d R) (s : Marked Has d S) (u : ℕ) → typ R u ≤ 3
      → ((v : ℕ) → len R v < len R u → typ R v ≤ typ R u → Under R S v) → (typ S u < typ R u → Under S R u) → Under R S u
  Under-step R S r s u t below other = at (ℕ_discrete u d)
    where
      at : Dec (u ≡ d) → Under R S u
      at (yes e) = rw e (record { same = omega (arith, r.own_typ, s.own_typ); short = omega (arith, s.own_len) })
      at (no ne) =
          let h = r.heard u ne t in
          let x = Ext-range h.ext in
          let b = below h.arc.neighbour (omega (arith, h.long, pos h.arc h.has)) x.1 in
          let m = s.least u ne h.arc h.has h.hearer (typ R u) (rw b.same h.ext) in
          let n : ¬ (typ S u < typ R u) = (λ l. omega (arith, (other l).same)) in
          let e : typ S u ≡ typ R u = omega (arith, m.0) in
          record { same = e; short = omega (arith, m.1 e, b.short, h.long) }

  under : (k : ℕ) (R S : Routing) → Marked Has d R → Marked Has d S → (u : ℕ) → typ R u ≤ 3 → typ R u < k → Under R S u
  under zero R S r s = λ u t l. absurd (omega arith)
  under (suc k) R S r s =
      by_len (len R) (λ u. typ R u ≤ 3 → typ R u < suc k → Under R S u)
      (λ u below t l. Under-step R S r s u t
      (λ v m n. below v m (omega arith) (omega arith)) (λ n. under k S R s r u (omega arith) (omega arith)))

  -- marked routings agree in type and length
  pub same_pairs : (R S : Routing) → Marked Has d R → Marked Has d S → (u : ℕ) → (R u).pair ≡ (S u).pair
  same_pairs R S r s u = pair_same (go (dec_le (typ R u) 3) (dec_le (typ S u) 3))
    where
      go : Dec (typ R u ≤ 3) → Dec (typ S u ≤ 3) → (typ R u ≡ typ S u) × (len R u ≡ len S u)
      go (yes a) (yes b) = omega (arith, under 4 R S r s u a (omega arith), under 4 S R s r u b (omega arith))
      go (yes a) (no b) = absurd (omega (arith, under 4 R S r s u a (omega arith)))
      go (no a) (yes b) = absurd (omega (arith, under 4 S R s r u b (omega arith)))
      go (no a) (no b) =
          let ne : u ≢ d = (λ e. omega (arith, r.own_typ, ap (typ R) e)) in
          let p : typ R u ≡ 4 = omega (arith, r.high u) in
          let q : typ S u ≡ 4 = omega (arith, s.high u) in
          omega (arith, r.lost_len u ne p, s.lost_len u ne q)

-- two stable routings of one network and destination are one, next hops included
pub Stable-unique : (net : List Arc) → ((a : Arc) → In a net → 1 ≤ a.cost) → (d : ℕ) (R S : Routing)
    → Stable net d R → Stable net d S → R ≡ S
Stable-unique net pos d R S r s =
    let same = same_pairs (λ a. In a net) pos d R S (stable_Settled net d R r).marked (stable_Settled net d S s).marked in
    fun_ext (λ u. r u ∙ due_same net d R S same u ∙ sym (s u))
