-- The judge accepts exactly the lines of the stable routing. Lines that stand name the ASes in order, lines that are best offers make
-- the printed routing stable, and there is one stable routing only.
use Prim.Native.Nat.{ℕ, suc, ◌≤◌}
use mathlib.Core.Path.{◌≡◌, refl, ap}
use mathlib.Core.Logic.{inl, inr}
use mathlib.Core.Bool.{true, false, not, ◌&&◌}
use mathlib.Core.List.{List, [], ◌∷◌}
use native.Mathlib.Omega.{arith}
use native.Mathlib.Decide.{ℕ_discrete}
use lib.Dec.{ltb, leb, eqb}
use borrow.Author.Tests.{leb-true, ltb-false, eqb-true, eq-eqb, ne_eqb, le-leb, le-ltb, not-true}
use Rattle.std.specs.Prelude.{Ok}
use Rattle.rules.specs.declared.Refusal.TheVariants.{CannotStand, NotBest}
use Rattle.rules.specs.Pairs.{same_as}
use Rattle.rules.specs.Lists.{In}
use Rattle.rules.specs.Offers.{Arc}
use Rattle.rules.specs.Stable.{Line, Routing, due}
use Rattle.rules.specs.Judge.{Entry, entries_for, stands, standing_from, is_same_line, best_from}
use Rattle.rules.proofs.Tests.{and_left, and_right, and_no}
use Rattle.rules.proofs.VerdictLaws.{test_passes}
use Rattle.rules.proofs.MachineLaws.{same_as-true}
use Rattle.rules.proofs.LineLaws.{numbers}

-- Lines that stand ----------------------------------------------------------------------------------------------------

pub record Standing (bound u : ℕ) (e : Entry) : Type 0 where
  pub number : e.number ≡ u
  pub low : 1 ≤ e.line.pair.typ
  pub high : e.line.pair.typ ≤ 4
  pub bare : e.line.pair.typ ≡ 4 → e.line.pair.length ≡ 0
  pub short : e.line.pair.length ≤ bound

pub stands_is : (bound u : ℕ) (e : Entry) → stands bound u e ≡ true → Standing bound u e
unfolding stands
stands_is bound u e h =
    let t = e.line.pair.typ in
    let l = e.line.pair.length in
    let n = eqb e.number u in
    let x = not (eqb t 4 && ltb 0 l) in
    let abcd = and_left (n && leb 1 t && leb t 4 && x) (leb l bound) h in
    let abc = and_left (n && leb 1 t && leb t 4) x abcd in
    let ab = and_left (n && leb 1 t) (leb t 4) abc in
    record {
      number = eqb-true e.number u (and_left n (leb 1 t) ab);
      low = leb-true 1 t (and_right n (leb 1 t) ab);
      high = leb-true t 4 (and_right (n && leb 1 t) (leb t 4) abc);
      bare = λ q. none_long t l (and_right (n && leb 1 t && leb t 4) x abcd) q;
      short = leb-true l bound (and_right (n && leb 1 t && leb t 4 && x) (leb l bound) h);
    }
  where
    none_long : (t l : ℕ) → not (eqb t 4 && ltb 0 l) ≡ true → t ≡ 4 → l ≡ 0
    none_long t l h q =
        let f : ltb 0 l ≡ false = and_no (eqb t 4) (ltb 0 l) (not-true _ h) (eq-eqb t 4 q) in
        omega (arith, ltb-false 0 l f)

pub stands_yes : (bound u : ℕ) (e : Entry) → Standing bound u e → stands bound u e ≡ true
unfolding stands
stands_yes bound u e s = go (ℕ_discrete e.line.pair.typ 4)
  where
    go : Dec (e.line.pair.typ ≡ 4) → stands bound u e ≡ true
    go (yes q) =
        cc (
          eq-eqb _ _ s.number,
          le-leb _ _ s.low,
          le-leb _ _ s.high,
          eq-eqb _ _ q,
          le-ltb 0 e.line.pair.length (omega (arith, s.bare q)),
          le-leb _ _ s.short,
        )
    go (no n) = cc (eq-eqb _ _ s.number, le-leb _ _ s.low, le-leb _ _ s.high, ne_eqb _ _ n, le-leb _ _ s.short)

-- the ASes are named in order
pub standing_numbers : (bound i : ℕ) (us : List ℕ) (es : List Entry) → standing_from bound i us es ≡ Ok tt → numbers es ≡ us
unfolding standing_from
standing_numbers bound i [] [] e = refl
standing_numbers bound i [] (x ∷ es) e = cc
standing_numbers bound i (u ∷ us) [] e = cc
standing_numbers bound i (u ∷ us) (x ∷ es) e =
    let t = test_passes (stands bound u x) (standing_from bound (suc i) us es) (CannotStand i) e in
    let n = (stands_is bound u x t.0).number in
    let rest = standing_numbers bound (suc i) us es t.1 in
    cc

-- lines that all stand pass
pub Standing-passes : (bound i : ℕ) (R : Routing) (us : List ℕ) → ((u : ℕ) → In u us → Standing bound u (record { number = u; line = R u }))
    → standing_from bound i us (entries_for R us) ≡ Ok tt
unfolding standing_from entries_for
Standing-passes bound i R [] all = refl
Standing-passes bound i R (u ∷ us) all =
    cc (stands_yes bound u (record { number = u; line = R u }) (all u (inl refl)), Standing-passes bound (suc i) R us (λ v m. all v (inr m)))

-- Lines that are best offers ------------------------------------------------------------------------------------------

pub is_same_line-true : (x y : Line) → is_same_line x y ≡ true → x ≡ y
unfolding is_same_line
is_same_line-true x y e =
    let p = same_as-true x.pair y.pair (and_left (same_as x.pair y.pair) (eqb x.next y.next) e) in
    let n = eqb-true x.next y.next (and_right (same_as x.pair y.pair) (eqb x.next y.next) e) in
    λ i. record { pair = p i; next = n i }

pub is_same_line_refl : (x y : Line) → x ≡ y → is_same_line x y ≡ true
unfolding is_same_line same_as
is_same_line_refl x y e =
    cc (
      eq-eqb x.pair.typ y.pair.typ (ap (λ (l : Line). l.pair.typ) e),
      eq-eqb x.pair.length y.pair.length (ap (λ (l : Line). l.pair.length) e),
      eq-eqb x.next y.next (ap (λ (l : Line). l.next) e),
    )

module _ (net : List Arc) (d : ℕ) (R : Routing) where
  pub best_lines : (i : ℕ) (es : List Entry) → best_from net d R i es ≡ Ok tt → (e : Entry) → In e es → e.line ≡ due net d R e.number
  unfolding best_from
  best_lines i [] p e x'' = elim x'' [ ]
  best_lines i (x ∷ es) p e (inl q) =
      let t = test_passes (is_same_line x.line (due net d R x.number)) (best_from net d R (suc i) es) (NotBest i) p in
      rw q (is_same_line-true x.line (due net d R x.number) t.0)
  best_lines i (x ∷ es) p e (inr m) =
      let t = test_passes (is_same_line x.line (due net d R x.number)) (best_from net d R (suc i) es) (NotBest i) p in
      best_lines (suc i) es t.1 e m

  pub best_passes : (i : ℕ) (es : List Entry) → ((e : Entry) → In e es → e.line ≡ due net d R e.number) → best_from net d R i es ≡ Ok tt
  unfolding best_from
  best_passes i [] all = refl
  best_passes i (x ∷ es) all =
      cc (is_same_line_refl x.line (due net d R x.number) (all x (inl refl)), best_passes (suc i) es (λ e m. all e (inr m)))
