-- Laws of the first place of a byte: a field ends at the first bar, a line at the first LF, or where the bytes end.
--
--   place_within       the place lies within
--   place_found, place_none   what the library's search says of the place
--   cut                where `find` stops, a field ends
--   first_line_lem     where `find` stops, a line ends
use mathlib.Core.Path.{◌≡◌, refl, ap, ◌∙◌}
use mathlib.Core.Bool.{Bool, true, false, cond}
use mathlib.Core.List.{List, [], ◌∷◌}
use Prim.Native.Nat.{ℕ, suc, ◌+◌, ◌-◌, ◌≤◌, ◌<◌}
use native.Mathlib.Omega.{arith}
use lib.Dec.{eqb, ltb}
use lib.ListN.{length, take, drop, length-drop}
use lib.Seq.{drop-drop, length-take-le}
use borrow.Author.Tests.{ltb-false}
use Rattle.std.specs.Prelude.{Option, None, Some, position, ◌==◌}
use Rattle.std.specs.List.{position_or_len}
use Rattle.std.proofs.lemmas.List.Recursion.{is_position_or_len}
use Rattle.rules.proofs.Tests.{by_cond, clash}
use Rattle.linktext.specs.Lines.{lf, bar, before_bar, after_bar}
use Rattle.linktext.specs.Texts.{onto, lines_of}
use Rattle.linktext.specs.Fields.{place_of, Cut}

-- a fact about a test, from its two outcomes
by_test : (P : Bool → Type 0) (t : Bool) → P true → P false → P t
by_test P true a b = a
by_test P false a b = b

pub place_le : (c : ℕ) (l : List ℕ) → place_of c l ≤ length l
unfolding place_of
place_le c [] = omega arith
place_le c (x ∷ l) =
    let more = place_le c l in
    by_test (λ (t : Bool). cond t 0 (suc (place_of c l)) ≤ suc (length l)) (eqb x c) (omega arith) (omega arith)

pub place_within : (c : ℕ) (l : List ℕ) (from end : ℕ) → from ≤ length l → end ≡ from + place_of c (drop from l) → end ≤ length l
place_within c l from end h e = omega (arith, place_le c (drop from l), length-drop from l)

searched : (c : ℕ) (l : List ℕ) → place_of c l ≡ position_or_len (λ x. x == c) l
unfolding place_of
searched c l = is_position_or_len (place_of c) (λ x. x == c) refl (λ x xs. ap (λ (n : ℕ). cond (x == c) 0 n) (omega arith)) l

-- what the library's search finds is the place
pub place_found : (c i : ℕ) (l : List ℕ) → Some i ≡ position (λ x. x == c) l → i ≡ place_of c l
place_found c i l =
    by_cond (λ (o : Option ℕ). Some i ≡ o → i ≡ place_of c l) (ltb (position_or_len (λ x. x == c) l) (length l)) _ _
    (λ b e. let p = searched c l in cc)
    (λ b e. clash (cc))

-- .. and where it finds nothing, the place is the end
pub place_none : (c : ℕ) (l : List ℕ) → None ≡ position (λ x. x == c) l → place_of c l ≡ length l
place_none c l =
    by_cond (λ (o : Option ℕ). None ≡ o → place_of c l ≡ length l) (ltb (position_or_len (λ x. x == c) l) (length l)) _ _
    (λ b e. clash (cc))
    (λ b e. omega (arith, searched c l, place_le c l, ltb-false (position_or_len (λ x. x == c) l) (length l) b))

before_bar_lem : (l : List ℕ) → take (place_of bar l) l ≡ before_bar l
unfolding place_of before_bar
before_bar_lem [] = refl
before_bar_lem (x ∷ l) =
    by_test (λ (t : Bool). take (cond t 0 (suc (place_of bar l))) (x ∷ l) ≡ cond t [] (x ∷ before_bar l)) (eqb x bar) refl
    (ap (λ (k : List ℕ). x ∷ k) (before_bar_lem l))

after_bar_lem : (l : List ℕ) → place_of bar l < length l → after_bar l ≡ Some (drop (suc (place_of bar l)) l)
unfolding place_of after_bar
after_bar_lem [] h = absurd (omega arith)
after_bar_lem (x ∷ l) h =
    by_test
    (λ (t : Bool). cond t 0 (suc (place_of bar l)) < suc (length l)
    → cond t (Some l) (after_bar l) ≡ Some (drop (suc (cond t 0 (suc (place_of bar l)))) (x ∷ l)))
    (eqb x bar)
    (λ k. refl)
    (λ k. after_bar_lem l (omega arith))
    h

no_bar : (l : List ℕ) → length l ≤ place_of bar l → after_bar l ≡ None
unfolding place_of after_bar
no_bar [] h = refl
no_bar (x ∷ l) h =
    by_test (λ (t : Bool). suc (length l) ≤ cond t 0 (suc (place_of bar l)) → cond t (Some l) (after_bar l) ≡ None) (eqb x bar)
    (λ k. absurd (omega arith))
    (λ k. no_bar l (omega arith))
    h

pub cut : (l : List ℕ) (from end : ℕ) → from ≤ length l → end ≡ from + place_of bar (drop from l) → Cut l from end
cut l from end h e =
    let p = place_of bar (drop from l) in
    let le = place_le bar (drop from l) in
    let len = length-drop from l in
    let d : end - from ≡ p = omega arith in
    let f : take (end - from) (drop from l) ≡ before_bar (drop from l) = rw d (before_bar_lem (drop from l)) in
    let s : from + suc p ≡ end + 1 = omega arith in
    record {
      after = omega arith;
      within = omega arith;
      field = f;
      long = omega (arith, ap length (before_bar_lem (drop from l)), length-take-le p (drop from l) le);
      more = λ k. after_bar_lem (drop from l) (omega arith) ∙ ap Some (drop-drop (suc p) from l ∙ ap (λ (n : ℕ). drop n l) s);
      last = λ k. no_bar (drop from l) (omega arith);
    }

first : (l : List ℕ) → 0 < length l → lines_of l ≡ take (place_of lf l) l ∷ lines_of (drop (suc (place_of lf l)) l)
unfolding place_of lines_of
first [] h = absurd (omega arith)
first (x ∷ []) h =
    by_test
    (λ (t : Bool). cond t ([] ∷ []) ((x ∷ []) ∷ []) ≡ take (cond t 0 1) (x ∷ []) ∷ lines_of (drop (suc (cond t 0 1)) (x ∷ [])))
    (eqb x lf)
    refl
    refl
first (x ∷ y ∷ l) h =
    by_test
    (λ (t : Bool). cond t ([] ∷ lines_of (y ∷ l)) (onto x (lines_of (y ∷ l)))
    ≡ take (cond t 0 (suc (place_of lf (y ∷ l)))) (x ∷ y ∷ l) ∷ lines_of (drop (suc (cond t 0 (suc (place_of lf (y ∷ l))))) (x ∷ y ∷ l)))
    (eqb x lf)
    refl
    (ap (onto x) (first (y ∷ l) (omega arith)))

pub first_line_lem : (l : List ℕ) (at end : ℕ) → at < length l → end ≡ at + place_of lf (drop at l)
    → lines_of (drop at l) ≡ take (end - at) (drop at l) ∷ lines_of (drop (end + 1) l)
first_line_lem l at end h e =
    let p = place_of lf (drop at l) in
    let len = length-drop at l in
    let d : end - at ≡ p = omega arith in
    let s : at + suc p ≡ end + 1 = omega arith in
    rw (d, ← s, ← drop-drop (suc p) at l) (first (drop at l) (omega arith))
