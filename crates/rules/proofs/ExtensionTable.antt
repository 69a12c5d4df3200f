-- The extension table's rule at all of its twelve cells, by one test that antt computes; and what lies outside the table.
use mathlib.Core.Path.{◌≡◌, refl}
use mathlib.Core.Logic.{◌⊎◌, inl, inr}
use mathlib.Core.Bool.{Bool, true, false, ◌&&◌, ◌||◌}
use mathlib.Core.List.{List, [], ◌∷◌}
use Prim.Native.Nat.{ℕ, zero, suc, ◌-◌, ◌<◌, ◌≤◌}
use native.Mathlib.Omega.{arith}
use native.Mathlib.Nat.{le_of_suc-le-suc, not-suc-le-zero}
use lib.Dec.{T, eqb, leb, eqb→eq}
use lib.ListN.{get_or}
use borrow.Author.Tests.{leb-true, eqb-true}
use Rattle.rules.specs.Pairs.{extended_type}
use Rattle.rules.proofs.Tests.{by_cond, and_left, and_right, or_one}

-- a test at every number below a bound is one test
abbrev every_below : ℕ → (ℕ → Bool) → Bool
every_below zero p = true
every_below (suc n) p = p zero && every_below n (λ k. p (suc k))

parts : (a b : Bool) → T (a && b) → T a × T b
parts true b t = (tt, t)
parts false b t = absurd t

below : (n : ℕ) (p : ℕ → Bool) → T (every_below n p) → (k : ℕ) → k < n → T (p k)
below zero p t k h = absurd (not-suc-le-zero h)
below (suc n) p t zero h = (parts (p zero) (every_below n (λ k. p (suc k))) t).0
below (suc n) p t (suc k) h = below n (λ k. p (suc k)) (parts (p zero) (every_below n (λ k. p (suc k))) t).1 k (le_of_suc-le-suc h)

-- the constant of src/lib.rt: link type down, neighbour's type across
abbrev pub cells : List (List ℕ)
cells = (1 ∷ 4 ∷ 4 ∷ 4 ∷ []) ∷ (2 ∷ 4 ∷ 4 ∷ 4 ∷ []) ∷ (3 ∷ 3 ∷ 3 ∷ 4 ∷ []) ∷ []

abbrev cell_at : ℕ → ℕ → ℕ
cell_at i j = get_or (get_or cells i []) j 0

abbrev right : ℕ → ℕ → Bool
right i j = eqb (cell_at i j) (extended_type (suc i) (suc j))

all_cells : T (every_below 3 (λ i. every_below 4 (right i)))
unfolding extended_type
all_cells = tt

cell : (i j : ℕ) → i < 3 → j < 4 → cell_at i j ≡ extended_type (suc i) (suc j)
cell i j hi hj =
    eqb→eq (cell_at i j) (extended_type (suc i) (suc j))
    (below 4 (right i) (below 3 (λ i. every_below 4 (right i)) all_cells i hi) j hj)

-- as the code reads it: types are counted from 1
pub table_rule : (k t : ℕ) → 1 ≤ k → k ≤ 3 → 1 ≤ t → t ≤ 4 → cell_at (k - 1) (t - 1) ≡ extended_type k t
table_rule k t h₁ h₂ h₃ h₄ =
    let a : suc (k - 1) ≡ k = omega arith in
    let b : suc (t - 1) ≡ t = omega arith in
    rw (a, b) at (cell (k - 1) (t - 1) (omega arith) (omega arith))

-- what is no kind or no type is unreachable
pub outside_table : (k t : ℕ) → (1 ≤ k → k ≤ 3 → 1 ≤ t → t ≤ 4 → ⊥) → 4 ≡ extended_type k t
unfolding extended_type
outside_table k t out =
    by_cond (λ (x : ℕ). 4 ≡ x) (eqb k 3) _ _
    (λ e. by_cond (λ (x : ℕ). 4 ≡ x) (leb 1 t && leb t 3) _ _ (λ f. absurd (provider (eqb-true k 3 e) f)) (λ f. refl))
    (λ e. by_cond (λ (x : ℕ). 4 ≡ x) ((eqb k 1 || eqb k 2) && eqb t 1) _ _ (λ f. absurd (other f)) (λ f. refl))
  where
    provider : k ≡ 3 → (leb 1 t && leb t 3) ≡ true → ⊥
    provider e f =
        let a = leb-true 1 t (and_left (leb 1 t) (leb t 3) f) in
        let b = leb-true t 3 (and_right (leb 1 t) (leb t 3) f) in
        out (omega arith) (omega arith) a (omega arith)

    kind : (eqb k 1 ≡ true) ⊎ (eqb k 2 ≡ true) → (1 ≤ k) × (k ≤ 3)
    kind (inl e) = omega (arith, eqb-true k 1 e)
    kind (inr e) = omega (arith, eqb-true k 2 e)

    other : ((eqb k 1 || eqb k 2) && eqb t 1) ≡ true → ⊥
    other f =
        let a = kind (or_one (eqb k 1) (eqb k 2) (and_left (eqb k 1 || eqb k 2) (eqb t 1) f)) in
        let b = eqb-true t 1 (and_right (eqb k 1 || eqb k 2) (eqb t 1) f) in
        out a.0 a.1 (omega arith) (omega arith)
