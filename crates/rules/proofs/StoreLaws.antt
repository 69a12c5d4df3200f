-- Runs of stores: stores in a row, one run after the other, and a run from the front. The library's laws of `sets` carry them.
use Prim.Native.Nat.{ℕ, suc, ◌+◌, ◌≤◌}
use mathlib.Core.Path.{◌≡◌, ap, ◌∙◌}
use mathlib.Core.List.{List, [], ◌∷◌, ◌++◌}
use native.Mathlib.Nat.{zero-add}
use native.Mathlib.Omega.{arith}
use lib.ListN.{length, drop, set}
use lib.Seq.{sets, sets-eq}

-- stores in a row are one run
pub two_stores : (l : List ℕ) (i a b : ℕ) → set (set l i a) (i + 1) b ≡ sets l i (a ∷ b ∷ [])
two_stores l i a b =
    let p : i + 1 ≡ suc i = omega arith in
    rw p

pub four_stores : (l : List ℕ) (i a b c d : ℕ) → set (set (set (set l i a) (i + 1) b) (i + 2) c) (i + 3) d ≡ sets l i (a ∷ b ∷ c ∷ d ∷ [])
four_stores l i a b c d =
    let p : i + 1 ≡ suc i = omega arith in
    let q : i + 2 ≡ suc (suc i) = omega arith in
    let r : i + 3 ≡ suc (suc (suc i)) = omega arith in
    rw (p, q, r)

-- one run after the other is one run
pub sets-append : (xs ys l : List ℕ) (i k : ℕ) → i + length xs ≡ k → sets (sets l i xs) k ys ≡ sets l i (xs ++ ys)
sets-append [] ys l i k e =
    let z : k ≡ i = omega arith in
    rw z
sets-append (x ∷ xs) ys l i k e = sets-append xs ys (set l i x) (suc i) k (omega arith)

-- a run from the front that fits
pub sets_front : (out old : List ℕ) → length out ≤ length old → sets old 0 out ≡ out ++ drop (length out) old
sets_front out old h = sets-eq out old 0 (omega arith) ∙ ap (λ (k : ℕ). out ++ drop k old) (zero-add (length out))
