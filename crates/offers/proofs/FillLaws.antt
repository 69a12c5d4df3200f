-- Stores one after the other, behind words that are filled already: what was filled, what is stored, and the rest as it was.
use Prim.Native.Nat.{ℕ, ◌+◌, ◌≤◌}
use mathlib.Core.Path.{◌≡◌, ◌∙◌, ap}
use mathlib.Core.List.{List, [], ◌∷◌, ◌++◌}
use native.Mathlib.Omega.{arith}
use lib.ListN.{length, set, drop, length-append, length-drop}
use lib.Seq.{sets, sets-eq, take_at, drop-append-add, drop-drop}
use Rattle.rules.proofs.StoreLaws.{two_stores, four_stores}

module _ (p old : List ℕ) (n : ℕ) (is : length p ≡ n) where
  fill_run : (vs : List ℕ) → n + length vs ≤ length old → sets (p ++ drop n old) n vs ≡ p ++ vs ++ drop (n + length vs) old
  fill_run vs h =
      let l = p ++ drop n old in
      let rest : drop (n + length vs) l ≡ drop (n + length vs) old =
      rw (← is) (drop-append-add p (drop (length p) old) (length vs) ∙ drop-drop (length vs) (length p) old) in
      sets-eq vs l n (simp (length-append, length-drop) (omega arith))
      ∙ ap (λ (q : List ℕ). q ++ vs ++ drop (n + length vs) l) (take_at p (drop n old) n is)
      ∙ ap (λ (q : List ℕ). p ++ vs ++ q) rest

  pub fill_two : (x y : ℕ) → n + 2 ≤ length old → set (set (p ++ drop n old) n x) (n + 1) y ≡ p ++ (x ∷ y ∷ []) ++ drop (n + 2) old
  fill_two x y h = two_stores (p ++ drop n old) n x y ∙ fill_run (x ∷ y ∷ []) h

  pub fill_four : (x y z v : ℕ) → n + 4 ≤ length old
      → set (set (set (set (p ++ drop n old) n x) (n + 1) y) (n + 2) z) (n + 3) v ≡ p ++ (x ∷ y ∷ z ∷ v ∷ []) ++ drop (n + 4) old
  fill_four x y z v h = four_stores (p ++ drop n old) n x y z v ∙ fill_run (x ∷ y ∷ z ∷ v ∷ []) h
