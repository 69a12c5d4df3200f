-- A list without repetition inside another is not longer than it: each member in turn is cut out of the longer list.
use Prim.Native.Nat.{suc, ◌≤◌}
use mathlib.Core.Path.{◌≡◌, refl, sym, ◌∙◌, ap}
use mathlib.Core.Logic.{inl, inr, ⊎_elim, ◌≢◌}
use mathlib.Core.List.{List, [], ◌∷◌}
use native.Mathlib.Omega.{arith}
use lib.ListN.{length}
use Rattle.rules.specs.Lists.{In, Without, Distinct}

module _ {A : Type 0} where
  pub Without-apart : {x y : A} (l : List A) → Without x l → In y l → y ≢ x
  Without-apart {y = y} [] w x3 = elim x3 [ ]
  Without-apart (z ∷ l) w (inl e) = λ f. w.0 (sym f ∙ e)
  Without-apart (z ∷ l) w (inr m) = Without-apart l w.1 m

  -- ys with x, which stands in it, cut out once
  cut : (x : A) (ys : List A) → In x ys → (zs : List A) × (length ys ≡ suc (length zs)) × ((y : A) → In y ys → y ≢ x → In y zs)
  cut x [] x'' = elim x'' [ ]
  cut x (y ∷ ys) (inl e) = (ys, refl, λ z m ne. ⊎_elim (λ f. absurd (ne (f ∙ sym e))) (λ k. k) m)
  cut x (y ∷ ys) (inr m) =
      let c = cut x ys m in
      (y ∷ c.0, ap suc c.1, λ z k ne. ⊎_elim (λ f. inl f) (λ j. inr (c.2 z j ne)) k)

  pub pigeon : (xs ys : List A) → Distinct xs → ((x : A) → In x xs → In x ys) → length xs ≤ length ys
  pigeon [] ys d h = omega arith
  pigeon (x ∷ xs) ys d h =
      let c = cut x ys (h x (inl refl)) in
      omega (arith, c.1, pigeon xs c.0 d.1 (λ y m. c.2 y (h y (inr m)) (Without-apart xs d.0 m)))
