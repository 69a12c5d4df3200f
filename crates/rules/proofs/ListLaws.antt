-- What a test over a list tells of its members, where members stand, and whether a number is one. By induction along the list.
--
--   at_in, in_at       what stands at a place is a member, and a member stands at a place
--   member_yes, member_is, member_no   the test whether a number is a member
use Prim.Native.Nat.{ℕ, zero, suc, ◌<◌}
use mathlib.Core.Path.{◌≡◌, refl, sym, ◌∙◌, ap, subst}
use mathlib.Core.Logic.{◌⊎◌, inl, inr, ⊎_elim}
use mathlib.Core.Bool.{Bool, true, false, ◌||◌, false≢true}
use mathlib.Core.List.{List, [], ◌∷◌}
use native.Mathlib.Decide.{ℕ_discrete}
use native.Mathlib.Omega.{arith}
use lib.Dec.{eqb}
use lib.ListN.{length, get_or}
use borrow.Author.Tests.{eqb-true, eq-eqb}
use Rattle.rules.specs.Lists.{In, any_of, all_of}
use Rattle.rules.proofs.Tests.{untrue, and_left, and_right, and_yes, or_one, or_no}

module _ {A : Type 0} (f : A → Bool) where
  pub any_of-true : (l : List A) (x : A) → In x l → f x ≡ true → any_of f l ≡ true
  any_of-true [] x x4 t = elim x4 [ ]
  any_of-true (y ∷ l) x (inl e) t = (let s : f y ≡ true = rw e at t in cc)
  any_of-true (y ∷ l) x (inr m) t = go (f y) (any_of-true l x m t)
    where
      go : (b : Bool) → any_of f l ≡ true → (b || any_of f l) ≡ true
      go true e = refl
      go false e = e

  pub any_of_one : (l : List A) → any_of f l ≡ true → (x : A) × In x l × (f x ≡ true)
  any_of_one [] e = absurd (false≢true e)
  any_of_one (y ∷ l) e =
      ⊎_elim (λ t. (y, inl refl, t)) (λ t. (let r = any_of_one l t in (r.0, inr r.1, r.2))) (or_one (f y) (any_of f l) e)

  pub any_of_false : (l : List A) → any_of f l ≡ false → (x : A) → In x l → f x ≡ false
  any_of_false [] e x x4 = elim x4 [ ]
  any_of_false (y ∷ l) e x (inl q) = ap f q ∙ (or_no (f y) (any_of f l) e).0
  any_of_false (y ∷ l) e x (inr m) = any_of_false l (or_no (f y) (any_of f l) e).1 x m

  pub any_of_same : (g : A → Bool) (l : List A) → ((x : A) → In x l → f x ≡ g x) → any_of f l ≡ any_of g l
  any_of_same g [] h = refl
  any_of_same g (x ∷ l) h =
      let e : f x ≡ g x = h x (inl refl) in
      let r : any_of f l ≡ any_of g l = any_of_same g l (λ y m. h y (inr m)) in
      cc

  pub all_of_each : (l : List A) → all_of f l ≡ true → (x : A) → In x l → f x ≡ true
  all_of_each [] e x x4 = elim x4 [ ]
  all_of_each (y ∷ l) e x (inl q) = ap f q ∙ and_left (f y) (all_of f l) e
  all_of_each (y ∷ l) e x (inr m) = all_of_each l (and_right (f y) (all_of f l) e) x m

  pub all_of-true : (l : List A) → ((x : A) → In x l → f x ≡ true) → all_of f l ≡ true
  all_of-true [] h = refl
  all_of-true (y ∷ l) h = and_yes (f y) (all_of f l) (h y (inl refl)) (all_of-true l (λ x m. h x (inr m)))

-- by place
pub at_in : {A : Type 0} (d : A) (l : List A) (i : ℕ) → i < length l → In (get_or l i d) l
at_in d [] i h = absurd (omega arith)
at_in d (x ∷ l) zero h = inl refl
at_in d (x ∷ l) (suc i) h = inr (at_in d l i (omega arith))

pub in_at : {A : Type 0} (d : A) (l : List A) (x : A) → In x l → (i : ℕ) × (i < length l) × (get_or l i d ≡ x)
in_at {A = A} d [] x x3 = elim x3 [ ]
in_at d (y ∷ l) x (inl e) = (0, omega arith, sym e)
in_at d (y ∷ l) x (inr m) = (let (i, h, e) = in_at d l x m in (suc i, omega arith, e))

-- the test whether a number is a member
pub member_yes : (u : ℕ) (l : List ℕ) → In u l → any_of (eqb u) l ≡ true
member_yes u l m = any_of-true (eqb u) l u m (eq-eqb u u refl)

pub member_is : (u : ℕ) (l : List ℕ) → any_of (eqb u) l ≡ true → In u l
member_is u l e = (let (x, m, t) = any_of_one (eqb u) l e in subst (λ (y : ℕ). In y l) (sym (eqb-true u x t)) m)

pub member_no : (u : ℕ) (l : List ℕ) → (In u l → ⊥) → any_of (eqb u) l ≡ false
member_no u l out = sym (untrue (any_of (eqb u) l) (λ e. out (member_is u l e)))

-- a number stands in a list or does not
pub In-or_not : (u : ℕ) (l : List ℕ) → In u l ⊎ (In u l → ⊥)
In-or_not u [] = inr (λ h. h)
In-or_not u (v ∷ l) = go (ℕ_discrete u v) (In-or_not u l)
  where
    go : Dec (u ≡ v) → In u l ⊎ (In u l → ⊥) → In u (v ∷ l) ⊎ (In u (v ∷ l) → ⊥)
    go (yes e) r = inl (inl e)
    go (no ne) (inl m) = inl (inr m)
    go (no ne) (inr out) = inr (λ h. ⊎_elim ne out h)
