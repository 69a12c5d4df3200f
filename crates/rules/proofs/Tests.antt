-- Helpers that every proof uses: a choice by cases of its test, what a test says, two constructors that are never equal, a function
-- that is changed at one place, and induction on a length. Each is by cases.
use Prim.Native.Nat.{ℕ, zero, suc, ◌<◌}
use mathlib.Core.Path.{◌≡◌, refl}
use mathlib.Core.Logic.{◌⊎◌, inl, inr, ◌≢◌}
use mathlib.Core.Bool.{Bool, true, false, cond, ◌&&◌, ◌||◌}
use native.Mathlib.Omega.{arith}
use borrow.Author.Tests.{ltb-true, ltb-false, leb-true, leb-false, eqb-true, eqb-false, eq-eqb, ne_eqb}
use Rattle.rules.specs.Lists.{changed}

-- with these `omega` reads a test's outcome among the hypotheses
pub ruleset tests = (arith, ltb-true, ltb-false, leb-true, leb-false, eqb-true, eqb-false)

-- a fact about a choice, from the fact about each side under its test
pub by_cond : {A : Type 0} (P : A → Type 0) (t : Bool) (x y : A) → (t ≡ true → P x) → (t ≡ false → P y) → P (cond t x y)
by_cond P true x y f g = f refl
by_cond P false x y f g = g refl

-- two constructors are never equal: `clash (cc)`
pub clash : {A : Type 0} → ◌≡◌ {A = ℕ} 0 1 → A
clash e = absurd (omega arith)

-- a test that never holds
pub untrue : (t : Bool) → (t ≡ true → ⊥) → false ≡ t
untrue true d = absurd (d refl)
untrue false d = refl

-- tests joined
pub and_left : (s t : Bool) → (s && t) ≡ true → s ≡ true
and_left true t e = refl
and_left false t e = e

pub and_right : (s t : Bool) → (s && t) ≡ true → t ≡ true
and_right true t e = e
and_right false t e = cc

pub and_yes : (s t : Bool) → s ≡ true → t ≡ true → (s && t) ≡ true
and_yes s t p q = cc

pub and_no : (s t : Bool) → (s && t) ≡ false → s ≡ true → t ≡ false
and_no s t e p = cc

pub or_one : (s t : Bool) → (s || t) ≡ true → (s ≡ true) ⊎ (t ≡ true)
or_one true t e = inl refl
or_one false t e = inr e

pub or_no : (s t : Bool) → (s || t) ≡ false → (s ≡ false) × (t ≡ false)
or_no true t e = (e, cc)
or_no false t e = (refl, e)

-- a function changed at one place
pub changed_same : {A : Type 0} (f : ℕ → A) (k : ℕ) (x : A) (i : ℕ) → i ≡ k → changed f k x i ≡ x
unfolding changed
changed_same f k x i e = cc (eq-eqb i k e)

pub changed_other : {A : Type 0} (f : ℕ → A) (k : ℕ) (x : A) (i : ℕ) → i ≢ k → changed f k x i ≡ f i
unfolding changed
changed_other f k x i ne = cc (ne_eqb i k ne)

-- induction on a length
pub by_len : (f : ℕ → ℕ) (P : ℕ → Type 0) → ((u : ℕ) → ((v : ℕ) → f v < f u → P v) → P u) → (u : ℕ) → P u
by_len f P step u = go (suc (f u)) u (omega arith)
  where
    go : (n v : ℕ) → f v < n → P v
    go zero v l = absurd (omega arith)
    go (suc n) v l = step v (λ w m. go n w (omega arith))
