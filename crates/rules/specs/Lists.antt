-- What the definitions need of lists.
--
--   In x l             x stands in l
--   Without x l        x is none of l
--   Distinct l         nothing stands twice in l
--   any_of f l          some member passes the test f
--   all_of f l          every member does
--   changed f k x      the function f, but x at k
use Rattle.std.specs.Prelude.{ℕ, ◌≡◌, ◌⊎◌, ◌≢◌, Bool, true, false, cond, ◌&&◌, ◌||◌, List, [], ◌∷◌, eqb}

abbrev pub In : {A : Type 0} → A → List A → Type 0
In x [] = ⊥
In x (y ∷ l) = (x ≡ y) ⊎ In x l

abbrev pub Without : {A : Type 0} → A → List A → Type 0
Without x [] = Unit {0}
Without x (y ∷ l) = (x ≢ y) × Without x l

abbrev pub Distinct : {A : Type 0} → List A → Type 0
Distinct [] = Unit {0}
Distinct (x ∷ l) = Without x l × Distinct l

abbrev pub any_of : {A : Type 0} → (A → Bool) → List A → Bool
any_of f [] = false
any_of f (x ∷ l) = f x || any_of f l

abbrev pub all_of : {A : Type 0} → (A → Bool) → List A → Bool
all_of f [] = true
all_of f (x ∷ l) = f x && all_of f l

unfoldable pub changed : {A : Type 0} → (ℕ → A) → ℕ → A → ℕ → A
changed f k x i = cond (eqb i k) x (f i)
