-- Two numbers compared, by cases.
use Rattle.std.proofs.Common.{◌≡◌, ℕ, ◌<◌, ◌≤◌, ◌≢◌, ◌⊎◌, inl, inr, arith}
use native.Mathlib.Decide.{dec_lt}

pub below? : (a b : ℕ) → (a < b) ⊎ (b ≤ a)
below? a b = go (dec_lt a b)
  where
    go : Dec (a < b) → (a < b) ⊎ (b ≤ a)
    go (yes l) = inl l
    go (no n) = inr (omega arith)

pub same? : (a b : ℕ) → (a ≡ b) ⊎ (a ≢ b)
same? a b = go (dec_lt a b) (dec_lt b a)
  where
    go : Dec (a < b) → Dec (b < a) → (a ≡ b) ⊎ (a ≢ b)
    go (yes l) y = inr (λ e. omega arith)
    go (no n) (yes l) = inr (λ e. omega arith)
    go (no n) (no m) = inl (omega arith)
