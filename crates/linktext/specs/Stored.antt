-- What the writing functions leave in lent bytes.
--
--   Stored old at out new next   the bytes `new` are `old` with `out` from place `at` on, and `next` is the place after it
use Rattle.std.specs.Prelude.{ℕ, ◌+◌, ◌≡◌, List, length}
use Rattle.std.proofs.lemmas.List.Edits.{sets}

pub record Stored (old : List ℕ) (at : ℕ) (out new : List ℕ) (next : ℕ) : Type 0 where
  pub bytes : new ≡ sets old at out
  pub after : next ≡ at + length out
