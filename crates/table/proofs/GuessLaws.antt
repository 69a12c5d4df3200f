-- The guess changes nothing but pairs, and keeps lengths low: by one line, and one change after the other.
use Prim.Native.Nat.{ℕ}
use mathlib.Core.Path.{refl, ◌∙◌}
use mathlib.Core.List.{List}
use Rattle.table.specs.declared.quick.Guess.{Guess}
use Rattle.table.specs.Guess.{Guessing, Guessed}
use Rattle.table.specs.GuessSteps.{Keeps}
use Rattle.table.proofs.LineLaws.{Framed-same, Framed-more}

module _ {n : ℕ} {t : List ℕ} (g : Guessing n t) where
  pub Guessed-none : Guessed n t t
  Guessed-none = record { framed = Framed-same t; low = g.low }

pub Guessed-more : {n : ℕ} {t u v : List ℕ} → Guessed n t u → Guessed n u v → Guessed n t v
Guessed-more a b = record { framed = Framed-more a.framed b.framed; low = b.low }

-- A guess at work, step after step
pub Keeps-none : (g : Guess) → Keeps g g
Keeps-none g = record { entries = refl; guessed = Guessed-none g.guessing; table_loan = refl; shelf_loan = refl }

pub Keeps-more : (f g h : Guess) → Keeps f g → Keeps g h → Keeps f h
Keeps-more f g h a b =
    record {
      entries = b.entries ∙ a.entries;
      guessed = Guessed-more a.guessed (rw a.entries at b.guessed);
      table_loan = b.table_loan ∙ a.table_loan;
      shelf_loan = b.shelf_loan ∙ a.shelf_loan;
    }

pub ruleset guess_steps = (Keeps-none, Keeps-more)
