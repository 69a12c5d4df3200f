-- What fits the fields of a sheet.
--
--   Below bound l      every number of l is below bound
--   Fitting e          the four numbers of a line fit its 4, 1, 2 and 4 bytes; Fits es   every line of es does
use Rattle.std.specs.Prelude.{ℕ, ◌<◌, List, [], ◌∷◌, get_or}
use Rattle.rules.specs.Judge.{Entry}

abbrev pub Below : ℕ → List ℕ → Type 0
Below bound l = (i : ℕ) → get_or l i 0 < bound

pub record Fitting (e : Entry) : Type 0 where
  pub number : e.number < 4294967296
  pub typ : e.line.pair.typ < 256
  pub len : e.line.pair.length < 65536
  pub next : e.line.next < 4294967296

abbrev pub Fits : List Entry → Type 0
Fits [] = Unit {0}
Fits (e ∷ es) = Fitting e × Fits es
