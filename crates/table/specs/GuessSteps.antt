-- What each step of a guess at work keeps.
--
--   Keeps g h          h is g with other pairs in the first n entries of its table, and the ASes that wait
use Rattle.std.specs.Prelude.{◌≡◌}
use Rattle.table.specs.declared.quick.Guess.{Guess}
use Rattle.table.specs.Guess.{Guessed}

pub record Keeps (g h : Guess) : Type 0 where
  pub entries : h.n ≡ g.n
  pub guessed : Guessed g.n g.table.now h.table.now
  pub table_loan : h.table.ghost_name ≡ g.table.ghost_name
  pub shelf_loan : h.shelf.ghost_name ≡ g.shelf.ghost_name
