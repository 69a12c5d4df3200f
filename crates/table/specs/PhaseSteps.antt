-- What each step of a table that settles keeps.
--
--   Stays g h          h is g with another table, lent from the same place
use Rattle.std.specs.Prelude.{◌≡◌}
use Rattle.table.specs.declared.phases.Settling.{Settling}

pub record Stays (g h : Settling) : Type 0 where
  pub words : h.network.words.now ≡ g.network.words.now
  pub places : h.places.now ≡ g.places.now
  pub cap : h.cap ≡ g.cap
  pub loan : h.table.ghost_name ≡ g.table.ghost_name
