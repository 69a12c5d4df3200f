-- `table::phases::Settling::run` meets its contract: each turn is gains only, and lowers the table's height, until a pass finds all ways calm.
use Rattle.std.proofs.Common.{◌*◌, length}
use Rattle.offers.specs.Ways.{way_of_direction}
use Rattle.rules.specs.Network.{links_of, ases_of}
use Rattle.table.specs.Phases.{Reached, height}
use Rattle.table.specs.PhaseSteps.{Stays}
use Rattle.table.proofs.phases.Settling.run.Given as goal

abbrev pub invariant-loop : goal.invariant-loop
invariant-loop l = record {
  stays : Stays l.initial.self l.self;
  reached : Reached (way_of_direction (links_of l.initial.self.network.words.now) l.initial.self.places.now) (2 * length (links_of l.initial.self.network.words.now)) l.phase l.initial.self.cap l.initial.self.table.now l.self.table.now;
}

abbrev pub decreases-loop : goal.decreases-loop
decreases-loop l = height l.phase l.self.cap (length (ases_of (links_of l.self.network.words.now))) l.self.table.now
