-- `table::phases::Settling::pass` meets its contract: after k turns the first k ways were looked at. A turn is `Passed-more`.
use Rattle.rules.specs.Network.{links_of}
use Rattle.table.specs.Phases.{Passed}
use Rattle.table.specs.PhaseSteps.{Stays}
use Rattle.table.proofs.phases.Settling.pass.Given as goal

abbrev pub invariant-loop-k : goal.invariant-loop-k
invariant-loop-k l = record {
  stays : Stays l.initial.self l.self;
  passed : Passed (links_of l.initial.self.network.words.now) l.initial.self.places.now l.k l.phase l.initial.self.cap l.initial.self.table.now l.self.table.now l.changed;
}
