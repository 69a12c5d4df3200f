-- `table::phases::Settling::run_all` meets its contract: phase by phase.
use Rattle.rules.specs.Network.{links_of}
use Rattle.table.specs.Phases.{Phased}
use Rattle.table.specs.PhaseSteps.{Stays}
use Rattle.table.proofs.phases.Settling.run_all.Given as goal

abbrev pub invariant-loop-phase : goal.invariant-loop-phase
invariant-loop-phase l = record {
  stays : Stays l.initial.self l.self;
  phased : Phased (links_of l.initial.self.network.words.now) l.initial.self.places.now l.initial.self.cap l.initial.self.table.now l.phase l.self.table.now;
}
