-- `table::quick::Guess::hear_peers`: each peer link in turn keeps what the guess keeps.
use Rattle.table.specs.GuessSteps.{Keeps}
use Rattle.table.proofs.quick.Guess.hear_peers.Given as goal

abbrev pub invariant-loop-link : goal.invariant-loop-link
invariant-loop-link l = Keeps l.initial.self l.self
