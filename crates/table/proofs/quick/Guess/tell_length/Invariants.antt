-- `table::quick::Guess::tell_length`: what one AS tells keeps what the guess keeps.
use Rattle.table.specs.GuessSteps.{Keeps}
use Rattle.table.proofs.quick.Guess.tell_length.Given as goal

abbrev pub invariant-loop : goal.invariant-loop
invariant-loop l = Keeps l.initial.self l.self
