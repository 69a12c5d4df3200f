-- `table::quick::Guess::tell_all`: length by length, what is told keeps what the guess keeps.
use Rattle.table.specs.GuessSteps.{Keeps}
use Rattle.table.proofs.quick.Guess.tell_all.Given as goal

abbrev pub invariant-loop-length : goal.invariant-loop-length
invariant-loop-length l = Keeps l.initial.self l.self
