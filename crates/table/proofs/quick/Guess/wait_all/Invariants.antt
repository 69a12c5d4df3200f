-- `table::quick::Guess::wait_all`: the table stays, entry by entry.
use Rattle.table.specs.GuessSteps.{Keeps}
use Rattle.table.proofs.quick.Guess.wait_all.Given as goal

abbrev pub invariant-loop-i : goal.invariant-loop-i
invariant-loop-i l = Keeps l.initial.self l.self
