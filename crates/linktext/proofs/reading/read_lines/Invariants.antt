-- The links read so far, before what is left to read, are the whole (`Held`); one law for each way out of a turn.
use Rattle.std.proofs.Common.{◌+◌, ◌-◌, length}
use Rattle.linktext.proofs.TurnLaws.{Held}
use Rattle.linktext.proofs.reading.read_lines.Given as goal

abbrev pub invariant-loop-at : goal.invariant-loop-at
invariant-loop-at l = Held l.text l.initial.words l.most l.at l.line l.n l.words

abbrev pub decreases-loop-at : goal.decreases-loop-at
decreases-loop-at l = length l.text + 1 - l.at
