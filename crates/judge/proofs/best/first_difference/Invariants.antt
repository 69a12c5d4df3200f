-- `first_difference`. The invariant: the lowest difference from entry i on is the lowest of all.
use Rattle.std.proofs.Common.{◌≡◌}
use Rattle.judge.proofs.DifferLaws.{differ_at}
use Rattle.judge.proofs.best.first_difference.Given as goal

abbrev pub invariant-loop-i : goal.invariant-loop-i
invariant-loop-i l = differ_at l.lines l.due l.i ≡ differ_at l.lines l.due 0
