-- It ends: each turn goes on with a link noted before.
use Rattle.findings.proofs.order.Guess.take.Given as goal

abbrev pub decreases-loop-noted : goal.decreases-loop-noted
decreases-loop-noted l = l.noted
