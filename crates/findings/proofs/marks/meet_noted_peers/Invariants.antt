-- One hint after the other; each turn goes on with a direction noted before.
use Rattle.std.proofs.Common.{◌≡◌, length}
use Rattle.findings.specs.Joinings.{Hinted}
use Rattle.findings.proofs.marks.meet_noted_peers.Given as goal

abbrev pub invariant-loop-noted : goal.invariant-loop-noted
invariant-loop-noted l = record { size : length l.met ≡ length l.initial.met; hinted : Hinted l.survey.network.words.now l.chosen l.initial.met l.met }

abbrev pub decreases-loop-noted : goal.decreases-loop-noted
decreases-loop-noted l = l.noted
