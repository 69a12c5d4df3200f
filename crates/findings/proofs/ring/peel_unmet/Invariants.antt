-- The contract up to the place reached.
use Rattle.findings.specs.Peelings.{Peeled}
use Rattle.findings.proofs.ring.peel_unmet.Given as goal

abbrev pub invariant-loop-p : goal.invariant-loop-p
invariant-loop-p l = Peeled l.p l.met l.initial.left l.left l.any
