-- The bytes passed so far are the digits of the value so far.
use Rattle.linktext.specs.Usual.{Begun}
use Rattle.linktext.proofs.quick.digits_from.Given as goal

abbrev pub invariant-loop-k : goal.invariant-loop-k
invariant-loop-k l = Begun l.text l.at l.k l.value
