-- The value so far, carried on over what is left, is the whole value.
use Rattle.std.proofs.Common.{◌≡◌, ◌≤◌, drop}
use Rattle.linktext.specs.Lines.{value_from}
use Rattle.linktext.proofs.line.value.Given as goal

abbrev pub invariant-loop-digit : goal.invariant-loop-digit
invariant-loop-digit l = (l.value ≤ 4294967295) × (value_from l.value (drop l.digit-index l.field) ≡ value_from 0 l.field)
