-- The first byte says whether a number begins, and whether it is zero; four digits begin it as one does.
use Rattle.std.proofs.Common.{arith}
use Rattle.linktext.proofs.QuickLaws.{spell_none, begins, Begun-four}
use Rattle.linktext.proofs.quick.number_from.Goals as goal

pub returns-then-lead-eq-ZERO : goal.returns-then-lead-eq-ZERO
returns-then-lead-eq-ZERO c = spell_none _ _ (omega arith) c.if-lead-eq-ZERO.true

pub rest_from-requires : goal.rest_from-requires
rest_from-requires c = Begun-four (omega arith) c.in-Some.ensures c.if-lead-eq-ZERO.false

pub digits_from-requires : goal.digits_from-requires
digits_from-requires c =
    begins _ _ _ (omega arith) (omega (arith, c.if-not-is_ascii_digit.ensures)) (omega (arith, c.if-not-is_ascii_digit.ensures)) c.if-lead-eq-ZERO.false c.from.ensures
