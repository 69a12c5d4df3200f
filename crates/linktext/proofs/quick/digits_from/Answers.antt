use Rattle.std.proofs.Common.{arith}
use Rattle.linktext.proofs.QuickLaws.{Begun-next}
use Rattle.linktext.proofs.quick.digits_from.Goals as goal

pub loop-k-preserved : goal.loop-k-preserved
loop-k-preserved c = Begun-next _ c.loop-k.invariant c.loop-k-test.true (omega (arith, c.if-not-is_ascii_digit.ensures)) (omega (arith, c.if-not-is_ascii_digit.ensures)) c.from.ensures
