use Rattle.std.proofs.Common.{arith}
use Rattle.linktext.proofs.NumberLaws.{too_large, value_whole}
use Rattle.linktext.proofs.line.value.Goals as goal

pub returns-then-value-gt-MOST : goal.returns-then-value-gt-MOST
returns-then-value-gt-MOST c =
    let l = c.loop-digit in
    too_large c.args.field.now l.value l.digit-index c.loop-digit-test.true (omega (arith, c.if-value-gt-MOST.true)) l.invariant.1

pub returns : goal.returns
returns c = let l = c.loop-digit in value_whole c.args.field.now l.value l.digit-index (omega arith) (omega arith) l.invariant.1
