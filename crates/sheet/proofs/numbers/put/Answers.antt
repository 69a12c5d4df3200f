use Rattle.std.proofs.Common.{arith}
use Rattle.sheet.proofs.RunLaws.{pasted}
use Rattle.sheet.proofs.numbers.put.Goals as goal

pub returns : goal.returns
returns c = pasted c.args.s.now _ c.args.bytes.now c.args.i _ c.copy_from_slice.ensures.after (omega arith) (omega arith)
