use Rattle.std.proofs.Common.{sym}
use Rattle.linktext.proofs.DigitLaws.{decimal_count}
use Rattle.linktext.proofs.writing.digit_count.Goals as goal

pub returns : goal.returns
returns c =
    let log = c.ilog10.ensures in
    sym (decimal_count c.args.n c.ilog10.result (rw c.max.ensures at log.power_le) (rw c.max.ensures at log.next_power_gt) log.bound)
