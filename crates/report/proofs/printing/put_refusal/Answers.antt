-- `put_refusal` puts the word, then number and place.
use Rattle.std.proofs.Common.{arith}
use Rattle.report.proofs.PrintLaws.{refusal_bound, printed}
use Rattle.report.proofs.PageLaws.{put_then}
use Rattle.report.specs.Report.{refusal_line}
use Rattle.report.proofs.printing.put_refusal.Goals as goal

pub returns : goal.returns
unfolding refusal_line
returns c =
    let t = rw (c.number.ensures, c.place.ensures) at (put_then c.word.ensures c.two.ensures) in
    printed (omega (arith, refusal_bound c.args.why)) t.stored
