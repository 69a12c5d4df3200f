-- `put_report` puts head, lines and end one behind the other.
use Rattle.std.proofs.Common.{◌+◌, ◌*◌, arith}
use Rattle.report.proofs.PrintLaws.{head_bound, entries_bound, Told-bound, printed}
use Rattle.report.proofs.PageLaws.{fits_behind, put_then}
use Rattle.report.specs.Printing.{told_text}
use Rattle.report.proofs.printing.put_report.Goals as goal

pub lines-requires : goal.lines-requires
lines-requires c = (fits_behind _ c.head.ensures (omega (arith, head_bound c.args.told)), omega arith)

pub end-requires : goal.end-requires
end-requires c =
    let A = c.args in
    let h = fits_behind (44 * A.told.end.count + 19) c.head.ensures (omega (arith, head_bound A.told)) in
    fits_behind 19 c.lines.ensures (omega (arith, entries_bound A.table.now 0 A.told.end.count))

pub returns : goal.returns
unfolding told_text
returns c =
    let A = c.args in
    printed (omega (arith, Told-bound A.told A.table.now)) ((put_then c.head.ensures (put_then c.lines.ensures c.end.ensures)).stored)
