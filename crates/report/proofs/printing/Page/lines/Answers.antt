-- `lines`: i lines take at most 44 bytes each, so that the next one fits.
use Rattle.std.proofs.Common.{arith}
use Rattle.report.proofs.PrintLaws.{entries_bound}
use Rattle.report.proofs.PageLaws.{fits_behind, entries_none, entries_one}
use Rattle.report.proofs.printing.Page.lines.Goals as goal

pub loop-i-init : goal.loop-i-init
loop-i-init c = entries_none _ _

pub line-requires : goal.line-requires
line-requires c = (fits_behind 44 c.loop-i.invariant (omega (arith, entries_bound c.args.table.now 0 c.loop-i.i)), omega arith)

pub loop-i-preserved : goal.loop-i-preserved
loop-i-preserved c = entries_one _ _ _ _ _ c.loop-i.invariant c.line.ensures
