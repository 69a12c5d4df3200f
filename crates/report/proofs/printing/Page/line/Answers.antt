-- `line` puts AS and type, then length and next hop.
use Rattle.std.proofs.Common.{arith}
use Rattle.offers.specs.Lines.{number_word, type_word}
use Rattle.report.proofs.PrintLaws.{Line-parts, two_bound}
use Rattle.report.proofs.PageLaws.{fits_behind, put_then}
use Rattle.report.specs.Report.{sp}
use Rattle.report.proofs.printing.Page.line.Goals as goal

pub two-requires-2 : goal.two-requires-2
two-requires-2 c = fits_behind 22 c.two.ensures (omega (arith, two_bound (number_word c.args.table.now c.args.i) (type_word c.args.table.now c.args.i) sp))

pub returns : goal.returns
returns c = rw Line-parts (put_then c.two.ensures c.two-2.ensures)
