-- `head` puts the three lines one behind the other.
use Rattle.std.proofs.Common.{arith}
use Rattle.report.proofs.PrintLaws.{count_bound, finding_bound}
use Rattle.report.proofs.PageLaws.{fits_behind, put_then}
use Rattle.report.specs.Report.{word_destination, word_ring}
use Rattle.report.specs.Printing.{head_text}
use Rattle.report.proofs.printing.Page.head.Goals as goal

pub finding-requires : goal.finding-requires
finding-requires c = fits_behind 18 c.count.ensures (omega (arith, count_bound word_destination c.args.told.end.destination))

pub finding-requires-2 : goal.finding-requires-2
finding-requires-2 c =
    let told = c.args.told in
    let h = fits_behind 29 c.count.ensures (omega (arith, count_bound word_destination told.end.destination)) in
    fits_behind 11 c.finding.ensures (omega (arith, finding_bound word_ring told.found.ring))

pub returns : goal.returns
unfolding head_text
returns c = put_then c.count.ensures (put_then c.finding.ensures c.finding-2.ensures)
