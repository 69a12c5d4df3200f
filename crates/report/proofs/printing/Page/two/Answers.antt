-- `two` puts the first number with its space, then the second with the byte behind it.
use Rattle.std.proofs.Common.{arith, length-append}
use Rattle.linktext.proofs.TextLaws.{digits_bound}
use Rattle.report.proofs.PageLaws.{fits_behind, put_two}
use Rattle.report.proofs.printing.Page.two.Goals as goal

pub number-requires-2 : goal.number-requires-2
number-requires-2 c = fits_behind 11 c.number.ensures (simp length-append (omega (arith, digits_bound 10 c.args.x)))

pub returns : goal.returns
returns c = put_two _ _ _ c.number.ensures c.number-2.ensures
