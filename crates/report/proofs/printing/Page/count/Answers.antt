-- `count` puts the word with its space, then the number with LF.
use Rattle.std.proofs.Common.{arith, length-append}
use Rattle.report.proofs.PageLaws.{fits_behind, put_two}
use Rattle.report.proofs.printing.Page.count.Goals as goal

pub number-requires : goal.number-requires
number-requires c = fits_behind 11 c.word.ensures (simp length-append (omega arith))

pub returns : goal.returns
returns c = put_two _ _ _ c.word.ensures c.number.ensures
