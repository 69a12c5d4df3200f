-- `finding` puts the word with its space, then yes or no with LF.
use Rattle.std.proofs.Common.{◌≡◌, ◌≤◌, rules, arith, length, length-append}
use Rattle.report.proofs.PageLaws.{fits_behind, put_two}
use Rattle.report.specs.Report.{yes_no}
use Rattle.report.proofs.printing.Page.finding.Goals as goal
use Rattle.report.proofs.printing.Page.finding.Goals.{then-holds, else-holds}

pub word-requires-2 : goal.word-requires-2
word-requires-2 c =
    let short : length c.if-holds.word.now ≤ 3 = elim c.if-holds.branch [ then-holds w ↦ search rules | else-holds w ↦ search rules ] in
    fits_behind _ c.word.ensures (simp length-append (omega arith))

pub returns : goal.returns
returns c =
    let same : c.if-holds.word.now ≡ yes_no c.args.holds = elim c.if-holds.branch [ then-holds w ↦ search rules | else-holds w ↦ search rules ] in
    put_two _ _ _ c.word.ensures (rw same at c.word-2.ensures)
