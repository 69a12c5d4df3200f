-- `put_sheet`: the head and then the lines are the sheet.
use Rattle.std.proofs.Common.{refl, arith}
use Rattle.sheet.proofs.RunLaws.{sheet_run}
use Rattle.sheet.proofs.writing.put_sheet.Goals as goal

pub returns : goal.returns
returns c =
    let A = c.args in
    sheet_run A.bytes.now c.put_head.new.bytes c.put_lines.new.bytes A.table.now A.destination _ refl (omega arith) c.put_head.ensures c.put_lines.ensures
