-- `write_sheet`: the bytes of the draft are those that the entry promises (`bytes_accepted`), for the ASes that were listed.
use Rattle.std.proofs.Common.{sym, ◌∙◌}
use Rattle.sheet.proofs.WriteLaws.{listed_front, bytes_accepted}
use Rattle.sheet.proofs.write_sheet.Goals as goal

pub returns-clause-bytes : goal.returns-clause-bytes
returns-clause-bytes c =
    let A = c.args in
    let accepted = rw c.in_ok-network.ensures at c.in_ok-network.network.accepted in
    let written = rw (listed_front _ _ _ _ c.list_ases-n.ensures) at c.write.ensures.sheet in
    written ∙ sym (bytes_accepted 511 A.words.now A.destination A.table.now A.bytes.now _ accepted)
