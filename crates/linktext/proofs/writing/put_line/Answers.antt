-- `put_line` stores the line's parts one after the other; each leaves room for the next.
use Rattle.linktext.proofs.StoreLaws.{Stored-then}
use Rattle.linktext.proofs.TextLaws.{Line-parts}
use Rattle.linktext.proofs.writing.put_line.Goals as goal

pub returns : goal.returns
returns c =
    let s = c.put_field-second.ensures in
    let t = c.put_field-third.ensures in
    rw Line-parts (Stored-then s (Stored-then t c.put_end.ensures))
