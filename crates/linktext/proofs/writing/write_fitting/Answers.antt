-- `write_fitting` compares the text's length with the room before it writes.
use Rattle.std.proofs.Common.{◌∙◌, sym, ◌≤◌, arith, length}
use Rattle.linktext.proofs.EntryLaws.{filled_room}
use Rattle.linktext.specs.Texts.{text_of}
use Rattle.rules.specs.Network.{links_of}
use Rattle.linktext.proofs.writing.write_fitting.Goals as goal

pub returns-clause-after : goal.returns-clause-after
returns-clause-after c =
    let A = c.args in
    let out = text_of (links_of A.words.now) in
    let need = c.text_length-need.ensures in
    let h : length out ≤ length A.bytes.now = omega arith in c.put_text.ensures ∙ sym (filled_room out A.bytes.now h)
