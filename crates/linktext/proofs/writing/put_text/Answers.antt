use Rattle.std.proofs.Common.{◌∙◌, sym, ap, ◌+◌, arith}
use Rattle.linktext.proofs.StoreLaws.{stored_on}
use Rattle.linktext.proofs.WriteLaws.{length_next, text_next, text_none}
use Rattle.linktext.specs.Texts.{text_of}
use Rattle.network.specs.Prefix.{links_from}
use lib.Seq.{sets}
use Rattle.linktext.proofs.writing.put_text.Goals as goal

pub loop-i-preserved : goal.loop-i-preserved
loop-i-preserved c =
    let ws = c.args.words.now in
    let l = c.loop-i in
    let s = rw c.link_at.ensures at c.put_line-at.ensures in (
      omega (arith, s.after, length_next ws l.i (omega arith)),
      stored_on (text_of (links_from ws (l.i + 1))) s ∙ ap (sets l.bytes l.at) (sym (text_next ws l.i (omega arith))) ∙ l.invariant.1,
    )

pub returns : goal.returns
returns c =
    let l = c.loop-i in
    sym (ap (sets l.bytes l.at) (text_none c.args.words.now l.i (omega arith))) ∙ l.invariant.1
