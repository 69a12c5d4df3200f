-- `word` copies the word, and the byte goes behind it.
use Rattle.std.proofs.Common.{refl, arith, length-append}
use Rattle.report.proofs.PageLaws.{copied}
use Rattle.report.proofs.printing.Page.word.Goals as goal

pub returns : goal.returns
returns c =
    let A = c.args in
    rw
    c.copy_from_slice.ensures.after
    (record { stored = record { bytes = copied A.self.now.bytes.now A.word.now A.self.now.at _ A.end (omega arith) (omega arith); after = simp length-append (omega arith) }; loan = refl })
