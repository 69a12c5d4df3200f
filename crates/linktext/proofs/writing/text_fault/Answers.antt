-- The definition's two questions on the number of words, then the first link without a relation.
use Rattle.std.proofs.Common.{◌∙◌, sym, arith}
use Rattle.linktext.proofs.WriteLaws.{fault_ragged, fault_many, fault_links}
use Rattle.linktext.proofs.writing.text_fault.Goals as goal
use Rattle.linktext.proofs.writing.text_fault.Goals.{then-words-ne0-via-then-words-ne0, then-words-ne0-via-else-words-ne0+then-limits-words}

pub returns-then-words-ne0 : goal.returns-then-words-ne0
returns-then-words-ne0 c =
    let A = c.args in
    elim c.then-words-ne0.branch [
      | then-words-ne0-via-then-words-ne0 w ↦ sym (fault_ragged A.limits A.words.now w.if-words-ne0.true)
      | then-words-ne0-via-else-words-ne0+then-limits-words w ↦ sym (fault_many A.limits A.words.now (omega arith) (omega arith))
    ]

pub returns : goal.returns
returns c =
    let A = c.args in
    c.relation_fault.ensures ∙ sym (fault_links A.limits A.words.now (omega arith) (omega arith))
