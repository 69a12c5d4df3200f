-- The tests on the length come first; then the loop over the links starts from tables of zeros.
use Rattle.std.proofs.Common.{◌∙◌}
use Rattle.network.proofs.CheckLaws.{broken, too_many_links, whole}
use Rattle.network.proofs.check_with.Goals as goal
use Rattle.network.proofs.check_with.Goals.{then-words-ne0-via-then-words-ne0, then-words-ne0-via-else-words-ne0+then-limits-words}

pub returns-then-words-ne0 : goal.returns-then-words-ne0
returns-then-words-ne0 c =
    elim c.then-words-ne0.branch [
      | then-words-ne0-via-then-words-ne0 w ↦ broken _ _ w.if-words-ne0.true
      | then-words-ne0-via-else-words-ne0+then-limits-words w ↦ too_many_links _ _ w.if-words-ne0.false w.if-limits-words.true
    ]

pub returns : goal.returns
returns c = c.take_all.ensures ∙ whole _ _ c.if-words-ne0.false c.if-limits-words.false
