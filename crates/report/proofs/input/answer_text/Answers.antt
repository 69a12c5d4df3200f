-- `answer_text`: the reply of the reading says which links there are, and their words are checked and run.
use Rattle.std.proofs.Common.{◌≡◌, refl, sym, subst, rules, arith, length-take-le}
use Rattle.std.specs.Prelude.{Err}
use Rattle.linktext.proofs.ScratchLaws.{got, lost}
use Rattle.linktext.specs.Texts.{text_in}
use Rattle.linktext.specs.TextNetworks.{links_of_text}
use Rattle.report.proofs.InputLaws.{refuses, no_text, some_text}
use Rattle.report.specs.Answers.{fault_of_text, Worked}
use Rattle.rules.specs.Checks.{base_limits}
use Rattle.report.proofs.input.answer_text.Goals as goal

pub overflow_mul-words : goal.overflow_mul-words
overflow_mul-words c = omega (arith, (got (text_in base_limits c.args.text.now) _ _ _ _ c.in_ok-links.ensures refl).room)

pub slice_bounds-words-end : goal.slice_bounds-words-end
slice_bounds-words-end c = (got (text_in base_limits c.args.text.now) _ _ _ _ c.in_ok-links.ensures refl).room

pub slice_bounds-answer_links-end : goal.slice_bounds-answer_links-end
slice_bounds-answer_links-end c = sym (length-take-le _ _ (got (text_in base_limits c.args.text.now) _ _ _ _ c.in_ok-links.ensures refl).room)

pub returns-in_err-links : goal.returns-in_err-links
returns-in_err-links c =
    let A = c.args in
    let passed : c.from_residual.result ≡ Err c.in_err-links.field-0.0 = search rules in
    subst (λ r. Worked (links_of_text base_limits A.text.now) A.destination (fault_of_text A.text.now A.destination) A.table.now A.room.now r A.table.now A.room.now) (sym passed) (refuses (no_text A.text.now A.destination (lost (text_in base_limits A.text.now) _ _ _ _ c.in_err-links.ensures refl)))

pub returns : goal.returns
returns c =
    let A = c.args in
    some_text A.text.now A.destination (got (text_in base_limits A.text.now) _ _ _ _ c.in_ok-links.ensures refl) c.answer_links.ensures
