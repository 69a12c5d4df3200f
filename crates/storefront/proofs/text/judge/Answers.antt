-- `text::judge`: a sheet that is too long, a text that is refused, or the words of the text's links.
use Rattle.std.proofs.Common.{◌≡◌, sym, ◌∙◌, ap, rules, arith}
use Rattle.std.specs.Prelude.{Err}
use Rattle.rules.specs.Replies.{Verdict}
use Rattle.storefront.specs.Steps.{valued}
use Rattle.storefront.proofs.ReplyLaws.{judged_long, judged_unread, judged_given, valued-refused}
use Rattle.storefront.proofs.text.judge.Goals as goal

pub returns-then-sheet : goal.returns-then-sheet
returns-then-sheet c = judged_long _ _ c.if-sheet.true

pub returns-in_err-links : goal.returns-in_err-links
returns-in_err-links c =
    let passed : c.from_residual.result ≡ Err c.in_err-links.field-0.0 = search rules in
    judged_unread _ c.in_err-links.ensures passed _ (omega arith)

pub returns-in_err-judge : goal.returns-in_err-judge
returns-in_err-judge c =
    let passed : c.from_residual-in_err-judge.result ≡ Err c.in_err-judge.field-0.0 = search rules in
    valued-refused _ (sym (judged_given _ _ c.in_ok-links.ensures c.args.sheet.now (omega arith)) ∙ sym c.in_err-judge.ensures) passed

pub returns : goal.returns
returns c =
    ap (λ (v : Verdict). valued v 0) (c.in_ok-judge.ensures ∙ judged_given _ _ c.in_ok-links.ensures c.args.sheet.now (omega arith))
