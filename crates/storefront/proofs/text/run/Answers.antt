-- `text::run`: too many choices or deliveries, a text that is refused, or the words of the text's links.
use Rattle.std.proofs.Common.{◌≡◌, ◌∙◌, refl, rules, arith}
use Rattle.std.specs.Prelude.{Err}
use Rattle.storefront.proofs.ReplyLaws.{too_many, run_unread, run_table, ran_few, ran_given, ran_refused}
use Rattle.storefront.proofs.text.run.Goals as goal

pub returns-then-choices-gt-MOST_CHOICES-clause-reply : goal.returns-then-choices-gt-MOST_CHOICES-clause-reply
returns-then-choices-gt-MOST_CHOICES-clause-reply c = (too_many c.args.text.now c.args.destination c.args.choices.now c.args.further c.args.table.now c.then-choices-gt-MOST_CHOICES.either refl).0

pub returns-then-choices-gt-MOST_CHOICES-clause-table : goal.returns-then-choices-gt-MOST_CHOICES-clause-table
returns-then-choices-gt-MOST_CHOICES-clause-table c = (too_many c.args.text.now c.args.destination c.args.choices.now c.args.further c.args.table.now c.then-choices-gt-MOST_CHOICES.either refl).1

pub returns-in_err-links-clause-reply : goal.returns-in_err-links-clause-reply
returns-in_err-links-clause-reply c =
    let passed : c.from_residual.result ≡ Err c.in_err-links.field-0.0 = search rules in
    (run_unread c.args.text.now c.args.destination c.args.choices.now c.args.further c.args.table.now (omega arith) (omega arith) _ c.in_err-links.ensures passed).0

pub returns-in_err-links-clause-table : goal.returns-in_err-links-clause-table
returns-in_err-links-clause-table c = (run_unread c.args.text.now c.args.destination c.args.choices.now c.args.further c.args.table.now (omega arith) (omega arith) _ c.in_err-links.ensures refl).1

pub returns-in_err-ran-clause-reply : goal.returns-in_err-ran-clause-reply
returns-in_err-ran-clause-reply c =
    let passed : c.from_residual-in_err-ran.result ≡ Err c.in_err-ran.field-0.0 = search rules in
    ran_refused c.args.text.now c.args.destination c.args.choices.now c.args.further c.args.table.now (omega arith) (omega arith) _ c.in_ok-links.ensures c.in_err-ran.ensures.reply passed

pub returns-in_err-ran-clause-table : goal.returns-in_err-ran-clause-table
returns-in_err-ran-clause-table c =
    c.run.ensures.table ∙ run_table c.args.text.now c.args.destination c.args.choices.now c.args.further c.args.table.now (omega arith) (omega arith) _ c.in_ok-links.ensures

pub counted-requires : goal.counted-requires
counted-requires c =
    ran_few c.args.text.now c.args.destination c.args.choices.now c.args.further c.args.table.now (omega arith) (omega arith) _ c.in_ok-links.ensures _ c.in_ok-ran.ensures.reply

pub returns-clause-reply : goal.returns-clause-reply
returns-clause-reply c =
    ran_given c.args.text.now c.args.destination c.args.choices.now c.args.further c.args.table.now (omega arith) (omega arith) _ c.in_ok-links.ensures _ c.in_ok-ran.ensures.reply c.counted.ensures

pub returns-clause-table : goal.returns-clause-table
returns-clause-table c =
    c.run.ensures.table ∙ run_table c.args.text.now c.args.destination c.args.choices.now c.args.further c.args.table.now (omega arith) (omega arith) _ c.in_ok-links.ensures
