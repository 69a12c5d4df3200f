-- `records::loaded::run` meets its contract: too many links are refused as every list of too many is.
use Rattle.std.proofs.Common.{◌≡◌, rules}
use Rattle.std.specs.Prelude.{Err}
use Rattle.rules.specs.Checks.{base_limits}
use Rattle.machine.specs.Answers.{Answered}
use Rattle.records.proofs.Laws.{Holding-refused}
use Rattle.records.proofs.ManyLaws.{run_many}
use Rattle.records.proofs.loaded.run.Goals as goal

pub returns-in_err-link_words : goal.returns-in_err-link_words
returns-in_err-link_words c =
    let passed : c.from_residual.result ≡ Err c.in_err-link_words.field-0.0 = search rules in
    Holding-refused _ (λ r ws. Answered base_limits ws c.args.destination c.args.choices.now c.args.further c.args.table.now c.args.room.now r c.args.table.now c.args.room.now) c.in_err-link_words.ensures passed (λ ls g. run_many ls g _ _ _ _ _)
