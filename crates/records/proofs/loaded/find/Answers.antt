-- `records::loaded::find` meets its contract: too many links are refused as every list of too many is.
use Rattle.std.proofs.Common.{◌≡◌, rules}
use Rattle.std.specs.Prelude.{Err}
use Rattle.records.specs.Entries.{FoundIn}
use Rattle.records.proofs.Laws.{Holding-refused}
use Rattle.records.proofs.ManyLaws.{found_many}
use Rattle.records.proofs.loaded.find.Goals as goal

pub returns-in_err-link_words : goal.returns-in_err-link_words
returns-in_err-link_words c =
    let passed : c.from_residual.result ≡ Err c.in_err-link_words.field-0.0 = search rules in
    Holding-refused _ (λ r ws. FoundIn ws c.args.room.now r c.args.room.now) c.in_err-link_words.ensures passed (λ ls g. found_many ls g _)
