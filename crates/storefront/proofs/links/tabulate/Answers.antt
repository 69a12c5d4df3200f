-- `links::tabulate`: too many links are refused as every list of too many is.
use Rattle.std.proofs.Common.{◌≡◌, refl, rules}
use Rattle.std.specs.Prelude.{Err}
use Rattle.records.proofs.Laws.{Holding-refused}
use Rattle.records.proofs.ManyLaws.{check_many}
use Rattle.storefront.specs.Steps.{Tabulated}
use Rattle.storefront.proofs.TableLaws.{no_page}
use Rattle.storefront.proofs.links.tabulate.Goals as goal

pub returns-in_err-link_words : goal.returns-in_err-link_words
returns-in_err-link_words c =
    let passed : c.from_residual.result ≡ Err c.in_err-link_words.field-0.0 = search rules in
    Holding-refused _ (λ r ws. Tabulated ws c.args.destination c.args.table.now r c.args.table.now) c.in_err-link_words.ensures passed
    (λ ls g. no_page _ _ _ (check_many ls g) refl)
