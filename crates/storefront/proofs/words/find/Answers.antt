-- `words::find`: links that are refused have no findings.
use Rattle.std.proofs.Common.{◌≡◌, rules}
use Rattle.std.specs.Prelude.{Err}
use Rattle.storefront.proofs.TableLaws.{not_found}
use Rattle.storefront.proofs.words.find.Goals as goal

pub returns-in_err-check : goal.returns-in_err-check
returns-in_err-check c =
    let passed : c.from_residual.result ≡ Err c.in_err-check.field-0.0 = search rules in
    not_found _ c.in_err-check.ensures passed
