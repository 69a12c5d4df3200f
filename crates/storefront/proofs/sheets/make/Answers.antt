-- `sheets::make`: links that are refused have no sheet.
use Rattle.std.proofs.Common.{◌≡◌, refl, rules}
use Rattle.std.specs.Prelude.{Err}
use Rattle.storefront.proofs.SheetLaws.{no_lines}
use Rattle.storefront.proofs.sheets.make.Goals as goal

pub returns-in_err-check-clause-reply : goal.returns-in_err-check-clause-reply
returns-in_err-check-clause-reply c =
    let passed : c.from_residual.result ≡ Err c.in_err-check.field-0.0 = search rules in
    (no_lines c.args.words.now c.args.destination c.args.sheet.now c.in_err-check.ensures passed).0

pub returns-in_err-check-clause-bytes : goal.returns-in_err-check-clause-bytes
returns-in_err-check-clause-bytes c = (no_lines c.args.words.now c.args.destination c.args.sheet.now c.in_err-check.ensures refl).1
