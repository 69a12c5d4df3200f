-- `text::find`: the words are those of the text's links.
use Rattle.std.proofs.Common.{◌≡◌, rules}
use Rattle.std.specs.Prelude.{Err}
use Rattle.storefront.proofs.ReplyLaws.{found_given, found_refused}
use Rattle.storefront.proofs.text.find.Goals as goal

pub returns-in_err-found : goal.returns-in_err-found
returns-in_err-found c =
    let passed : c.from_residual-in_err-found.result ≡ Err c.in_err-found.field-0.0 = search rules in
    found_refused _ _ c.in_ok-read.ensures c.in_err-found.ensures passed

pub returns : goal.returns
returns c = (found_given _ _ c.in_ok-read.ensures _ c.in_ok-found.ensures c.found.ensures)
