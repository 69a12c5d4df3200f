-- `text::sheet`: a text that is refused, or the words of the text's links.
use Rattle.std.proofs.Common.{◌≡◌, refl, rules}
use Rattle.std.specs.Prelude.{Err}
use Rattle.storefront.proofs.ReplyLaws.{sheet_unread, sheet_given_lem}
use Rattle.storefront.proofs.text.sheet.Goals as goal

pub returns-in_err-read-clause-reply : goal.returns-in_err-read-clause-reply
returns-in_err-read-clause-reply c =
    let passed : c.from_residual.result ≡ Err c.in_err-read.field-0.0 = search rules in
    (sheet_unread _ c.in_err-read.ensures passed c.args.destination c.args.sheet.now).0

pub returns-in_err-read-clause-bytes : goal.returns-in_err-read-clause-bytes
returns-in_err-read-clause-bytes c = (sheet_unread _ c.in_err-read.ensures refl c.args.destination c.args.sheet.now).1

pub returns-clause-reply : goal.returns-clause-reply
returns-clause-reply c = (sheet_given_lem _ _ c.in_ok-read.ensures _ c.args.sheet.now (c.make.ensures.reply, c.make.ensures.bytes)).0

pub returns-clause-bytes : goal.returns-clause-bytes
returns-clause-bytes c = (sheet_given_lem _ _ c.in_ok-read.ensures _ c.args.sheet.now (c.make.ensures.reply, c.make.ensures.bytes)).1
