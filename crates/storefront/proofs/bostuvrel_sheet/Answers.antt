-- `bostuvrel_sheet`: every place that is refused at fits.
use Rattle.storefront.proofs.OrderLaws.{sheet_Fits}
use Rattle.storefront.proofs.ReplyLaws.{valued_Placed}
use Rattle.storefront.proofs.bostuvrel_sheet.Goals as goal

pub reply-requires : goal.reply-requires
reply-requires c = valued_Placed _ _ c.sheet.ensures.reply (sheet_Fits c.args.text.now c.args.destination _)
