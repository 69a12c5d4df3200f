-- `bostuvrel_findings`: every place that is refused at fits.
use Rattle.storefront.proofs.OrderLaws.{text_fits}
use Rattle.storefront.proofs.ReplyLaws.{valued_Placed}
use Rattle.storefront.proofs.bostuvrel_findings.Goals as goal

pub reply-requires : goal.reply-requires
reply-requires c = valued_Placed _ _ c.find.ensures (text_fits c.args.text.now)
