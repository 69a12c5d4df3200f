-- `bostuvrel_judge`: every place that is refused at fits.
use Rattle.storefront.proofs.OrderLaws.{judging_Fits}
use Rattle.storefront.proofs.ReplyLaws.{valued_Placed}
use Rattle.storefront.proofs.bostuvrel_judge.Goals as goal

pub reply-requires : goal.reply-requires
reply-requires c = valued_Placed _ _ c.judge.ensures (judging_Fits c.args.text.now c.args.sheet.now)
