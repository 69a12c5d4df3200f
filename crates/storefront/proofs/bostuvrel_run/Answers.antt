-- `bostuvrel_run`: every place that is refused at fits.
use Rattle.storefront.proofs.OrderLaws.{run_Fits}
use Rattle.storefront.proofs.ReplyLaws.{valued_Placed}
use Rattle.storefront.proofs.bostuvrel_run.Goals as goal

pub reply-requires : goal.reply-requires
reply-requires c = valued_Placed _ _ c.run.ensures.reply (run_Fits c.args.text.now c.args.destination c.args.choices.now c.args.further _)
