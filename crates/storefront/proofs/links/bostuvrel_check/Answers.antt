-- `bostuvrel_check`: the number of ASes, or the refusal, and its place fits.
use Rattle.std.proofs.Common.{◌∙◌, ap, length}
use Rattle.rules.specs.Checks.{base_limits}
use Rattle.rules.specs.Network.{flat, links_of, ases_of}
use Rattle.rules.specs.Entry.{fault_of_links}
use Rattle.storefront.specs.Page.{check_reply}
use Rattle.storefront.specs.Steps.{packed_reply}
use Rattle.storefront.proofs.PlaceLaws.{links_fit}
use Rattle.storefront.proofs.ReplyLaws.{packs, valued_Placed}
use Rattle.storefront.proofs.TableLaws.{check_told}
use Rattle.storefront.proofs.links.bostuvrel_check.Goals as goal

pub reply-requires : goal.reply-requires
reply-requires c = valued_Placed _ _ (check_told _ c.check.ensures) (links_fit _)

pub returns : goal.returns
unfolding check_reply
returns c =
    let ws = flat c.args.links.now in
    c.reply.ensures ∙ ap packed_reply (check_told _ c.check.ensures) ∙ packs (fault_of_links base_limits ws) (length (ases_of (links_of ws)))
