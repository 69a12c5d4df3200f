-- `bostuvrel_table`: what is said of the loaded links' words is said of the links', and every place that is refused at fits.
use Rattle.std.proofs.Common.{◌*◌, ◌∙◌, ap, length}
use Rattle.rules.specs.Checks.{base_limits}
use Rattle.rules.specs.Network.{flat, links_of, ases_of}
use Rattle.storefront.specs.Page.{fault_of_page}
use Rattle.storefront.specs.Steps.{packed_reply, Tabulated}
use Rattle.storefront.proofs.LoadedLaws.{Holding-loaded}
use Rattle.storefront.proofs.OrderLaws.{page_Fits}
use Rattle.storefront.proofs.ReplyLaws.{packs, valued_Placed}
use Rattle.storefront.proofs.links.bostuvrel_table.Goals as goal

pub reply-requires : goal.reply-requires
reply-requires c =
    let A = c.args in
    let told = Holding-loaded A.links.now (λ ws. Tabulated ws A.destination A.table.now c.tabulate.result c.tabulate.new.table) (rw c.load.ensures at c.tabulate.ensures) in
    valued_Placed _ _ told.replies (page_Fits _ A.destination _)

pub returns : goal.returns
returns c =
    let A = c.args in
    let ws = flat A.links.now in
    let told = Holding-loaded A.links.now (λ us. Tabulated us A.destination A.table.now c.tabulate.result c.tabulate.new.table) (rw c.load.ensures at c.tabulate.ensures) in
    record {
      replies =
          c.reply.ensures ∙ ap packed_reply told.replies ∙ packs (fault_of_page base_limits ws A.destination (length A.table.now)) (4 * length (ases_of (links_of ws)));
      tabled = told.tabled;
    }
