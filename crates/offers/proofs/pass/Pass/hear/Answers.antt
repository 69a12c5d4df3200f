-- The direction's ends have entries.
use Rattle.offers.proofs.HearLaws.{telling, hearer}
use Rattle.offers.proofs.pass.Pass.hear.Goals as goal

pub hear_over-requires : goal.hear_over-requires
hear_over-requires c =
    (telling c.args.self.now.electing c.requires c.way_at.ensures, hearer c.args.self.now.electing c.requires c.way_at.ensures)
