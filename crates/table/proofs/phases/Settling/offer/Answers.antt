-- `table::phases::Settling::offer` meets its contract: both ends of the way have entries.
use Rattle.table.proofs.PhaseLaws.{ready_way, ready_Joins}
use Rattle.table.proofs.phases.Settling.offer.Goals as goal

pub way_at-way-requires : goal.way_at-way-requires
way_at-way-requires c = ready_way c.args.self.now.ready c.args.k c.requires

pub take_offer-requires : goal.take_offer-requires
take_offer-requires c = rw c.way_at-way.ensures (ready_Joins c.args.self.now.ready c.args.k c.requires)
