-- Direction k by its place words is arc k, and its hearer considers what is held (`hear_own`).
use Rattle.machine.proofs.HeldLaws.{teller_fits, hear_own}
use Rattle.machine.proofs.state.Machine.hear.Goals as goal

pub number_at-from-requires : goal.number_at-from-requires
number_at-from-requires c = teller_fits c.args.self.now.laid c.requires.direction _ c.way-way.ensures

pub returns : goal.returns
returns c =
    hear_own c.args.self.now.laid c.requires.direction _ c.way-way.ensures _ _ _ c.number_at-from.ensures c.held-told.ensures c.consider.ensures
