-- From no offer on, the best over the directions passed (`ElectTo`): those between are heard by others.
use Rattle.std.proofs.Common.{◌*◌, ◌-◌}
use Rattle.machine.proofs.HeldLaws.{ElectTo}
use Rattle.offers.specs.Passes.{as_offer}
use Rattle.machine.proofs.state.Machine.elected.Given as goal

abbrev pub invariant-loop-k : goal.invariant-loop-k
invariant-loop-k l = ElectTo l.self.words.now l.self.links l.self.room.now l.place (as_offer l.initial.best) l.k l.best

abbrev pub decreases-loop-k : goal.decreases-loop-k
decreases-loop-k l = 2 * l.self.links - l.k
