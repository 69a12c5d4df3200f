-- Nothing waits on the directions of the choices that were looked at.
use Rattle.machine.specs.Steps.{IdleTo}
use Rattle.machine.proofs.state.Machine.next_delivery.Given as goal

abbrev pub invariant-loop-i : goal.invariant-loop-i
invariant-loop-i l = IdleTo l.self.links l.self.room.now l.choices l.from l.i
