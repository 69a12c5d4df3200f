-- The blocks passed have nothing that waits: one had no flag, or was searched in vain and lost it.
use Rattle.std.proofs.Common.{◌*◌, ◌≡◌}
use Rattle.machine.specs.Steps.{NoneWaits}
use Rattle.machine.specs.States.{Stays}
use Rattle.machine.proofs.state.Machine.first_waiting.Given as goal

abbrev pub invariant-loop-block : goal.invariant-loop-block
invariant-loop-block l = record {
  stays : Stays l.initial.self l.self;
  table : l.self.table.now ≡ l.initial.self.table.now;
  room : l.self.room.now ≡ l.initial.self.room.now;
  none : NoneWaits l.initial.self.links l.initial.self.room.now 0 (48 * l.block);
}
