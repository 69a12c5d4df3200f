-- Along the directions that the sender hears over, it has sent over the partners of those passed (`SentTo`).
use Rattle.std.proofs.Common.{◌*◌, ◌-◌, ◌≡◌}
use Rattle.machine.proofs.RoomLaws.{SentTo}
use Rattle.machine.specs.States.{Stays}
use Rattle.machine.proofs.state.Machine.send.Given as goal

abbrev pub invariant-loop-k : goal.invariant-loop-k
invariant-loop-k l = record {
  stays : Stays l.initial.self l.self;
  table : l.self.table.now ≡ l.initial.self.table.now;
  sent : SentTo l.initial.self.links l.place l.word l.initial.self.room.now l.k l.self.room.now;
}

abbrev pub decreases-loop-k : goal.decreases-loop-k
decreases-loop-k l = 2 * l.self.links - l.k
