-- Lines and room, one after the other (`lay_LaidOut`).
use Rattle.std.proofs.Common.{refl}
use Rattle.machine.proofs.StartLaws.{may_ready, lay_LaidOut}
use Rattle.machine.proofs.start.lay_out.Goals as goal

pub lay_room-requires : goal.lay_room-requires
lay_room-requires c = may_ready c.requires

pub returns : goal.returns
returns c = lay_LaidOut c.requires refl c.lay_fresh_lines.ensures c.lay_room.ensures
