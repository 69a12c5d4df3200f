-- Places, blank directions and the index over them, one after the other, are the room before the first sending (`room_Ready`).
use Rattle.machine.proofs.StartLaws.{may_lay_index, room_Ready}
use Rattle.machine.proofs.start.lay_room.Goals as goal

pub lay_index-requires : goal.lay_index-requires
lay_index-requires c =
    let blank = rw c.links-links.ensures at c.lay_pairs.ensures in
    rw c.links-links.ensures (may_lay_index c.requires c.place_ends.ensures blank)

pub returns : goal.returns
returns c =
    let blank = rw c.links-links.ensures at c.lay_pairs.ensures in
    let laid = rw c.links-links.ensures at c.lay_index.ensures in
    room_Ready c.requires c.place_ends.ensures blank laid
