-- The slot where the search stopped holds x, or is empty and takes it.
use Rattle.std.proofs.Common.{sym, ◌+◌, ◌∙◌, arith}
use Rattle.network.specs.Slots.{Stopped}
use Rattle.network.specs.Tables.{is_as}
use Rattle.network.proofs.SlotLaws.{stopped, stops_inside}
use Rattle.network.proofs.AsTableLaws.{as_Room, Noted-there, Noted-new}
use Rattle.network.proofs.slots.note_as.Goals as goal
use Rattle.network.proofs.slots.note_as.Goals.{After-unwrap}

stop : (c : After-unwrap) → Stopped (is_as c.args.x) c.args.seats.now c.as_home-h.result (c.as_home-h.result + c.unwrap.result)
stop c = stopped (is_as c.args.x) _ _ (omega (arith, c.requires.1.fits)) _ (sym c.find_as.ensures ∙ c.unwrap.ensures)

pub unwrap-requires : goal.unwrap-requires
unwrap-requires c = rw c.find_as.ensures (stops_inside (is_as c.args.x) _ _ (omega (arith, c.requires.1.fits)) (as_Room c.requires.1 c.as_home-h.ensures.1))

pub returns-then-seats-s-eq0 : goal.returns-then-seats-s-eq0
returns-then-seats-s-eq0 c = Noted-new c.requires.0 c.requires.1 c.as_home-h.ensures.0 (stop (goal.at.returns-then-seats-s-eq0 c).After-unwrap) c.if-seats-s-eq0.true

pub returns-else-seats-s-eq0 : goal.returns-else-seats-s-eq0
returns-else-seats-s-eq0 c = Noted-there c.requires.0 c.requires.1 c.as_home-h.ensures.0 (stop (goal.at.returns-else-seats-s-eq0 c).After-unwrap) c.if-seats-s-eq0.false
