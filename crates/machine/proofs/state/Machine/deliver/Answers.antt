-- The waiting pair moves; then the hearer's line is amended, or nothing more happens, at the destination.
use Rattle.machine.proofs.DeliverLaws.{deliver_home, deliver_Amended}
use Rattle.machine.proofs.state.Machine.deliver.Goals as goal

pub returns-then-way-self-clause-delivers : goal.returns-then-way-self-clause-delivers
returns-then-way-self-clause-delivers c =
    let s = c.move_waiting.ensures.stays in
    let moves = c.move_waiting.ensures.moves in
    let way = rw s.words at c.way-way.ensures in
    let off = rw s.destination at c.if-way-self.true in
    deliver_Amended c.args.self.now.laid c.args.self.now.inside c.requires _ moves.room _ way off
    (rw (s.words, s.links, moves.table) at c.amend.ensures.amends)

pub returns-else-way-self-clause-delivers : goal.returns-else-way-self-clause-delivers
returns-else-way-self-clause-delivers c =
    let s = c.move_waiting.ensures.stays in
    let moves = c.move_waiting.ensures.moves in
    let way = rw s.words at c.way-way.ensures in
    let home = rw s.destination at c.if-way-self.false in
    rw moves.table (deliver_home c.args.self.now.laid c.args.self.now.inside c.requires _ moves.room _ way home)
