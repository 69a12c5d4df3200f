-- `table::asked::Question::fits` meets its contract: one test after the other.
use Rattle.std.proofs.Common.{◌*◌, ◌<◌, ◌≤◌, arith, length, le-leb}
use borrow.Author.Tests.{lt-leb}
use Rattle.rules.specs.Network.{links_of}
use Rattle.rules.specs.Checks.{needed_room}
use Rattle.network.proofs.PrefixLaws.{count}
use Rattle.table.proofs.FillLaws.{question_Asked}
use Rattle.table.proofs.asked.Question.fits.Goals as goal

pub room_need-requires : goal.room_need-requires
room_need-requires c =
    let a = question_Asked c.args.self in
    omega (arith, count c.args.self.network.words.now, c.links.ensures)

pub returns-then-room-room_need : goal.returns-then-room-room_need
returns-then-room-room_need c =
    let long : 4 * length c.args.self.ases.now ≤ c.args.table = omega arith in
    let short : c.args.room < needed_room (length (links_of c.args.self.network.words.now)) (length c.args.self.ases.now)
    = omega (arith, count c.args.self.network.words.now, c.links.ensures, c.room_need.ensures) in
    simp (le-leb _ _ long, lt-leb _ _ short)

pub returns : goal.returns
returns c =
    let long : 4 * length c.args.self.ases.now ≤ c.args.table = omega arith in
    let enough : needed_room (length (links_of c.args.self.network.words.now)) (length c.args.self.ases.now) ≤ c.args.room
    = omega (arith, count c.args.self.network.words.now, c.links.ensures, c.room_need.ensures) in
    simp (le-leb _ _ long, le-leb _ _ enough)
