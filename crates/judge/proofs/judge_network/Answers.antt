-- `judge_network`: room, form and lines are refusals 8, 10, and 7 to 12 in order (`sheet_in_order`), for the ASes that were listed.
use Rattle.std.proofs.Common.{rules, ◌≡◌, refl, sym, ◌∙◌, arith, length}
use Rattle.judge.proofs.NetworkLaws.{counts}
use Rattle.judge.proofs.OrderLaws.{room_short, room_enough, sheet_in_order}
use Rattle.rules.proofs.VerdictLaws.{stopped}
use Rattle.rules.specs.Checks.{needed_room}
use Rattle.rules.specs.Network.{links_of, ases_of}
use Rattle.judge.proofs.judge_network.Goals as goal

pub returns-then-room-room_need : goal.returns-then-room-room_need
returns-then-room-room_need c =
    let ls = links_of c.args.network.words.now in
    let need : c.room_need.result ≡ needed_room (length ls) (length (ases_of ls)) = (let n = counts c.args.network.accepted in omega (arith, c.room_need.ensures, c.links.ensures, n.links, n.ases)) in
    sheet_in_order 511 ls c.args.sheet.now c.args.room _ _ _ (rw need at (room_short c.room_need.result c.args.room c.if-room-room_need.true)) refl refl

pub returns-in_err-form_fault : goal.returns-in_err-form_fault
returns-in_err-form_fault c =
    let ls = links_of c.args.network.words.now in
    let need : c.room_need.result ≡ needed_room (length ls) (length (ases_of ls)) = (let n = counts c.args.network.accepted in omega (arith, c.room_need.ensures, c.links.ensures, n.links, n.ases)) in
    let passed_on : c.from_residual.result ≡ c.form_fault.result = search rules in
    passed_on
    ∙ stopped _ _ _ (c.in_err-form_fault.was)
    ∙ sheet_in_order 511 ls c.args.sheet.now c.args.room _ _ _ (rw need at (room_enough c.room_need.result c.args.room (omega arith))) c.form_fault.ensures refl

pub returns : goal.returns
returns c =
    let ls = links_of c.args.network.words.now in
    let need : c.room_need.result ≡ needed_room (length ls) (length (ases_of ls)) = (let n = counts c.args.network.accepted in omega (arith, c.room_need.ensures, c.links.ensures, n.links, n.ases)) in
    sheet_in_order 511 ls c.args.sheet.now c.args.room _ _ _ (rw need at (room_enough c.room_need.result c.args.room (omega arith))) (sym (c.in_ok-form_fault.was) ∙ c.form_fault.ensures) c.judge_lines.ensures
