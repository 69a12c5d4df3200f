-- The reply of the reading into scratch says which links there are, and so which words are handed over.
use Rattle.std.proofs.Common.{sym, arith, length-take-le, ◌*◌, length, take}
use Rattle.linktext.proofs.EntryLaws.{room_fits, fitted_room}
use Rattle.linktext.proofs.ScratchLaws.{got}
use Rattle.linktext.specs.Entries.{read_reply}
use Rattle.linktext.specs.Texts.{text_in}
use Rattle.rules.specs.Checks.{base_limits}
use Rattle.linktext.proofs.reading.read_text.Goals as goal

pub overflow_mul-scratch : goal.overflow_mul-scratch
overflow_mul-scratch c = omega (arith, (got (text_in base_limits c.args.text.now) _ _ c.read_scratch.result c.in_ok-n.n c.read_scratch.ensures c.in_ok-n.was).room)

pub slice_bounds-scratch-end : goal.slice_bounds-scratch-end
slice_bounds-scratch-end c = (got (text_in base_limits c.args.text.now) _ _ c.read_scratch.result c.in_ok-n.n c.read_scratch.ensures c.in_ok-n.was).room

pub slice_bounds-hand_over-end : goal.slice_bounds-hand_over-end
slice_bounds-hand_over-end c =
    sym (length-take-le (3 * c.in_ok-n.n) c.read_scratch.new.words (got (text_in base_limits c.args.text.now) _ _ c.read_scratch.result c.in_ok-n.n c.read_scratch.ensures c.in_ok-n.was).room)

pub returns-clause-reply : goal.returns-clause-reply
unfolding read_reply
returns-clause-reply c =
    let g = got (text_in base_limits c.args.text.now) _ _ c.read_scratch.result c.in_ok-n.n c.read_scratch.ensures c.in_ok-n.was in
    let room = room_fits (length c.args.words.now) (length (take (3 * c.in_ok-n.n) c.read_scratch.new.words)) c.in_ok-hand_over.ensures.reply in
    rw (g.whole, g.count) (sym (fitted_room (length c.args.words.now) (3 * c.in_ok-n.n) c.in_ok-n.n (omega (arith, room, length-take-le (3 * c.in_ok-n.n) c.read_scratch.new.words g.room))))
