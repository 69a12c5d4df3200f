-- What `find` says of the directions between is what is asked (`first_between`).
use Rattle.std.proofs.Common.{rules, tests, ◌≡◌, ◌≢◌}
use Rattle.std.proofs.lemmas.Iterator.{first_from_Range}
use Rattle.machine.specs.Room.{waiting_word}
use Rattle.machine.proofs.BlockLaws.{first_between}
use Rattle.machine.proofs.state.Machine.first_in.Goals as goal

pub returns : goal.returns
returns c =
    let m = c.args.self.now.links in
    let r = c.args.self.now.room.now in
    let first = first_from_Range _ _ _ _ (λ k. waiting_word m r k ≢ 0) (λ k. waiting_word m r k ≡ 0) c.find.ensures.ran (λ x q k. search (rules, tests)) (λ x q k. search (rules, tests)) in
    first_between m r _ _ c.min-end.ensures _ first
