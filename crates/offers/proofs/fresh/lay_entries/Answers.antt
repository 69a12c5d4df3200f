use Rattle.std.proofs.Common.{arith}
use Rattle.offers.proofs.FreshLaws.{laid_none, laid_next, laid_all}
use Rattle.offers.proofs.fresh.lay_entries.Goals as goal

pub loop-i-init : goal.loop-i-init
loop-i-init g c = λ us lines w. laid_none lines c.args.t.now

pub loop-i-preserved : goal.loop-i-preserved
loop-i-preserved g c =
    λ us lines w.
    let given = c.entry-number.ensures in
    let h = c.loop-i-test.true in
    rw c.put_entry.ensures
    (laid_next us (c.loop-i.invariant us lines w) (omega (arith, w.count)) (omega (arith, c.requires.room)) _ _ (w.number _ _ h given) (w.pair _ _ h given) (w.next _ _ h given))

pub returns : goal.returns
returns g c = λ us lines w. laid_all us (c.loop-i.invariant us lines w) (omega arith) w.count
