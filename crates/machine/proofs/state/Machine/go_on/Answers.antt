use Rattle.std.proofs.Common.{arith, rules}
use Rattle.machine.proofs.RunLaws.{went_none, went_more, went_quiet}
use Rattle.machine.proofs.state.Machine.go_on.Goals as goal

pub loop-init : goal.loop-init
loop-init c = record { stays = search rules; made = omega arith; goes_on = went_none _ }

pub loop-preserved : goal.loop-preserved
loop-preserved c =
    let s = c.loop.invariant.stays in
    let f = c.in-Some.ensures in
    let laid = rw (s.words, s.links) at c.loop.self.laid in
    let first = rw s.links at f.first in
    let one = rw (f.stays.words, f.stays.links, f.stays.destination, f.table, f.room, s.words, s.links, s.destination) at c.deliver.ensures.delivers in
    record {
      stays = search rules;
      made = omega (arith, c.loop.invariant.made);
      goes_on = went_more c.loop.invariant.goes_on laid first (omega (arith, c.requires.few, c.requires.deliveries, c.loop.invariant.made, c.loop-test.true)) one;
    }

pub returns-in_default-clause-goes_on : goal.returns-in_default-clause-goes_on
returns-in_default-clause-goes_on c =
    let s = c.loop.invariant.stays in
    let f = c.in_default.ensures in
    let laid = rw (s.words, s.links) at c.loop.self.laid in
    let none = rw s.links at f.first in
    rw (f.table, f.room) (went_quiet c.loop.invariant.goes_on laid none (omega (arith, c.loop-test.true)))
