-- Each turn passes the idle choices (`Chose-idle_to`) and makes the delivery behind them; the last choices may be idle too.
use Rattle.std.proofs.Common.{refl, rules, arith}
use lib.Seq.{take-length, length-take-le}
use Rattle.machine.proofs.RunLaws.{chose_none, Chose-more, Chose-idle_to, Chose-Delivered}
use Rattle.machine.proofs.state.Machine.take_choices.Goals as goal

pub loop-next-init : goal.loop-next-init
loop-next-init c = record { within = omega arith; stays = search rules; chooses = chose_none }

pub loop-next-preserved : goal.loop-next-preserved
loop-next-preserved c =
    let l = c.loop-next in
    let s = l.invariant.stays in
    let laid = rw (s.words, s.links) at l.self.laid in
    let first = rw s.links at c.in-Some.ensures in
    let idle = Chose-idle_to _ _ _ laid l.invariant.chooses first.after (omega (arith, first.before)) c.requires.directions first.idle in
    let one = Chose-Delivered laid (c.requires.directions _ first.before) first.some
    (omega (arith, l.invariant.chooses.counts, length-take-le l.passed c.args.choices.now l.invariant.within, c.requires.few))
    (rw (s.words, s.links, s.destination) at c.deliver.ensures.delivers) in
    record { within = omega (arith, first.before); stays = search rules; chooses = Chose-more _ _ idle first.before refl one }

pub returns-clause-chooses : goal.returns-clause-chooses
returns-clause-chooses c =
    let l = c.loop-next in
    let s = l.invariant.stays in
    let laid = rw (s.words, s.links) at l.self.laid in
    rw (take-length c.args.choices.now) at
    (Chose-idle_to _ _ _ laid l.invariant.chooses l.invariant.within (omega arith) c.requires.directions (rw s.links at c.in_default.ensures))
