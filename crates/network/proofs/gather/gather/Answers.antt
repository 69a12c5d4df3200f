use Rattle.std.proofs.Common.{refl, arith}
use Rattle.network.proofs.GatherLaws.{Gathering-on, Holding-none, Holding-more, Holding-all}
use Rattle.network.proofs.gather.gather.Goals as goal

pub loop-i-init : goal.loop-i-init
loop-i-init c = (record { seen_long = c.told-seen; met_long = refl; few = omega arith }, Holding-none c.args.words.now _)

pub loop-i-preserved : goal.loop-i-preserved
loop-i-preserved c = (
  Gathering-on (Gathering-on c.loop-i.invariant.0 c.in_ok-n.ensures) c.in_ok-n-2.ensures,
  Holding-more c.args.words.now c.loop-i.i c.link_at-l.result c.link_at-l.ensures c.loop-i.invariant.1 c.in_ok-n.ensures
      c.in_ok-n-2.ensures,
)

pub returns : goal.returns
returns c =
    let all = Holding-all c.args.words.now c.loop-i.i c.loop-i.invariant.1 (omega arith) (omega arith) in
    record { long = c.loop-i.invariant.0.seen_long; few = c.loop-i.invariant.0.few; same = all }
