use Rattle.machine.proofs.HeldLaws.{none_Fair, best_none, elect_first, elect_more, best_all}
use Rattle.machine.proofs.state.Machine.elected.Goals as goal

pub loop-k-init : goal.loop-k-init
loop-k-init c = elect_first c.args.self.now.laid _ c.requires _ (none_Fair _ _ c.offer_of-best.ensures) c.word-k.ensures

pub loop-k-preserved : goal.loop-k-preserved
loop-k-preserved c =
    elect_more c.args.self.now.laid _ c.requires c.loop-k.invariant c.loop-k-test.true c.word-k-in-loop-k.ensures c.hear-best.ensures

pub returns : goal.returns
returns c =
    let all = best_all c.args.self.now.laid _ c.loop-k.invariant.best c.loop-k-test.false in
    best_none c.args.self.now.laid c.requires c.number_at-number.ensures c.offer_of-best.ensures all
