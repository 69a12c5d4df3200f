use Rattle.std.proofs.Common.{arith, rules}
use Rattle.table.proofs.LookLaws.{few_links}
use Rattle.table.proofs.PhaseLaws.{passed_none, Passed-more, Stays-none, Stays-more, after_taken, after_room}
use Rattle.table.proofs.phases.Settling.pass.Goals as goal

pub overflow_mul-k-end : goal.overflow_mul-k-end
overflow_mul-k-end c =
    let few = few_links c.args.self.now.network.words.now c.args.self.now.network.ases c.args.self.now.network.accepted in
    search rules

pub loop-k-init : goal.loop-k-init
loop-k-init c = record { stays = Stays-none _; passed = passed_none _ }

pub loop-k-preserved : goal.loop-k-preserved
loop-k-preserved c =
    let s = c.loop-k.invariant.stays in
    record {
      stays = Stays-more s c.offer-changed.ensures.stays;
      passed =
          Passed-more c.args.self.now.ready.placed c.loop-k.k (omega (arith, c.links-k-end.ensures, c.args.self.now.ready.whole)) (after_room _ _ s) _ _ c.loop-k.invariant.passed
          (after_taken _ _ s _ _ _ _ c.offer-changed.ensures.taken);
    }
