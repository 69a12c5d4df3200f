use Rattle.table.proofs.PhaseLaws.{Reached-more, Stays-none, Stays-more, after_passed}
use Rattle.table.specs.Phases.{begun}
use Rattle.table.proofs.phases.Settling.run.Goals as goal

pub loop-init : goal.loop-init
loop-init c = record { stays = Stays-none _; reached = begun }

pub loop-preserved : goal.loop-preserved
loop-preserved c = record {
  stays = Stays-more c.loop.invariant.stays c.pass.ensures.stays;
  reached = Reached-more c.loop.invariant.reached (after_passed _ _ c.loop.invariant.stays c.pass.ensures.passed).reached;
}
