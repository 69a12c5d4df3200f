use Rattle.std.proofs.Common.{refl}
use Rattle.table.proofs.PhaseLaws.{Stays-none, Stays-more, after_settled}
use Rattle.table.specs.Phases.{first_phase, next_phase}
use Rattle.table.proofs.phases.Settling.run_all.Goals as goal

pub loop-phase-init : goal.loop-phase-init
loop-phase-init c = record { stays = Stays-none _; phased = first_phase }

pub loop-phase-preserved : goal.loop-phase-preserved
loop-phase-preserved c = record {
  stays = Stays-more c.loop-phase.invariant.stays c.run.ensures.stays;
  phased = next_phase c.loop-phase.phase _ _ _ c.loop-phase.invariant.phased (after_settled _ _ c.loop-phase.invariant.stays c.run.ensures.settled) refl;
}
