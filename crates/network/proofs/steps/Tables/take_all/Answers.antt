use Rattle.std.proofs.Common.{refl, ◌∙◌, arith}
use Rattle.network.proofs.StepLaws.{After-none, check_end}
use Rattle.network.proofs.steps.Tables.take_all.Goals as goal

pub loop-i-init : goal.loop-i-init
loop-i-init c = record { limits = refl; rest = refl; tables = After-none c.requires }

pub returns : goal.returns
returns c =
    rw (← c.loop-i.invariant.limits)
    (check_end c.loop-i.self.limits c.args.words.now c.loop-i.i c.loop-i.self.ases (omega arith) c.loop-i.invariant.tables.known.count ∙ c.loop-i.invariant.rest)
