-- `judge`: the lowest difference from the lines that are due is refusal 12 (`due_judged`).
use Rattle.std.proofs.Common.{◌∙◌, arith, length-take}
use Rattle.judge.proofs.NetworkLaws.{accepted_Network}
use Rattle.judge.proofs.DueLaws.{told_length, due_judged}
use Rattle.judge.proofs.best.Printed.judge.Goals as goal

pub first_difference-requires : goal.first_difference-requires
first_difference-requires c = simp length-take (omega (arith, told_length c.args.self.told, (accepted_Network c.args.self.listed c.args.self.network.accepted).few_ases))

pub returns : goal.returns
returns c = c.first_difference.ensures ∙ due_judged _ c.args.self.told _ _ c.put_due.ensures
