use Rattle.std.proofs.Common.{arith}
use Rattle.machine.proofs.AnswerLaws.{choices_first, choices_none_bad}
use Rattle.machine.proofs.look.choice_fault.Goals as goal

pub returns-in-Some : goal.returns-in-Some
returns-in-Some c =
    let first = c.in-Some.ensures in
    choices_first c.args.directions 0 c.args.choices.now _ _ (omega arith) first.0 (first.1 0) (λ k l. first.2 k 0 (omega arith) l)

pub returns-in-None : goal.returns-in-None
returns-in-None c = choices_none_bad c.args.directions 0 c.args.choices.now (λ k l. c.in-None.ensures k 0 (omega arith) l)
