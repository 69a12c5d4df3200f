use Rattle.std.proofs.Common.{rules, tests, ◌≤◌, ◌<◌}
use Rattle.std.proofs.lemmas.Iterator.{IsFirst-from_position, YieldsList-from_slice}
use Rattle.machine.proofs.look.first_fault.Goals as goal

pub returns : goal.returns
returns c =
    IsFirst-from_position _ _ _ (λ k. c.args.directions ≤ k) (λ k. k < c.args.directions) c.position.ensures.ran
    (YieldsList-from_slice c.args.choices.now cc) (λ x q k. search (rules, tests)) (λ x q k. search (rules, tests))
