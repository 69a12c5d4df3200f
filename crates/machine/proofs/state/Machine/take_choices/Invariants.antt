-- The machine holds what the choices passed make of every run.
use Rattle.std.proofs.Common.{take, length, ◌-◌, ◌≤◌}
use Rattle.machine.specs.States.{Stays, ChoosesAll}
use Rattle.machine.proofs.state.Machine.take_choices.Given as goal

abbrev pub invariant-loop-next : goal.invariant-loop-next
invariant-loop-next l = record {
  within : l.passed ≤ length l.choices;
  stays : Stays l.initial.self l.self;
  chooses : ChoosesAll l.initial.self (take l.passed l.choices) l.self l.counts;
}

abbrev pub decreases-loop-next : goal.decreases-loop-next
decreases-loop-next l = length l.choices - l.passed
