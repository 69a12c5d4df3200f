-- The machine holds what the deliveries made so far make of every run.
use Rattle.std.proofs.Common.{◌+◌, ◌≡◌}
use Rattle.machine.specs.States.{Stays, GoesOn}
use Rattle.machine.proofs.state.Machine.go_on.Given as goal

abbrev pub invariant-loop : goal.invariant-loop
invariant-loop l = record {
  stays : Stays l.initial.self l.self;
  made : l.counts.made ≡ l.initial.counts.made + l.counter;
  goes_on : GoesOn l.initial.self l.counter l.initial.counts l.self l.counts;
}
