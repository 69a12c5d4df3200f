-- What is left of the definition at place i equals the whole, and the tables hold the links before it.
use Rattle.std.proofs.Common.{◌≡◌}
use Rattle.network.specs.Prefix.{check_at}
use Rattle.network.specs.Tables.{After}
use Rattle.network.proofs.steps.Tables.take_all.Given as goal

abbrev pub invariant-loop-i : goal.invariant-loop-i
invariant-loop-i l = record {
  limits : l.self.limits ≡ l.initial.self.limits;
  rest : check_at l.self.limits l.words l.i ≡ check_at l.self.limits l.words 0;
  tables : After l.self.limits l.words l.i l.self.ases l.self.seats.now l.self.pairs.now;
}
