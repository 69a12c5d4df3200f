-- `table::due::Best::put_hops` meets its contract: after i turns the first i entries have their next hops. A turn is `Hopped-more`.
use Rattle.table.specs.Steps.{Hopped}
use Rattle.table.proofs.due.Best.put_hops.Given as goal

abbrev pub invariant-loop-i : goal.invariant-loop-i
invariant-loop-i l = Hopped l.self.destination l.self.offers.now l.i l.initial.table l.table
