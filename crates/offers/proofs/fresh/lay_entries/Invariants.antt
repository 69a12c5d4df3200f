-- After i entries the first i have what was given for them, and the rest is as it was (`laid_next`).
use Rattle.std.proofs.Common.{ℕ, List, take}
use Rattle.rules.specs.Stable.{Routing}
use Rattle.offers.specs.Lines.{Laying}
use Rattle.offers.proofs.FreshLaws.{LaidTo}
use Rattle.offers.proofs.fresh.lay_entries.Given as goal

abbrev pub invariant-loop-i : goal.invariant-loop-i
invariant-loop-i g l =
    (us : List ℕ) (lines : Routing) → Laying (goal.F-post g l.entry) l.n us lines → LaidTo lines (take l.i us) l.i l.initial.t l.t
