-- `lines_fault`. The invariant: the check from line i on says what the whole check says.
use Rattle.std.proofs.Common.{◌≡◌}
use Rattle.sheet.proofs.StandingLaws.{standing_at}
use Rattle.sheet.proofs.standing.lines_fault.Given as goal

abbrev pub invariant-loop-i : goal.invariant-loop-i
invariant-loop-i l = standing_at l.bound l.ases l.table l.i ≡ standing_at l.bound l.ases l.table 0
