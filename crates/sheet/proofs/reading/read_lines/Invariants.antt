-- `read_lines`. The invariant: the first i lines stand in the table.
use Rattle.std.proofs.Common.{◌≡◌}
use Rattle.sheet.proofs.ReadLaws.{table_to}
use Rattle.sheet.proofs.reading.read_lines.Given as goal

abbrev pub invariant-loop-i : goal.invariant-loop-i
invariant-loop-i l = l.table ≡ table_to l.sheet l.initial.table l.i
