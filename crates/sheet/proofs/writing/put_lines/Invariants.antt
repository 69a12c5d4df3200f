-- `put_lines`. The invariant: with the lines from i on written as well, the bytes are those with all lines written.
use Rattle.std.proofs.Common.{◌≡◌, length}
use Rattle.sheet.proofs.RunLaws.{lines_put}
use Rattle.sheet.proofs.writing.put_lines.Given as goal

abbrev pub invariant-loop-i : goal.invariant-loop-i
invariant-loop-i l = (length l.bytes ≡ length l.initial.bytes) × (lines_put l.bytes l.table l.i ≡ lines_put l.initial.bytes l.table 0)
