-- `lines` puts line after line: the first i lines stand, and i lines take at most 44 bytes each.
use Rattle.report.specs.Printing.{entries_text}
use Rattle.report.specs.Pages.{Puts}
use Rattle.report.proofs.printing.Page.lines.Given as goal

abbrev pub invariant-loop-i : goal.invariant-loop-i
invariant-loop-i l = Puts l.initial.self (entries_text l.table 0 l.i) l.self
