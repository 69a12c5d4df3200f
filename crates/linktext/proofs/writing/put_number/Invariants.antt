-- `place` goes down from the number's end, and the digits of what is left are to be stored before it: that gives what storing all digits gives.
use Rattle.std.proofs.Common.{◌≡◌, ◌-◌, ◌≤◌}
use Rattle.linktext.specs.Texts.{decimal}
use Rattle.linktext.proofs.DigitLaws.{last_digits}
use lib.Seq.{sets}
use Rattle.linktext.proofs.writing.put_number.Given as goal

abbrev pub invariant-loop-place : goal.invariant-loop-place
invariant-loop-place l = (l.at ≤ l.place) × (sets l.bytes l.at (last_digits (l.place - l.at) l.left) ≡ sets l.initial.bytes l.at (decimal l.n))
