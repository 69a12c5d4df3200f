-- Each place leaves the others as they were.
use Rattle.std.proofs.Common.{◌≡◌, length}
use Rattle.findings.specs.Ranks.{Spared}
use Rattle.findings.proofs.ranks.spare.Given as goal

abbrev pub invariant-loop-p : goal.invariant-loop-p
invariant-loop-p l = record { size : length l.left ≡ length l.initial.left; spared : Spared l.ranks l.initial.left l.left }
