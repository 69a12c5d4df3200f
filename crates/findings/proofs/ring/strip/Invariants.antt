-- No AS on a ring goes, and a pass that takes one away leaves fewer.
use Rattle.std.proofs.Common.{◌≡◌, length}
use Rattle.findings.specs.Peelings.{ones_in, RingsLeft}
use Rattle.findings.proofs.ring.strip.Given as goal

abbrev pub invariant-loop : goal.invariant-loop
invariant-loop l = record {
  left_size : length l.left ≡ length l.initial.left;
  met_size : length l.met ≡ length l.initial.met;
  rings : RingsLeft l.survey.network.words.now l.initial.left → RingsLeft l.survey.network.words.now l.left;
}

abbrev pub decreases-loop : goal.decreases-loop
decreases-loop l = ones_in l.left (length l.left)
