-- Every AS before the place reached meets all tops.
use Rattle.std.proofs.Common.{ℕ, ◌<◌, ◌≡◌, true, length}
use Rattle.findings.specs.Joinings.{meets_at}
use Rattle.findings.proofs.tops.Tops.all_meet.Given as goal

abbrev pub invariant-loop-p : goal.invariant-loop-p
invariant-loop-p l = record {
  chosen_size : length l.chosen ≡ length l.initial.chosen;
  met_size : length l.met ≡ length l.initial.met;
  met : (k : ℕ) → k < l.p → meets_at l.self.survey.network.words.now k ≡ true;
}
