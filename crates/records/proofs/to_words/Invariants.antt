-- After i links the words are those links' words, and the rest as they were.
use Rattle.std.proofs.Common.{◌≡◌}
use Rattle.records.proofs.Parts.{part}
use Rattle.records.proofs.to_words.Given as goal

abbrev pub invariant-loop-i : goal.invariant-loop-i
invariant-loop-i l = l.words ≡ part l.links l.initial.words l.i
