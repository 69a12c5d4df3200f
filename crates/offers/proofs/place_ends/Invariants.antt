-- After i links the first 2i words are the places of their ends, and the rest is as it was (`ends_more`).
use Rattle.offers.proofs.EndLaws.{EndsAt}
use Rattle.rules.specs.Network.{links_of}
use Rattle.offers.proofs.place_ends.Given as goal

abbrev pub invariant-loop-i : goal.invariant-loop-i
invariant-loop-i l = EndsAt (links_of l.fn.words) l.i l.initial.places l.places
