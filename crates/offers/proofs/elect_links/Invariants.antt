-- After i links each entry is the best offer over their directions, and the rest is as it was (`heard_next`).
use Rattle.std.proofs.Common.{◌*◌}
use Rattle.offers.proofs.PassLaws.{HeardAt}
use Rattle.rules.specs.Network.{links_of}
use Rattle.offers.proofs.elect_links.Given as goal

abbrev pub invariant-loop-i : goal.invariant-loop-i
invariant-loop-i l = HeardAt (links_of l.fn.words) l.fn.told (2 * l.i) l.fn.best l.best
