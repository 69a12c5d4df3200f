-- Each slot's link is one of the words' links.
use Rattle.std.proofs.Common.{rules, ◌*◌, ◌≤◌, length}
use Rattle.std.proofs.lemmas.Iterator.{YieldsList-from_slice}
use Rattle.std.proofs.lemmas.Iterator.Adapters.{serves_from_places}
use Rattle.network.proofs.PairTableLaws.{place_at}
use Rattle.network.proofs.slots.find_pair.Goals as goal

pub position-requires-clause-callable : goal.position-requires-clause-callable
position-requires-clause-callable c =
    serves_from_places (YieldsList-from_slice c.args.pairs.now cc) (λ x q r. search rules)
    (λ x k h e. let p : 3 * x.now ≤ length c.args.words.now = place_at c.requires h e in search rules)
