-- What a search in an ascending list finds is the only place where x can stand.
use Rattle.network.proofs.PlaceLaws.{stands}
use Rattle.network.proofs.place_of.Goals as goal

pub returns : goal.returns
returns c = rw c.ok.ensures.value (stands c.args.list.now c.args.n c.args.x c.requires.0 c.requires.1 _ c.binary_search.ensures.position)
