-- Four digits more.
use Rattle.linktext.proofs.QuickLaws.{Begun-eight}
use Rattle.linktext.proofs.quick.rest_from.Goals as goal

pub digits_from-requires : goal.digits_from-requires
digits_from-requires c = Begun-eight c.requires c.in-Some.ensures
