-- A field ends where the search for a bar stops.
use Rattle.linktext.proofs.PlaceLaws.{cut}
use Rattle.linktext.proofs.line.field_end.Goals as goal

pub returns : goal.returns
returns c = cut c.args.line.now c.args.from c.find.result c.requires c.find.ensures
