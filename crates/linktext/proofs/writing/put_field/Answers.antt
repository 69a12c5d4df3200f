-- `put_field` stores a bar after the number.
use Rattle.std.proofs.Common.{refl}
use Rattle.linktext.proofs.StoreLaws.{Stored-then}
use Rattle.linktext.proofs.writing.put_field.Goals as goal

pub returns : goal.returns
returns c = Stored-then c.put_number-end.ensures (record { bytes = refl; after = refl })
