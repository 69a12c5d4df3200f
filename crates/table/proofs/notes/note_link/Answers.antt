-- `table::notes::note_link` is safe: an accepted network has few links.
use Rattle.std.proofs.Common.{arith}
use Rattle.table.proofs.LookLaws.{few_links}
use Rattle.table.proofs.notes.note_link.Goals as goal

pub note-requires : goal.note-requires
note-requires c = omega (arith, few_links c.args.network.words.now c.args.network.ases c.args.network.accepted)
