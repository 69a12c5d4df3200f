-- Of too many links the words are zeros.
use Rattle.std.proofs.Common.{length}
use borrow.Author.Tests.{lt-leb}
use Rattle.records.proofs.load.Goals as goal

pub returns-else-loaded-le-MOST_LINKS : goal.returns-else-loaded-le-MOST_LINKS
returns-else-loaded-le-MOST_LINKS c = rw (lt-leb (length c.args.links.now) 1536 c.if-loaded-le-MOST_LINKS.false)
