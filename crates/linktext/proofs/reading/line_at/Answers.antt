-- A link that is read has its line there, and that line gives it.
use Rattle.linktext.proofs.QuickLaws.{Written-Gives}
use Rattle.linktext.proofs.reading.line_at.Goals as goal

pub returns-in-Some : goal.returns-in-Some
returns-in-Some c = Written-Gives c.in-Some.ensures
