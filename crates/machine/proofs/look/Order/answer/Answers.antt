-- An order that fits is answered by its run (`answered`).
use Rattle.std.proofs.Common.{sym, rules}
use Rattle.machine.proofs.AnswerLaws.{answered, all_pass}
use Rattle.machine.proofs.look.Order.answer.Goals as goal

pub returns : goal.returns
returns c = all_pass (sym c.in_ok-fits.ensures) (answered c.drive-ran.ensures (search rules) (search rules))
