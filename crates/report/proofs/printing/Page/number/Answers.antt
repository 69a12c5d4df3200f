-- `number` stores a byte behind the number, which has at most ten digits.
use Rattle.std.proofs.Common.{refl, arith}
use Rattle.linktext.proofs.StoreLaws.{Stored-then, Stored-length}
use Rattle.linktext.proofs.TextLaws.{digits_bound}
use Rattle.report.proofs.printing.Page.number.Goals as goal

pub put_number-last-requires : goal.put_number-last-requires
put_number-last-requires c = omega (arith, digits_bound 10 c.args.n)

pub bounds-self-last : goal.bounds-self-last
bounds-self-last c = omega (arith, Stored-length c.put_number-last.ensures, digits_bound 10 c.args.n)

pub overflow_add-self : goal.overflow_add-self
overflow_add-self c = omega (arith, Stored-length c.put_number-last.ensures, digits_bound 10 c.args.n)

pub returns : goal.returns
returns c = record { stored = Stored-then c.put_number-last.ensures (record { bytes = refl; after = refl }); loan = refl }
