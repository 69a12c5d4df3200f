-- The line is put, and a pair that differs is sent (`pairs_same`).
use Rattle.std.proofs.Common.{rules}
use Rattle.machine.proofs.StateLaws.{pairs_same}
use Rattle.machine.proofs.state.Machine.take_line.Goals as goal

pub returns-then-ne-clause-takes : goal.returns-then-ne-clause-takes
returns-then-ne-clause-takes c = record { line = search rules; told = rw (pairs_same c.args.old c.args.best.pair c.if-ne.ensures) (search rules) }

pub returns-else-ne-clause-takes : goal.returns-else-ne-clause-takes
returns-else-ne-clause-takes c = record { line = search rules; told = rw (pairs_same c.args.old c.args.best.pair c.if-ne.ensures) (search rules) }
