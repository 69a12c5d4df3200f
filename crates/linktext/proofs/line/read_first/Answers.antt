use Rattle.std.proofs.Common.{arith, ◌≡◌, ◌+◌, length, rules}
use Rattle.linktext.specs.Lines.{before_bar}
use Rattle.linktext.proofs.line.read_first.Goals as goal

pub returns : goal.returns
returns c =
    let at : c.field_end-end.result + 1 + 1 ≡ length (before_bar c.args.line.now) + 2 = omega (arith, c.field_end-end.ensures.long) in
    search rules
