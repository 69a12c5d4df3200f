-- `is_same_line`: the three tests are those of the definition.
use Rattle.rules.specs.Judge.{is_same_line}
use Rattle.rules.specs.Pairs.{same_as}
use Rattle.judge.proofs.best.is_same_line.Goals as goal

pub returns : goal.returns
unfolding is_same_line same_as
returns c = c.eq.ensures
