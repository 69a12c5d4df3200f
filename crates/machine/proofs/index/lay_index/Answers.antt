use Rattle.std.proofs.Common.{arith}
use Rattle.machine.proofs.IndexLaws.{may_begin, index_more}
use Rattle.machine.proofs.index.lay_index.Goals as goal

pub loop-k-preserved : goal.loop-k-preserved
loop-k-preserved c = rw c.index_direction.ensures (index_more (may_begin c.requires c.lay_heads.ensures) c.loop-k.invariant (omega arith) (omega arith))
