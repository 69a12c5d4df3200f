-- The directions from k on are indexed (`IndexLaid`), one more in front each turn.
use Rattle.machine.specs.Index.{IndexLaid}
use Rattle.machine.proofs.index.lay_index.Given as goal

abbrev pub invariant-loop-k : goal.invariant-loop-k
invariant-loop-k l = IndexLaid l.links l.n l.k l.initial.room l.room
