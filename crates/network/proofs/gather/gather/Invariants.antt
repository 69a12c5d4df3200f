-- After i links the first n words have the ASes of these as members, and so do the slots.
use Rattle.network.specs.Gathering.{Gathering, Holding}
use Rattle.network.specs.Prefix.{ases_at}
use Rattle.network.proofs.gather.gather.Given as goal

abbrev pub invariant-loop-i : goal.invariant-loop-i
invariant-loop-i l = Gathering l.seen l.met l.n × Holding (ases_at l.words l.i) l.seen l.met l.n
