-- x is behind the others now, or its slot says that it was among them.
use Rattle.std.proofs.Common.{sym, ◌∙◌, arith}
use Rattle.network.proofs.GatherLaws.{found, met_new, met_there, met_room}
use Rattle.network.proofs.gather.meet.Goals as goal
use Rattle.network.proofs.gather.meet.Goals.{then-held-eq0, else-held-eq0}

pub returns : goal.returns
returns c = rw c.then_some.ensures
    (met_room c.requires _ c.args.x _
    (λ few. elim c.if-held-eq0.branch [
      | then-held-eq0 w ↦ rw w.known-is (met_new c.requires _ c.args.x (omega (arith, w.known-is, few)))
      | else-held-eq0 w ↦
          let is = found c.args.met.now 2112 c.args.x c.slot_of-h.result c.in_ok-s.field-0 c.requires.met_long (omega (arith, c.slot_of-h.ensures)) (sym c.find_as.ensures ∙ c.in_ok-s.was) w.if-held-eq0.false in
          rw w.known-is (met_there c.requires _ c.args.x w.if-held-eq0.false is)
    ]))
