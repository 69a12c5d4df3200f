use Rattle.std.proofs.Common.{◌∙◌, sym, ◌≤◌, arith}
use Rattle.linktext.proofs.WriteLaws.{fault_later, fault_none}
use Rattle.rules.specs.Network.{link_in_words}
use Rattle.linktext.proofs.writing.relation_fault.Goals as goal

pub loop-i-preserved : goal.loop-i-preserved
loop-i-preserved c =
    let l = c.loop-i in
    let ws = c.args.words.now in
    let small : (link_in_words ws l.i).relation ≤ 1 = rw c.link_at.ensures at c.if-link_at-gt1.false in
    sym (fault_later ws l.i (omega arith) small) ∙ l.invariant

pub returns : goal.returns
returns c = sym (fault_none c.args.words.now c.loop-i.i (omega arith)) ∙ c.loop-i.invariant
