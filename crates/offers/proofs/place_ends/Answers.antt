use Rattle.std.proofs.Common.{sym, arith}
use Rattle.network.proofs.PrefixLaws.{count}
use Rattle.offers.proofs.EndLaws.{ends_more, ends_all}
use Rattle.offers.proofs.WayLaws.{links_at}
use Rattle.offers.proofs.place_ends.Goals as goal

pub loop-i-preserved : goal.loop-i-preserved
loop-i-preserved c =
    let few = count c.args.words.now in
    let is = sym (links_at c.args.words.now c.loop-i.i (omega arith)) in
    let more = ends_more c.loop-i.invariant c.requires.room (omega arith) _ is in
    rw (c.place_link.ensures, c.requires.list) more

pub returns : goal.returns
returns c =
    let few = count c.args.words.now in
    ends_all c.loop-i.invariant c.requires.room (omega arith)
