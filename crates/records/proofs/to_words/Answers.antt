use Rattle.std.proofs.Common.{add-one}
use Rattle.records.proofs.Parts.{part-suc}
use Rattle.records.proofs.to_words.Goals as goal

pub loop-i-preserved : goal.loop-i-preserved
loop-i-preserved c = rw (c.put_link.ensures, c.loop-i.invariant, add-one c.loop-i.i) (part-suc _ _ c.requires c.loop-i.i c.loop-i-test.true)
