-- What the definition says from link i on is what it says of all.
use Rattle.std.proofs.Common.{◌≡◌}
use Rattle.linktext.specs.Texts.{fault_of_relations}
use Rattle.network.specs.Prefix.{links_from}
use Rattle.rules.specs.Network.{links_of}
use Rattle.linktext.proofs.writing.relation_fault.Given as goal

abbrev pub invariant-loop-i : goal.invariant-loop-i
invariant-loop-i l = fault_of_relations l.i (links_from l.words l.i) ≡ fault_of_relations 0 (links_of l.words)
