-- The loop carries what is left to tell; with the last link nothing is left.
use Rattle.std.proofs.Common.{◌≡◌, length}
use Rattle.network.specs.Prefix.{links_from}
use Rattle.rules.specs.Network.{links_of}
use Rattle.findings.proofs.TellLaws.{Going}
use Rattle.findings.proofs.survey.Survey.tell.Given as goal

abbrev pub invariant-loop-i : goal.invariant-loop-i
invariant-loop-i l = record {
  size : length l.to ≡ length l.initial.to;
  going : Going l.self.network.words.now l.relation l.way l.from (links_from l.self.network.words.now l.i) (links_of l.self.network.words.now) l.initial.to l.to;
}
