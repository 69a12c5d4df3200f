-- Storing the text from link i on gives what storing the whole text gives.
use Rattle.std.proofs.Common.{◌≡◌, ◌+◌, length}
use Rattle.linktext.specs.Texts.{text_of}
use Rattle.network.specs.Prefix.{links_from}
use Rattle.rules.specs.Network.{links_of}
use lib.Seq.{sets}
use Rattle.linktext.proofs.writing.put_text.Given as goal

abbrev pub invariant-loop-i : goal.invariant-loop-i
invariant-loop-i l = (l.at + length (text_of (links_from l.words l.i)) ≡ length (text_of (links_of l.words)))
    × (sets l.bytes l.at (text_of (links_from l.words l.i)) ≡ sets l.initial.bytes 0 (text_of (links_of l.words)))
