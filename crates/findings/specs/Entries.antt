-- What the findings reply, and what they leave in the lent room, for every input.
--
--   fault_of_findings  1; 2 to 6; 8 (room)
--   findings_reply     customer ring or not, joined or not; or the refusal
--   final_room         the lent room
use Rattle.rules.specs.Replies.{Verdict}
use Rattle.std.specs.Prelude.{ℕ, List, length, Err, Ok, Result}
use Rattle.rules.specs.declared.Limits.{Limits}
use Rattle.rules.specs.Network.{links_of, ases_of}
use Rattle.rules.specs.Checks.{needed_room}
use Rattle.rules.specs.Entry.{and_then, fault_of_links, fault_of_room, cleared}
use Rattle.rules.specs.Findings.{ringed, joined}
use Rattle.rules.specs.declared.Refusal.{Refusal}
use Rattle.findings.specs.declared.Found.{Found}

unfoldable pub fault_of_findings : Limits → List ℕ → ℕ → Verdict
fault_of_findings limits ws room =
    let ls = links_of ws in
    and_then (fault_of_links limits ws) (fault_of_room (needed_room (length ls) (length (ases_of ls))) room)

-- `ringed` and `joined` are the tests of `Ring` and `Joined`
abbrev pub reply_findings : List ℕ → Verdict → Result Found Refusal
reply_findings ws (Ok tt) = Ok (record { ring = (ringed (links_of ws)); joined = (joined (links_of ws)) })
reply_findings ws (Err r) = Err r

unfoldable pub findings_reply : Limits → List ℕ → ℕ → Result Found Refusal
findings_reply limits ws room = reply_findings ws (fault_of_findings limits ws room)

unfoldable pub final_room : Limits → List ℕ → List ℕ → List ℕ
final_room limits ws room = cleared (fault_of_findings limits ws (length room)) room
