-- What the steps of the exported functions ask and say. Each works on link words in a room of 16,384 words, which always suffices, and replies
-- a value or the refusal, which is packed at last.
--
--   Placed why         a refusal's place fits its 28 bits
--   packed_reply r     a reply as one number; valued v n   the value n where the verdict passes, or the refusal
--   told_sheet, told_judging, told_findings, told_run   what is replied to a text, before it is packed
--   Given t ws         the words ws are those of the links of the text t
--   ReadList t end ws  the words of the links of the text t stand first in ws, up to the end
--   room_words         the room
--   Stably ws d old r table   the reply r of the stable table, and the table that was `old`
--   Tabulated ws d old r table   the same, with the number of the table's words
--   fault_of_lines ws d room, told_lines, final_lines  a sheet from link words: 1; 2 to 6; 7; 8
use Rattle.std.specs.Prelude.{ℕ, ◌+◌, ◌*◌, ◌≤◌, ◌<◌, ◌≡◌, List, length, take, Err, Ok, Result}
use Rattle.rules.specs.Replies.{Verdict}
use Rattle.rules.specs.declared.Refusal.{Refusal}
use Rattle.rules.specs.Refusals.{refusal_place}
use Rattle.rules.specs.Network.{links_of, ases_of, arcs_of}
use Rattle.rules.specs.Checks.{base_limits}
use Rattle.rules.specs.Entry.{and_then, fault_of_links, fault_of_destination, fault_of_output, filled}
use Rattle.rules.specs.Solve.{stable_of}
use Rattle.rules.specs.Judge.{entries_for}
use Rattle.rules.specs.Findings.{ringed, joined}
use Rattle.rules.specs.Machine.{run_of}
use Rattle.linktext.specs.TextNetworks.{links_of_text, fault_of_network}
use Rattle.table.specs.Entries.{fault_of_table, TableAfter}
use Rattle.sheet.specs.Form.{sheet_of}
use Rattle.storefront.specs.Page.{packed_no, findings_value, run_value, fault_of_sheet, fault_of_judging, fault_of_run, fault_of_page}

abbrev pub Placed : Refusal → Type 0
Placed why = refusal_place why < 268435456

abbrev pub packed_reply : Result ℕ Refusal → ℕ
packed_reply (Ok n) = n
packed_reply (Err why) = packed_no why

abbrev pub valued : Verdict → ℕ → Result ℕ Refusal
valued (Ok tt) n = Ok n
valued (Err why) n = Err why

-- what is replied to a text
abbrev pub told_sheet : List ℕ → ℕ → ℕ → Result ℕ Refusal
told_sheet t d room = valued (fault_of_sheet base_limits t d room) (10 + 11 * length (ases_of (links_of_text base_limits t)))

abbrev pub told_judging : List ℕ → List ℕ → Result ℕ Refusal
told_judging t s = valued (fault_of_judging base_limits 511 t s) 0

abbrev pub told_findings : List ℕ → Result ℕ Refusal
told_findings t =
    let ls = links_of_text base_limits t in
    valued (fault_of_network base_limits t) (findings_value (ringed ls) (joined ls))

abbrev pub told_run : List ℕ → ℕ → List ℕ → ℕ → ℕ → Result ℕ Refusal
told_run t d cs n table =
    let ls = links_of_text base_limits t in
    valued (fault_of_run base_limits t d cs n table) (run_value ls (run_of (arcs_of ls) d cs n))

pub record Given (t ws : List ℕ) : Type 0 where
  pub links : links_of ws ≡ links_of_text base_limits t
  pub fault : fault_of_links base_limits ws ≡ fault_of_network base_limits t

pub record ReadList (t : List ℕ) (end : ℕ) (ws : List ℕ) : Type 0 where
  pub within : end ≤ length ws
  pub given : Given t (take end ws)

-- 'working room of 16,384 words always suffices'
abbrev pub room_words : ℕ
room_words = 16384

pub record Stably (ws : List ℕ) (d : ℕ) (old : List ℕ) (r : Verdict) (table : List ℕ) : Type 0 where
  pub replies : r ≡ fault_of_table base_limits ws d (length old) room_words
  pub tabled : TableAfter (fault_of_table base_limits ws d (length old) room_words) (links_of ws) d old table

pub record Tabulated (ws : List ℕ) (d : ℕ) (old : List ℕ) (r : Result ℕ Refusal) (table : List ℕ) : Type 0 where
  pub replies : r ≡ valued (fault_of_page base_limits ws d (length old)) (4 * length (ases_of (links_of ws)))
  pub tabled : TableAfter (fault_of_page base_limits ws d (length old)) (links_of ws) d old table

unfoldable pub fault_of_lines : List ℕ → ℕ → ℕ → Verdict
fault_of_lines ws d room =
    let us = ases_of (links_of ws) in
    and_then (fault_of_links base_limits ws) (and_then (fault_of_destination d us) (fault_of_output (10 + 11 * length us) room))

abbrev pub told_lines : List ℕ → ℕ → ℕ → Result ℕ Refusal
told_lines ws d room = valued (fault_of_lines ws d room) (10 + 11 * length (ases_of (links_of ws)))

abbrev pub final_lines : List ℕ → ℕ → List ℕ → List ℕ
final_lines ws d bytes =
    filled (fault_of_lines ws d (length bytes)) (sheet_of d (entries_for (stable_of (arcs_of (links_of ws)) d) (ases_of (links_of ws)))) bytes
