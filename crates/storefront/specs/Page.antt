-- The boundary to Rust: what the six exported functions reply, packed into 64 bits, and what they leave in lent memory. Four take a link
-- text, two link records, of which they say what is said of the records' words.
--
--   packed c           a reply as one number: top byte the refusal number, 0 for accepted; then the value, or the place from bit 28 on
--   fault_of_sheet, sheet_reply, final_sheet  text to sheet: 1; lines; 2 to 6; 7; 8
--   judge_reply        the judge: 1 of both byte strings; lines; as the judge in a room that suffices
--   findings_reply     1 if a ring, plus 2 if joined
--   fault_of_run, run_reply, final_table  a run: 1 of text, choices and deliveries; lines; as the machine in a room that suffices
--   check_reply        the number of ASes: 1; 2 to 6
--   fault_of_page, PageTabled  the stable table in a room that suffices, the number of its words: 1; 2 to 6; 7; 8
use Rattle.rules.specs.Replies.{Verdict}
use Rattle.std.specs.Prelude.{ℕ, ◌+◌, ◌*◌, ◌≡◌, Bool, true, false, ◌&&◌, List, leb, length, Err, Ok}
use Rattle.rules.specs.declared.Limits.{Limits}
use Rattle.rules.specs.declared.Link.{Link}
use Rattle.rules.specs.declared.Refusal.{Refusal}
use Rattle.rules.specs.declared.Refusal.TheVariants.{OverLimit}
use Rattle.rules.specs.Refusals.{refusal_number, refusal_place}
use Rattle.rules.specs.Network.{links_of, ases_of, arcs_of}
use Rattle.rules.specs.Entry.{and_then, unless, fault_of_links, fault_of_destination, fault_of_output, filled}
use Rattle.rules.specs.Stable.{table_of}
use Rattle.rules.specs.Solve.{stable_of}
use Rattle.rules.specs.Judge.{entries_for, judge}
use Rattle.rules.specs.Findings.{ringed, joined}
use Rattle.rules.specs.Machine.{Run, run_of, lowest, is_quiet}
use Rattle.linktext.specs.TextNetworks.{links_of_text, fault_of_network}
use Rattle.table.specs.Entries.{TableAfter}
use Rattle.sheet.specs.Form.{sheet_of, fault_of_form, destination_of, lines_of}
use Rattle.machine.specs.Entries.{fault_of_choices}

-- 'The reply's top byte is the refusal number, 0 for accepted'
abbrev pub packed_no : Refusal → ℕ
packed_no r = 72057594037927936 * refusal_number r + 268435456 * refusal_place r

abbrev pub packed : Verdict → ℕ → ℕ
packed (Ok tt) value = value
packed (Err r) value = packed_no r

-- text to sheet
unfoldable pub fault_of_sheet : Limits → List ℕ → ℕ → ℕ → Verdict
fault_of_sheet limits t d room =
    let us = ases_of (links_of_text limits t) in
    and_then (fault_of_network limits t) (and_then (fault_of_destination d us) (fault_of_output (10 + 11 * length us) room))

unfoldable pub sheet_reply : Limits → List ℕ → ℕ → ℕ → ℕ
sheet_reply limits t d room = packed (fault_of_sheet limits t d room) (10 + 11 * length (ases_of (links_of_text limits t)))

unfoldable pub final_sheet : Limits → List ℕ → ℕ → List ℕ → List ℕ
final_sheet limits t d bytes =
    let ls = links_of_text limits t in
    filled (fault_of_sheet limits t d (length bytes)) (sheet_of d (entries_for (stable_of (arcs_of ls) d) (ases_of ls))) bytes

-- the judge
unfoldable pub fault_of_judging : Limits → ℕ → List ℕ → List ℕ → Verdict
fault_of_judging limits bound t s =
    let ls = links_of_text limits t in
    and_then (unless (leb (length t) limits.text && leb (length s) limits.sheet) OverLimit)
    (and_then (fault_of_network limits t)
    (and_then (fault_of_form s)
    (and_then (fault_of_destination (destination_of s) (ases_of ls)) (judge ls (destination_of s) bound (lines_of s)))))

unfoldable pub judge_reply : Limits → ℕ → List ℕ → List ℕ → ℕ
judge_reply limits bound t s = packed (fault_of_judging limits bound t s) 0

-- findings: '1 if a ring, plus 2 if joined'
abbrev pub findings_value : Bool → Bool → ℕ
findings_value true true = 3
findings_value true false = 1
findings_value false true = 2
findings_value false false = 0

unfoldable pub findings_reply : Limits → List ℕ → ℕ
findings_reply limits t =
    let ls = links_of_text limits t in
    packed (fault_of_network limits t) (findings_value (ringed ls) (joined ls))

-- a run: 'deliveries + idle * 2^20 + quiet * 2^40'
unfoldable pub fault_of_run : Limits → List ℕ → ℕ → List ℕ → ℕ → ℕ → Verdict
fault_of_run limits t d choices further table =
    let ls = links_of_text limits t in
    and_then (unless (leb (length t) limits.text && leb (length choices) 65536 && leb further 65536) OverLimit)
    (and_then (fault_of_network limits t)
    (and_then (fault_of_destination d (ases_of ls))
    (and_then (fault_of_output (4 * length (ases_of ls)) table) (fault_of_choices (2 * length ls) choices))))

abbrev pub quiet_bit : Bool → ℕ
quiet_bit true = 1099511627776
quiet_bit false = 0

abbrev pub run_value : List Link → Run → ℕ
run_value ls r = r.made + 1048576 * r.idle + quiet_bit (is_quiet (lowest (arcs_of ls) r.state.waiting))

unfoldable pub run_reply : Limits → List ℕ → ℕ → List ℕ → ℕ → ℕ → ℕ
run_reply limits t d choices further table =
    let ls = links_of_text limits t in
    packed (fault_of_run limits t d choices further table) (run_value ls (run_of (arcs_of ls) d choices further))

unfoldable pub final_table : Limits → List ℕ → ℕ → List ℕ → ℕ → List ℕ → List ℕ
final_table limits t d choices further table =
    let ls = links_of_text limits t in
    filled (fault_of_run limits t d choices further (length table)) (table_of (run_of (arcs_of ls) d choices further).state.lines (ases_of ls)) table

-- the check of link words
unfoldable pub check_reply : Limits → List ℕ → ℕ
check_reply limits ws = packed (fault_of_links limits ws) (length (ases_of (links_of ws)))

-- the stable table of link words
unfoldable pub fault_of_page : Limits → List ℕ → ℕ → ℕ → Verdict
fault_of_page limits ws d table =
    let us = ases_of (links_of ws) in
    and_then (fault_of_links limits ws) (and_then (fault_of_destination d us) (fault_of_output (4 * length us) table))

pub record PageTabled (limits : Limits) (ws : List ℕ) (d : ℕ) (table : List ℕ) (r : ℕ) (table' : List ℕ) : Type 0 where
  pub replies : r ≡ packed (fault_of_page limits ws d (length table)) (4 * length (ases_of (links_of ws)))
  pub tabled : TableAfter (fault_of_page limits ws d (length table)) (links_of ws) d table table'
