-- What the three entries reply, and what they leave in lent memory, for every input.
--
--   fault_of_table bound us ws  11 of table words ws for the ASes us
--   fault_of_writing, write_reply, final_bytes  writing: 1; 2 to 6; 7; 11; 8
--   fault_of_reading, read_reply, final_table  reading: 1; 10; 8
--   judge_reply                          judging: 1; 2 to 6; 8 (room); 10; 7; 11; 12
use Rattle.rules.specs.Replies.{Verdict}
use Rattle.rules.specs.declared.Refusal.{Refusal}
use Rattle.std.specs.Prelude.{ℕ, ◌+◌, ◌*◌, List, leb, eqb, length, Err, Ok, Result}
use Rattle.rules.specs.declared.Limits.{Limits}
use Rattle.rules.specs.declared.Refusal.TheVariants.{OverLimit, CannotStand}
use Rattle.rules.specs.Network.{links_of, ases_of}
use Rattle.rules.specs.Checks.{needed_room}
use Rattle.rules.specs.Entry.{and_then, unless, fault_of_links, fault_of_destination, fault_of_output, fault_of_room, filled}
use Rattle.rules.specs.Judge.{entries_of, words_of, standing, judge}
use Rattle.sheet.specs.declared.SheetRead.{SheetRead}
use Rattle.sheet.specs.Form.{sheet_of, fault_of_form, destination_of, count_of_lines, lines_of}

-- 'a table that isn't four words per AS gets 11 for that at the smaller of its whole entries and the number of ASes'
unfoldable pub fault_of_table : ℕ → List ℕ → List ℕ → Verdict
fault_of_table bound us ws =
    and_then (standing bound us (entries_of ws)) (unless (eqb (length ws) (4 * length us)) (CannotStand (length us)))

-- writing
unfoldable pub fault_of_writing : Limits → ℕ → List ℕ → ℕ → List ℕ → ℕ → Verdict
fault_of_writing limits bound ws d table room =
    let us = ases_of (links_of ws) in
    and_then (fault_of_links limits ws)
    (and_then (fault_of_destination d us) (and_then (fault_of_table bound us table) (fault_of_output (10 + 11 * length us) room)))

abbrev pub reply_with : Verdict → ℕ → Result ℕ Refusal
reply_with (Ok tt) n = Ok n
reply_with (Err r) n = Err r

unfoldable pub write_reply : Limits → ℕ → List ℕ → ℕ → List ℕ → ℕ → Result ℕ Refusal
write_reply limits bound ws d table room =
    reply_with (fault_of_writing limits bound ws d table room) (10 + 11 * length (ases_of (links_of ws)))

unfoldable pub final_bytes : Limits → ℕ → List ℕ → ℕ → List ℕ → List ℕ → List ℕ
final_bytes limits bound ws d table bytes =
    filled (fault_of_writing limits bound ws d table (length bytes)) (sheet_of d (entries_of table)) bytes

-- reading
unfoldable pub fault_of_reading : Limits → List ℕ → ℕ → Verdict
fault_of_reading limits s room =
    and_then (unless (leb (length s) limits.sheet) OverLimit) (and_then (fault_of_form s) (fault_of_output (4 * count_of_lines s) room))

abbrev pub reply_read : List ℕ → Verdict → Result SheetRead Refusal
reply_read s (Ok tt) = Ok (record { destination = (destination_of s); lines = (count_of_lines s) })
reply_read s (Err r) = Err r

unfoldable pub read_reply : Limits → List ℕ → ℕ → Result SheetRead Refusal
read_reply limits s room = reply_read s (fault_of_reading limits s room)

unfoldable pub final_table : Limits → List ℕ → List ℕ → List ℕ
final_table limits s table = filled (fault_of_reading limits s (length table)) (words_of (lines_of s)) table

-- judging
unfoldable pub judge_reply : Limits → ℕ → List ℕ → List ℕ → ℕ → Verdict
judge_reply limits bound ws s room =
    let ls = links_of ws in
    and_then (unless (leb (length s) limits.sheet) OverLimit)
    (and_then (fault_of_links limits ws)
    (and_then (fault_of_room (needed_room (length ls) (length (ases_of ls))) room)
    (and_then (fault_of_form s)
    (and_then (fault_of_destination (destination_of s) (ases_of ls))
    (judge ls (destination_of s) bound (lines_of s))))))
