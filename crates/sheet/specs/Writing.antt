-- Writing for the ASes of a network whose links are accepted.
--
--   OneField us        the lines of the ASes us fit one field of a sheet
--   fault_of_sheet bound us d table room  7; 11; 8 of a sheet to be written for the ASes us
--   Wrote bound us d table old bytes r   the bytes and the reply afterwards
use Rattle.rules.specs.Replies.{Verdict}
use Rattle.rules.specs.declared.Refusal.{Refusal}
use Rattle.std.specs.Prelude.{ℕ, ◌+◌, ◌*◌, ◌<◌, ◌≡◌, List, length, Result}
use Rattle.rules.specs.Entry.{and_then, fault_of_destination, fault_of_output, filled}
use Rattle.rules.specs.Judge.{entries_of}
use Rattle.sheet.specs.Form.{sheet_of}
use Rattle.sheet.specs.Entries.{fault_of_table, reply_with}

-- the two length bytes hold 11 for each line
abbrev pub OneField : List ℕ → Type 0
OneField us = 11 * length us < 65536

unfoldable pub fault_of_sheet : ℕ → List ℕ → ℕ → List ℕ → ℕ → Verdict
fault_of_sheet bound us d table room =
    and_then (fault_of_destination d us) (and_then (fault_of_table bound us table) (fault_of_output (10 + 11 * length us) room))

pub record Wrote (bound : ℕ) (us : List ℕ) (d : ℕ) (table old bytes : List ℕ) (r : Result ℕ Refusal) : Type 0 where
  pub reply : r ≡ reply_with (fault_of_sheet bound us d table (length old)) (10 + 11 * length us)
  pub sheet : bytes ≡ filled (fault_of_sheet bound us d table (length old)) (sheet_of d (entries_of table)) old
