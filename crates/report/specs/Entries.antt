-- What the public function replies, and what it leaves in lent memory, for every input.
--
--   Reported limits t room out r room' out'   the promise: the report stands from the first byte on, and the reply is its length; the bytes
--                      behind it stay; the room is zero, or as it was where the input is refused
use Rattle.std.specs.Prelude.{ℕ, ◌≤◌, ◌≡◌, List, ◌++◌, length, drop}
use Rattle.rules.specs.declared.Limits.{Limits}
use Rattle.rules.specs.Entry.{cleared}
use Rattle.report.specs.Report.{fault_of_report, report_of}

pub record Reported (limits : Limits) (t room out : List ℕ) (r : ℕ) (room' out' : List ℕ) : Type 0 where
  pub replies : r ≡ length (report_of limits t)
  pub written : out' ≡ report_of limits t ++ drop (length (report_of limits t)) out
  pub fits : r ≤ length out'
  pub zeroed : room' ≡ cleared (fault_of_report limits t) room
