-- What the judge replies and leaves in the lent room, for every input: the whole promise in one record.
use Rattle.rules.specs.Replies.{Verdict}
use Rattle.std.specs.Prelude.{ℕ, ◌≡◌, List, length}
use Rattle.rules.specs.declared.Limits.{Limits}
use Rattle.rules.specs.Entry.{cleared}
use Rattle.sheet.specs.Entries.{judge_reply}

pub record Judged (limits : Limits) (bound : ℕ) (ws s room : List ℕ) (r : Verdict) (room' : List ℕ) : Type 0 where
  pub replies : r ≡ judge_reply limits bound ws s (length room)
  pub zeroed : room' ≡ cleared (judge_reply limits bound ws s (length room)) room
