-- What the stable table's entry replies, and what it leaves in lent memory, for every input.
--
--   fault_of_table     1; 2 to 6; 7; 8 (table, room)
--   StableTable ls d ws   ws are the words of the stable table of the links ls to d
--   TableAfter, final_room  the lent table and the lent room afterwards
use Rattle.rules.specs.Replies.{Verdict}
use Rattle.std.specs.Prelude.{ℕ, ◌*◌, ◌≡◌, List, ◌++◌, length, drop, Err, Ok}
use Rattle.rules.specs.declared.Link.{Link}
use Rattle.rules.specs.declared.Limits.{Limits}
use Rattle.rules.specs.Network.{links_of, ases_of, arcs_of}
use Rattle.rules.specs.Checks.{needed_room}
use Rattle.rules.specs.Entry.{and_then, fault_of_links, fault_of_destination, fault_of_output, fault_of_room, cleared}
use Rattle.rules.specs.Stable.{Routing, Stable, table_of}

unfoldable pub fault_of_table : Limits → List ℕ → ℕ → ℕ → ℕ → Verdict
fault_of_table limits ws d table room =
    let ls = links_of ws in
    let n = length (ases_of ls) in
    and_then (fault_of_links limits ws)
    (and_then (fault_of_destination d (ases_of ls)) (and_then (fault_of_output (4 * n) table) (fault_of_room (needed_room (length ls) n) room)))

-- the table of a stable routing, of which there is exactly one
pub record StableTable (ls : List Link) (d : ℕ) (ws : List ℕ) : Type 0 where
  pub routing : Routing
  pub stable : Stable (arcs_of ls) d routing
  pub words : ws ≡ table_of routing (ases_of ls)

-- 'the table's first 4n words are the stable table; words beyond stay as they were'
pub record Filled (ls : List Link) (d : ℕ) (old new : List ℕ) : Type 0 where
  pub table : List ℕ
  pub stable : StableTable ls d table
  pub words : new ≡ table ++ drop (length table) old

abbrev pub TableAfter : Verdict → List Link → ℕ → List ℕ → List ℕ → Type 0
TableAfter (Ok tt) ls d old new = Filled ls d old new
TableAfter (Err r) ls d old new = new ≡ old

-- the whole promise: reply, table and room
pub record Tabled (limits : Limits) (ws : List ℕ) (d : ℕ) (table room : List ℕ) (r : Verdict) (table' room' : List ℕ) : Type 0 where
  pub replies : r ≡ fault_of_table limits ws d (length table) (length room)
  pub tabled : TableAfter (fault_of_table limits ws d (length table) (length room)) (links_of ws) d table table'
  pub zeroed : room' ≡ cleared (fault_of_table limits ws d (length table) (length room)) room
