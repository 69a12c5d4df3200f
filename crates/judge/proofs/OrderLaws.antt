-- Refusals in the order of the judge: each step's verdict is the first of its own tests and what the next step says. By the definitions.
use Prim.Native.Nat.{ℕ, ◌≤◌, ◌<◌}
use mathlib.Core.Path.{◌≡◌}
use mathlib.Core.List.{List}
use lib.ListN.{length}
use borrow.Author.Tests.{le-leb, lt-leb}
use Rattle.std.specs.Prelude.{Err, Ok}
use Rattle.rules.specs.Replies.{Verdict}
use Rattle.rules.specs.declared.Link.{Link}
use Rattle.rules.specs.declared.Refusal.TheVariants.{RoomShort}
use Rattle.rules.specs.Network.{ases_of, arcs_of}
use Rattle.rules.specs.Checks.{needed_room}
use Rattle.rules.specs.Entry.{and_then, fault_of_destination, fault_of_room}
use Rattle.rules.specs.Judge.{standing, best_offers, judge}
use Rattle.sheet.specs.Form.{fault_of_form, destination_of, lines_of}
use Rattle.judge.specs.Steps.{fault_of_lines, fault_of_sheet}

-- 7; 11; 12
pub lines_in_order : (bound : ℕ) (ls : List Link) (us s : List ℕ) (x v w : Verdict) → us ≡ ases_of ls → x ≡ fault_of_destination (destination_of s) us
    → v ≡ standing bound us (lines_of s) → w ≡ best_offers (arcs_of ls) (destination_of s) (lines_of s) → and_then x (and_then v w) ≡ fault_of_lines bound ls s
unfolding fault_of_lines judge
lines_in_order bound ls us s x v w e p q r = rw (p, q, r, e)

-- 8
pub room_short : (need have : ℕ) → have < need → Err RoomShort ≡ fault_of_room need have
room_short need have h = rw (lt-leb need have h)

pub room_enough : (need have : ℕ) → need ≤ have → Ok tt ≡ fault_of_room need have
room_enough need have h = rw (le-leb need have h)

-- 8; 10; then these
pub sheet_in_order : (bound : ℕ) (ls : List Link) (s : List ℕ) (room : ℕ) (x v w : Verdict) → x ≡ fault_of_room (needed_room (length ls) (length (ases_of ls))) room
    → v ≡ fault_of_form s → w ≡ fault_of_lines bound ls s → and_then x (and_then v w) ≡ fault_of_sheet bound ls s room
unfolding fault_of_sheet
sheet_in_order bound ls s room x v w p q r = rw (p, q, r)
