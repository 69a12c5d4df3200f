-- What the writer answers and leaves in the bytes, by its verdict; and what it says of links and a table that they are accepted.
use Prim.Native.Nat.{ℕ, ◌+◌, ◌*◌, ◌≤◌}
use mathlib.Core.Path.{◌≡◌, refl, sym, ap, ◌∙◌}
use mathlib.Core.List.{List}
use lib.Dec.{leb, eqb}
use native.Mathlib.Omega.{arith}
use lib.ListN.{length, take}
use lib.Seq.{take-length, take_at}
use Rattle.std.specs.Prelude.{Err, Ok}
use Rattle.rules.specs.declared.Limits.{Limits}
use Rattle.rules.specs.declared.Refusal.{Refusal}
use Rattle.rules.specs.Network.{links_of, ases_of}
use Rattle.rules.specs.Checks.{base_limits, check_words}
use Rattle.rules.specs.Ascending.{Ascending}
use Rattle.rules.specs.declared.Link.{Link}
use Rattle.rules.proofs.AcceptedLinks.{check_words-Accepted}
use Rattle.rules.proofs.NetworkLaws.{ases_Ascending}
use Rattle.rules.specs.Entry.{and_then, fault_of_links, fault_of_destination, filled}
use Rattle.rules.specs.Judge.{entries_of, standing}
use Rattle.rules.proofs.Tests.{tests}
use Rattle.rules.proofs.VerdictLaws.{both_pass, test_passes}
use Rattle.sheet.specs.Form.{sheet_of}
use Rattle.sheet.specs.Entries.{fault_of_table, fault_of_writing, reply_with, write_reply, final_bytes}
use Rattle.sheet.specs.Writing.{fault_of_sheet}
use Rattle.sheet.proofs.StandingLaws.{same_count, destination_there, destination_none}
use Rattle.network.specs.Promises.{Listed}

-- a table that stands for the ASes us, and room for its sheet
pub record Writable (bound : ℕ) (us table : List ℕ) (room : ℕ) : Type 0 where
  pub stands : standing bound us (entries_of table) ≡ Ok tt
  pub count : length (entries_of table) ≡ length us
  pub whole : length table ≡ 4 * length us
  pub size : 10 + 11 * length us ≤ room

pub writable : (bound : ℕ) (us : List ℕ) (d : ℕ) (table : List ℕ) (room : ℕ) → fault_of_sheet bound us d table room ≡ Ok tt → Writable bound us table room
unfolding fault_of_sheet fault_of_table
writable bound us d table room e =
    let p = both_pass (fault_of_destination d us) _ e in
    let q = both_pass (fault_of_table bound us table) _ p.1 in
    let r = both_pass (standing bound us (entries_of table)) _ q.0 in
    let s = test_passes (eqb (length table) (4 * length us)) _ _ r.1 in
    let t = test_passes (leb (10 + 11 * length us) room) _ _ q.1 in
    record {
      stands = r.0;
      count = same_count bound 0 us (entries_of table) r.0;
      whole = omega (tests, s.0);
      size = omega (tests, t.0);
    }

-- the links come first
pub links_first : (limits : Limits) (bound : ℕ) (ws : List ℕ) (d : ℕ) (table : List ℕ) (room : ℕ)
    → fault_of_writing limits bound ws d table room ≡ and_then (fault_of_links limits ws) (fault_of_sheet bound (ases_of (links_of ws)) d table room)
unfolding fault_of_writing fault_of_sheet
links_first limits bound ws d table room = refl

-- What the writer's steps find ---------------------------------------------------------------------------------------------

-- the ASes of links ascend, all of them
pub whole_Ascending : (us : List ℕ) (ls : List Link) → us ≡ ases_of ls → Ascending (take (length us) us)
whole_Ascending us ls e = rw (take-length us, e) (ases_Ascending ls)

pub ruleset draft_order = (whole_Ascending, destination_there, destination_none)

-- accepted links name few ASes, which were listed
pub accepted_few : (ws : List ℕ) (n : ℕ) → check_words base_limits ws ≡ Ok n → length (ases_of (links_of ws)) ≤ 512
accepted_few ws n e = (let a = (check_words-Accepted base_limits ws n e).1 in omega (arith, a.count, a.few_ases))

pub listed_front : (out l u : List ℕ) (n : ℕ) → Listed out l u n → take n u ≡ out
listed_front out l u n h = ap (take n) h.words ∙ take_at out _ n (sym h.count)

-- the reply and the bytes after links that are refused, and after links that are accepted
module _ (bound : ℕ) (ws : List ℕ) (d : ℕ) (table bytes : List ℕ) where
  pub reply_refused : (r : Refusal) → check_words base_limits ws ≡ Err r → write_reply base_limits bound ws d table (length bytes) ≡ Err r
  unfolding write_reply fault_of_writing
  reply_refused r e = rw e

  pub bytes_refused : (r : Refusal) → check_words base_limits ws ≡ Err r → final_bytes base_limits bound ws d table bytes ≡ bytes
  unfolding final_bytes fault_of_writing
  bytes_refused r e = rw e

  pub reply_accepted : (n : ℕ) → check_words base_limits ws ≡ Ok n
      → write_reply base_limits bound ws d table (length bytes)
      ≡ reply_with (fault_of_sheet bound (ases_of (links_of ws)) d table (length bytes)) (10 + 11 * length (ases_of (links_of ws)))
  unfolding write_reply fault_of_writing fault_of_sheet
  reply_accepted n e = rw e

  pub bytes_accepted : (n : ℕ) → check_words base_limits ws ≡ Ok n
      → final_bytes base_limits bound ws d table bytes
      ≡ filled (fault_of_sheet bound (ases_of (links_of ws)) d table (length bytes)) (sheet_of d (entries_of table)) bytes
  unfolding final_bytes fault_of_writing fault_of_sheet
  bytes_accepted n e = rw e

pub ruleset entry_order = (accepted_few, listed_front, reply_refused, bytes_refused, reply_accepted, bytes_accepted)
