-- Too many links: the check says refusal 1, and so does every entry over words, which leaves lent memory as it was.
use Prim.Native.Nat.{ℕ, ◌%◌, ◌<◌}
use mathlib.Core.Path.{◌≡◌, refl, sym, ◌∙◌, ap}
use mathlib.Core.Bool.{Bool, true, false, ◌&&◌}
use mathlib.Core.List.{List}
use native.Mathlib.Omega.{arith}
use borrow.Author.Tests.{lt-ltb, eq-eqb}
use lib.Dec.{leb}
use lib.ListN.{length}
use Rattle.std.specs.Prelude.{Err}
use Rattle.rules.specs.Replies.{Verdict}
use Rattle.rules.specs.declared.Link.{Link}
use Rattle.rules.specs.declared.Refusal.TheVariants.{OverLimit}
use Rattle.rules.specs.Network.{flat}
use Rattle.rules.specs.Checks.{base_limits, check_links, check_words}
use Rattle.rules.specs.Entry.{fault_of_links, verdict_of, and_then, unless}
use Rattle.rules.proofs.NetworkLaws.{links_of-flat, flat-length}
use Rattle.linktext.specs.Texts.{fault_of_text}
use Rattle.linktext.specs.Entries as text
use Rattle.linktext.proofs.WordNetworks.{check_flat}
use Rattle.findings.specs.Entries.{fault_of_findings, findings_reply, final_room}
use Rattle.table.specs.Entries.{fault_of_table, Tabled}
use Rattle.sheet.specs.Entries as sheet
use Rattle.judge.specs.Judging.{Judged}
use Rattle.machine.specs.Entries as machine
use Rattle.machine.specs.Answers.{Answered}
use Rattle.records.specs.Entries.{TextWritten, FoundIn, SheetWritten}

-- 1 of another list comes first, and is the same refusal
over_first : (t : Bool) (v w : Verdict) → v ≡ Err OverLimit → and_then (unless t OverLimit) (and_then v w) ≡ Err OverLimit
over_first true v w e = rw e
over_first false v w e = refl

module _ (ls : List Link) (many : 1536 < length ls) where
  pub check_many : check_words base_limits (flat ls) ≡ Err OverLimit
  unfolding check_links
  check_many = check_flat base_limits ls ∙ rw (lt-ltb 1536 (length ls) many)

  pub Tabled-many : (d : ℕ) (t m : List ℕ) → Tabled base_limits (flat ls) d t m (Err OverLimit) t m
  unfolding fault_of_table
  Tabled-many d t m = record { replies = rw check_many; tabled = rw check_many; zeroed = rw check_many }

  pub text_many : (bs : List ℕ) → TextWritten (flat ls) bs (Err OverLimit) bs
  unfolding text.write_reply text.final_bytes fault_of_text
  text_many bs =
      let e = eq-eqb (length (flat ls) % 3) 0 (omega (arith, flat-length ls)) in
      let g = lt-ltb 1536 (length ls) many in
      record { replies = rw (e, links_of-flat ls, g); written = rw (e, links_of-flat ls, g) }

  pub found_many : (m : List ℕ) → FoundIn (flat ls) m (Err OverLimit) m
  unfolding fault_of_findings findings_reply final_room
  found_many m = record { replies = rw check_many; zeroed = rw check_many }

  pub sheet_many : (d : ℕ) (t bs : List ℕ) → SheetWritten (flat ls) d t bs (Err OverLimit) bs
  unfolding sheet.fault_of_writing sheet.write_reply sheet.final_bytes
  sheet_many d t bs = record { replies = rw check_many; written = rw check_many }

  pub Judged-many : (s m : List ℕ) → Judged base_limits 511 (flat ls) s m (Err OverLimit) m
  unfolding sheet.judge_reply
  Judged-many s m =
      let e : sheet.judge_reply base_limits 511 (flat ls) s (length m) ≡ Err OverLimit
      = over_first (leb (length s) 65536) (fault_of_links base_limits (flat ls)) _ (ap verdict_of check_many) in
      record { replies = sym e; zeroed = rw e }

  pub run_many : (d : ℕ) (cs : List ℕ) (n : ℕ) (t m : List ℕ) → Answered base_limits (flat ls) d cs n t m (Err OverLimit) t m
  unfolding machine.fault_of_run machine.run_reply machine.final_table machine.final_room
  run_many d cs n t m =
      let e : machine.fault_of_run base_limits (flat ls) d cs n (length t) (length m) ≡ Err OverLimit
      = over_first (leb (length cs) 65536 && leb n 65536) (fault_of_links base_limits (flat ls)) _ (ap verdict_of check_many) in
      record { replies = rw e; tabled = rw e; zeroed = rw e }
