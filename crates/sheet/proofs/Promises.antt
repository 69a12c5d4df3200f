-- The two promises on sheets, over what the entries leave in lent memory: 'reading what was written gives the destination
-- and the table', and 'writing a read sheet gives its bytes again wherever the writer accepts'. They are the round trips under the tests
-- that the entries passed.
use Prim.Native.Nat.{ℕ, ◌+◌, ◌*◌, ◌≤◌, ◌<◌}
use mathlib.Core.Path.{◌≡◌, sym, ap, ap₂, ◌∙◌}
use mathlib.Core.List.{List}
use native.Mathlib.Omega.{arith}
use lib.Dec.{leb}
use lib.ListN.{length, take, drop}
use lib.Seq.{take_at}
use borrow.Author.Tests.{le-leb}
use Rattle.std.specs.Prelude.{Ok, Result}
use Rattle.rules.specs.declared.Limits.{Limits}
use Rattle.rules.specs.declared.Refusal.TheVariants.{OverLimit}
use Rattle.rules.specs.Network.{links_of, ases_of}
use Rattle.rules.specs.Checks.{base_limits}
use Rattle.rules.specs.Entry.{unless, fault_of_links, filled}
use Rattle.rules.specs.Judge.{Entry, entries_of, words_of}
use Rattle.rules.proofs.EntryLaws.{entries_words, words_entries, length_words}
use Rattle.rules.proofs.VerdictLaws.{both_pass}
use Rattle.rules.proofs.AcceptedLinks.{links_few}
use Rattle.rules.specs.declared.Refusal.{Refusal}
use Rattle.sheet.specs.declared.SheetRead.{SheetRead}
use Rattle.sheet.specs.Form.{sheet_of, fault_of_form, destination_of, count_of_lines, lines_of}
use Rattle.sheet.specs.Places.{over}
use Rattle.sheet.specs.Sizes.{Below}
use Rattle.sheet.specs.Entries.{fault_of_writing, final_bytes, fault_of_reading, read_reply, final_table}
use Rattle.sheet.proofs.FormLaws.{length-lines_from}
use Rattle.sheet.proofs.ReadLaws.{read_passes}
use Rattle.sheet.proofs.StandingLaws.{standing_Fits}
use Rattle.sheet.proofs.WriteLaws.{writable, links_first}
use Rattle.sheet.proofs.RoundTrips.{ReadsBack, read_sheet, sheet_read}

-- limits under which every table that is written fits one field of a sheet
pub record SheetLimits (limits : Limits) (bound : ℕ) : Type 0 where
  pub lines : 11 * limits.ases < 65536
  pub bytes : 10 + 11 * limits.ases ≤ limits.sheet
  pub lengths : bound < 65536

pub base_fits : SheetLimits base_limits 511
base_fits = record { lines = omega arith; bytes = omega arith; lengths = omega arith }

-- the bytes that a writer's caller has, by the number in the reply; the table that a reader's caller has, by its lines
abbrev pub sheet_given : Limits → ℕ → List ℕ → ℕ → List ℕ → List ℕ → List ℕ
sheet_given limits bound ws d table bytes = take (10 + 11 * length (ases_of (links_of ws))) (final_bytes limits bound ws d table bytes)

abbrev pub table_given : Limits → List ℕ → List ℕ → List ℕ
table_given limits s words = take (4 * count_of_lines s) (final_table limits s words)

-- reading s into words gives the destination d and the table of n lines
pub record Gives (limits : Limits) (s words : List ℕ) (d n : ℕ) (table : List ℕ) : Type 0 where
  pub reply : read_reply limits s (length words) ≡ Ok (record { destination = d; lines = n })
  pub after : final_table limits s words ≡ over table words

-- a sheet that reads back gives its lines
gives : (limits : Limits) (d : ℕ) (es : List Entry) (words : List ℕ) → ReadsBack d es → 10 + 11 * length es ≤ limits.sheet → 4 * length es ≤ length words
    → Gives limits (sheet_of d es) words d (length es) (words_of es)
unfolding fault_of_reading
gives limits d es words back fits room =
    let s = sheet_of d es in
    let size = le-leb (length s) limits.sheet (omega (arith, back.size)) in
    let output = le-leb (4 * count_of_lines s) (length words) (omega (arith, back.count)) in
    let passes : fault_of_reading limits s (length words) ≡ Ok tt = simp (size, back.form, output) in
    let r = read_passes limits s words passes in
    let reply : ℕ → ℕ → Result SheetRead Refusal = (λ x y. Ok (record { destination = x; lines = y })) in
    record {
      reply = r.0 ∙ ap₂ reply back.destination back.count;
      after = r.1 ∙ ap (λ (l : List Entry). over (words_of l) words) back.lines;
    }

pub read_written : (limits : Limits) (bound : ℕ) (ws : List ℕ) (d : ℕ) (table bytes words : List ℕ) → SheetLimits limits bound → d < 4294967296
    → Below 4294967296 table → fault_of_writing limits bound ws d table (length bytes) ≡ Ok tt → length table ≤ length words
    → Gives limits (sheet_given limits bound ws d table bytes) words d (length (ases_of (links_of ws))) table
unfolding final_bytes
read_written limits bound ws d table bytes words o hd b e room =
    let us = ases_of (links_of ws) in
    let es = entries_of table in
    let p = both_pass (fault_of_links limits ws) _ (sym (links_first limits bound ws d table (length bytes)) ∙ e) in
    let few = links_few limits ws p.0 in
    let w = writable bound us d table (length bytes) p.1 in
    let fits = standing_Fits bound 0 us table o.lengths b w.stands in
    let back = read_sheet d es hd fits (omega (arith, w.count, o.lines)) in
    let given : sheet_given limits bound ws d table bytes ≡ sheet_of d es =
    ap (λ v. take (10 + 11 * length us) (filled v (sheet_of d es) bytes)) e
    ∙ take_at (sheet_of d es) _ (10 + 11 * length us) (omega (arith, back.size, w.count)) in
    let table_again = words_entries (length us) table w.whole in
    rw given (rw (w.count, table_again) at (gives limits d es words back (omega (arith, w.count, o.bytes)) (omega (arith, w.count, w.whole))))

pub write_read : (limits : Limits) (bound : ℕ) (ws s words bytes : List ℕ) → Below 256 s → fault_of_reading limits s (length words) ≡ Ok tt
    → fault_of_writing limits bound ws (destination_of s) (table_given limits s words) (length bytes) ≡ Ok tt
    → final_bytes limits bound ws (destination_of s) (table_given limits s words) bytes ≡ over s bytes
unfolding final_bytes fault_of_reading
write_read limits bound ws s words bytes b r e =
    let form = (both_pass (fault_of_form s) _ (both_pass (unless (leb (length s) limits.sheet) OverLimit) _ r).1).0 in
    let long : length (words_of (lines_of s)) ≡ 4 * count_of_lines s = omega (arith, length_words (lines_of s), length-lines_from (count_of_lines s) (drop 10 s)) in
    let given : table_given limits s words ≡ words_of (lines_of s) =
    ap (take (4 * count_of_lines s)) (read_passes limits s words r).1 ∙ take_at (words_of (lines_of s)) _ (4 * count_of_lines s) long in
    ap (λ v. filled v (sheet_of (destination_of s) (entries_of (table_given limits s words))) bytes) e
    ∙ ap (λ (l : List ℕ). over l bytes)
    (ap (λ (t : List ℕ). sheet_of (destination_of s) (entries_of t)) given
    ∙ ap (sheet_of (destination_of s)) (entries_words (lines_of s))
    ∙ sheet_read s b form)
