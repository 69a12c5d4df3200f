-- What the reader answers and leaves in the table where nothing is refused; and the table with the first lines written, one line more at a time.
use Prim.Native.Nat.{ℕ, ◌+◌, ◌*◌, ◌≤◌}
use mathlib.Core.Path.{◌≡◌, refl, sym, ap, ◌∙◌}
use mathlib.Core.List.{List, [], ◌∷◌}
use native.Mathlib.Omega.{arith}
use lib.ListN.{length, drop}
use lib.Seq.{sets, length-sets}
use Rattle.std.specs.Prelude.{Ok}
use Rattle.rules.specs.declared.Limits.{Limits}
use Rattle.rules.specs.Entry.{filled}
use Rattle.rules.specs.Judge.{Entry, words_of}
use Rattle.rules.proofs.EntryLaws.{length_words, words_append}
use Rattle.rules.proofs.StoreLaws.{sets-append, sets_front}
use Rattle.sheet.specs.Form.{destination_of, count_of_lines, lines_from, lines_of}
use Rattle.sheet.specs.Places.{entry_line, over}
use Rattle.sheet.specs.Entries.{fault_of_reading, reply_read, read_reply, final_table}
use Rattle.sheet.proofs.FormLaws.{length-lines_from, lines_more}

pub read_passes : (limits : Limits) (s words : List ℕ) → fault_of_reading limits s (length words) ≡ Ok tt
    → (read_reply limits s (length words) ≡ Ok (record { destination = (destination_of s); lines = (count_of_lines s) })) × (final_table limits s words ≡ over (words_of (lines_of s)) words)
unfolding read_reply final_table
read_passes limits s words e = (ap (reply_read s) e, ap (λ v. filled v (words_of (lines_of s)) words) e)

-- the table with the first i lines written
unfoldable pub table_to : List ℕ → List ℕ → ℕ → List ℕ
table_to s old i = sets old 0 (words_of (lines_from i (drop 10 s)))

pub table_to-none : (s old : List ℕ) → table_to s old 0 ≡ old
unfolding table_to lines_from words_of
table_to-none s old = refl

pub length-table_to : (s old : List ℕ) (i : ℕ) → length (table_to s old i) ≡ length old
unfolding table_to
length-table_to s old i = length-sets old 0 (words_of (lines_from i (drop 10 s)))

pub table_to-next : (s old : List ℕ) (i : ℕ) → table_to s old (i + 1) ≡ sets (table_to s old i) (4 * i) (words_of (entry_line s i ∷ []))
unfolding table_to
table_to-next s old i =
    let lines = lines_from i (drop 10 s) in
    let at : 0 + length (words_of lines) ≡ 4 * i = omega (arith, length_words lines, length-lines_from i (drop 10 s)) in
    ap (λ (es : List Entry). sets old 0 (words_of es)) (lines_more i s)
    ∙ ap (sets old 0) (words_append lines (entry_line s i ∷ []))
    ∙ sym (sets-append (words_of lines) (words_of (entry_line s i ∷ [])) old 0 (4 * i) at)

pub table_to-all : (s old : List ℕ) (n : ℕ) → 4 * n ≤ length old → table_to s old n ≡ over (words_of (lines_from n (drop 10 s))) old
unfolding table_to
table_to-all s old n h =
    let lines = lines_from n (drop 10 s) in
    sets_front (words_of lines) old (omega (arith, length_words lines, length-lines_from n (drop 10 s)))

pub ruleset table_steps = (table_to-none, length-table_to, table_to-next, table_to-all)
