-- Reading what was written, and writing what was read. The bytes of a sheet's head compute; lines go by FormLaws, table words by
-- EntryLaws, and what the writer accepts fits the fields by StandingLaws.
use Prim.Native.Nat.{ℕ, ◌+◌, ◌*◌, ◌<◌}
use mathlib.Core.Path.{◌≡◌, refl, ap, ◌∙◌}
use mathlib.Core.List.{List, [], ◌∷◌, ◌++◌}
use native.Mathlib.Omega.{arith}
use lib.ListN.{length, drop, length-drop}
use Rattle.std.specs.Prelude.{Ok}
use Rattle.rules.specs.Judge.{Entry}
use Rattle.sheet.specs.Form.{bytes2, word2, lines_bytes, sheet_of, fault_of_form, destination_of, count_of_lines, lines_from, lines_of}
use Rattle.sheet.specs.Sizes.{Below, Fits}
use Rattle.sheet.proofs.NumberLaws.{Below-drop, word2-bytes2, word4-bytes4, bytes2-word2, bytes4-word4}
use Rattle.sheet.proofs.FormLaws.{formed, form_passes, spell, length-lines_bytes, length-lines_from, lines_read, lines_written}

-- what reading finds in the sheet of d and es
pub record ReadsBack (d : ℕ) (es : List Entry) : Type 0 where
  pub form : fault_of_form (sheet_of d es) ≡ Ok tt
  pub destination : destination_of (sheet_of d es) ≡ d
  pub count : count_of_lines (sheet_of d es) ≡ length es
  pub lines : lines_of (sheet_of d es) ≡ es
  pub size : length (sheet_of d es) ≡ 10 + 11 * length es

pub read_sheet : (d : ℕ) (es : List Entry) → d < 4294967296 → Fits es → 11 * length es < 65536 → ReadsBack d es
unfolding sheet_of
read_sheet d es hd f h =
    let bytes : word2 (sheet_of d es) 8 ≡ 11 * length es = word2-bytes2 (11 * length es) (lines_bytes es) h in
    let count : count_of_lines (sheet_of d es) ≡ length es = omega arith in
    let size : length (sheet_of d es) ≡ 10 + 11 * length es = omega (arith, length-lines_bytes es) in
    record {
      form = form_passes (sheet_of d es) (record { tag = refl; high = refl; low = refl; tag2 = refl; whole = omega arith; size = omega arith });
      destination = word4-bytes4 d (((2 ∷ []) ++ (bytes2 (11 * length es) ++ lines_bytes es))) hd;
      count = count;
      lines = ap (λ (n : ℕ). lines_from n (lines_bytes es)) count ∙ lines_read es f;
      size = size;
    }

pub sheet_read : (s : List ℕ) → Below 256 s → fault_of_form s ≡ Ok tt → sheet_of (destination_of s) (lines_of s) ≡ s
unfolding sheet_of
sheet_read s b e =
    let f = formed s e in
    let lines : lines_bytes (lines_of s) ≡ drop 10 s =
    lines_written (count_of_lines s) (drop 10 s) (Below-drop 10 256 s b) (simp length-drop (omega (arith, f.size, f.whole))) in
    let count : 11 * length (lines_of s) ≡ word2 s 8 = omega (arith, length-lines_from (count_of_lines s) (drop 10 s), f.whole) in
    cc (bytes4-word4 s 3 b, ap bytes2 count ∙ bytes2-word2 s 8 b, spell s 10 0 (omega (arith, f.size)))
