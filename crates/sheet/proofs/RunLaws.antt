-- The runs of bytes that make a number, a head, a line and a sheet. Each is one run after the other (`sets-append`).
use Prim.Native.Nat.{ℕ, ◌+◌, ◌*◌, ◌/◌, ◌≤◌}
use mathlib.Core.Path.{◌≡◌, refl, sym, ap, ◌∙◌}
use mathlib.Core.List.{List, append_assoc}
use native.Mathlib.Omega.{arith}
use lib.ListN.{length, take, drop, length-drop}
use lib.Seq.{sets, sets-eq, drop-drop}
use borrow.Rule.Slice.PartMut.{put_mid}
use Rattle.rules.specs.Judge.{Entry, entries_of}
use Rattle.rules.proofs.EntryLaws.{length_entries, entries_next, entries_few}
use Rattle.rules.proofs.StoreLaws.{sets-append, sets_front}
use Rattle.sheet.specs.Form.{line_bytes, lines_bytes, sheet_of}
use Rattle.sheet.specs.Places.{entry_at, head_of, over}
use Rattle.sheet.proofs.FormLaws.{length_line, length-lines_bytes}

-- a run written over a part of a slice
pub pasted : (s ys vs : List ℕ) (i k : ℕ) → ys ≡ vs → k ≡ length vs → i + length vs ≤ length s → put_mid i k s ys ≡ sets s i vs
pasted s ys vs i k e p h = rw (e, p, drop-drop) (sym (append_assoc (take i s) vs _) ∙ sym (sets-eq vs s i h))

-- the bytes with the lines from i on written as well
unfoldable pub lines_put : List ℕ → List ℕ → ℕ → List ℕ
lines_put bytes ws i = sets bytes (10 + 11 * i) (lines_bytes (entries_of (drop (4 * i) ws)))

pub lines_put-all : (bytes ws : List ℕ) → lines_put bytes ws 0 ≡ sets bytes 10 (lines_bytes (entries_of ws))
unfolding lines_put
lines_put-all bytes ws = refl

pub lines_put-next : (bytes ws : List ℕ) (i : ℕ) → 4 * i + 4 ≤ length ws
    → lines_put (sets bytes (10 + 11 * i) (line_bytes (entry_at ws i))) ws (i + 1) ≡ lines_put bytes ws i
unfolding lines_put lines_bytes
lines_put-next bytes ws i h =
    let rest = lines_bytes (entries_of (drop (4 * (i + 1)) ws)) in
    sets-append (line_bytes (entry_at ws i)) rest bytes (10 + 11 * i) (10 + 11 * (i + 1)) (omega (arith, length_line (entry_at ws i)))
    ∙ ap (λ (es : List Entry). sets bytes (10 + 11 * i) (lines_bytes es)) (sym (entries_next ws i h))

pub lines_put-end : (bytes ws : List ℕ) (i : ℕ) → length ws / 4 ≤ i → lines_put bytes ws i ≡ bytes
unfolding lines_put lines_bytes
lines_put-end bytes ws i h = ap (λ (es : List Entry). sets bytes (10 + 11 * i) (lines_bytes es)) (entries_few (drop (4 * i) ws) (simp length-drop (omega arith)))

pub ruleset lines_steps = (lines_put-all, lines_put-next, lines_put-end)

-- a sheet
pub sheet_run : (s t u ws : List ℕ) (d size : ℕ) → size ≡ 11 * (length ws / 4) → 10 + size ≤ length s → t ≡ sets s 0 (head_of d size) → u ≡ sets t 10 (lines_bytes (entries_of ws))
    → u ≡ over (sheet_of d (entries_of ws)) s
unfolding sheet_of
sheet_run s t u ws d size count room p q =
    let es = entries_of ws in
    let same : size ≡ 11 * length es = omega (arith, length_entries ws) in
    let fits : length (sheet_of d es) ≤ length s = omega (arith, length-lines_bytes es) in
    q
    ∙ rw (p, same) (sets-append (head_of d (11 * length es)) (lines_bytes es) s 0 10 refl)
    ∙ sets_front (sheet_of d es) s fits
