-- What is printed byte after byte and line after line: one turn of each loop, and how long each part is.
use Prim.Native.Nat.{ℕ, zero, suc, ◌+◌, ◌-◌, ◌*◌, ◌≤◌}
use mathlib.Core.Path.{◌≡◌, ◌∙◌}
use mathlib.Core.Bool.{Bool, true, false}
use mathlib.Core.List.{List, ◌++◌, append_assoc, append-nil}
use native.Mathlib.Omega.{arith}
use lib.ListN.{length, length-append}
use Rattle.rules.specs.declared.Refusal.{Refusal}
use Rattle.rules.specs.Refusals.{refusal_number, refusal_place}
use Rattle.rules.specs.Stable.{Line}
use Rattle.rules.proofs.StoreLaws.{sets_front}
use Rattle.linktext.specs.Lines.{lf}
use Rattle.linktext.specs.Texts.{decimal}
use Rattle.linktext.specs.Stored.{Stored}
use Rattle.linktext.proofs.TextLaws.{digits_bound}
use Rattle.linktext.proofs.StoreLaws.{Stored-length}
use Rattle.offers.specs.Lines.{number_word, entry_line}
use Rattle.report.specs.declared.Told.{Told}
use Rattle.report.specs.Report.{sp, word_destination, word_ring, word_joined, yes_no, quiet_or, spaced, line_text, refusal_line}
use Rattle.report.specs.Printing.{Printed, two_text, entries_text, head_text, told_text}

-- a line as it is stored: AS and type, then length and next hop
pub Line-parts : (u : ℕ) (l : Line) → line_text u l ≡ two_text u l.pair.typ sp ++ two_text l.pair.length l.next lf
unfolding line_text
Line-parts u l = simp append_assoc

-- lengths
pub two_bound : (x y end : ℕ) → length (two_text x y end) ≤ 22
two_bound x y end = simp length-append (omega (arith, digits_bound 10 x, digits_bound 10 y))

pub Line-bound : (u : ℕ) (l : Line) → length (line_text u l) ≤ 44
Line-bound u l = rw Line-parts (simp length-append (omega (arith, digits_bound 10 u, digits_bound 10 l.pair.typ, digits_bound 10 l.pair.length, digits_bound 10 l.next)))

pub count_bound : (w : List ℕ) (n : ℕ) → length (spaced w (decimal n)) ≤ length w + 12
count_bound w n = simp length-append (omega (arith, digits_bound 10 n))

pub finding_bound : (w : List ℕ) (b : Bool) → length (spaced w (yes_no b)) ≤ length w + 5
finding_bound w true = simp length-append (omega arith)
finding_bound w false = simp length-append (omega arith)

end_bound : (b : Bool) (n : ℕ) → length (spaced (quiet_or b) (decimal n)) ≤ 19
end_bound true n = omega (arith, count_bound (quiet_or true) n)
end_bound false n = omega (arith, count_bound (quiet_or false) n)

pub head_bound : (x : Told) → length (head_text x) ≤ 52
unfolding head_text
head_bound x =
    let d = count_bound word_destination x.end.destination in
    let r = finding_bound word_ring x.found.ring in
    let j = finding_bound word_joined x.found.joined in
    let a = spaced word_destination (decimal x.end.destination) in
    let b = spaced word_ring (yes_no x.found.ring) in
    let c = spaced word_joined (yes_no x.found.joined) in
    omega (arith, length-append a (b ++ c), length-append b c)

pub entries_bound : (t : List ℕ) (i k : ℕ) → length (entries_text t i k) ≤ 44 * k
unfolding entries_text
entries_bound t i zero = omega arith
entries_bound t i (suc k) =
    let line = line_text (number_word t i) (entry_line t i) in
    omega (arith, length-append line (entries_text t (suc i) k), Line-bound (number_word t i) (entry_line t i), entries_bound t (suc i) k)

pub Told-bound : (x : Told) (t : List ℕ) → length (told_text x t) ≤ 71 + 44 * x.end.count
unfolding told_text
Told-bound x t =
    let lines = entries_text t 0 x.end.count in
    let end = spaced (quiet_or x.end.quiet) (decimal x.end.made) in
    omega
    (arith, length-append (head_text x) (lines ++ end), length-append lines end, head_bound x, entries_bound t 0 x.end.count, end_bound x.end.quiet x.end.made)

pub refusal_bound : (why : Refusal) → length (refusal_line why) ≤ 30
unfolding refusal_line
refusal_bound why = omega (arith, two_bound (refusal_number why) (refusal_place why) lf)

-- one line of a table more
pub entries_more : (t : List ℕ) (i k : ℕ) → entries_text t i (suc k) ≡ entries_text t i k ++ line_text (number_word t (i + k)) (entry_line t (i + k))
unfolding entries_text
entries_more t i zero = (let e : i + 0 ≡ i = omega arith in rw (e, append-nil))
entries_more t i (suc k) =
    let e : i + suc k ≡ suc i + k = omega arith in
    rw (e, entries_more t (suc i) k, append_assoc)

-- a text that is stored from the first byte on
pub printed : {old new text : List ℕ} {r : ℕ} → length text ≤ length old → Stored old 0 text new r → Printed text old new r
printed {old} {new} {text} h s =
    record { bytes = s.bytes ∙ sets_front text old h; count = omega (arith, s.after); fits = omega (arith, s.after, Stored-length s) }
