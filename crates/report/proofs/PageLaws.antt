-- What a page holds after one part, and after one part behind another.
use Prim.Native.Nat.{ℕ, ◌+◌, ◌-◌, ◌<◌}
use mathlib.Core.Path.{◌≡◌, refl, ◌∙◌}
use mathlib.Core.List.{List, [], ◌∷◌, ◌++◌, append_assoc}
use native.Mathlib.Nat.{zero-add}
use native.Mathlib.Omega.{arith}
use native.Mathlib.Numerals.{add-one}
use lib.ListN.{length, set}
use lib.Seq.{sets, sets-eq, drop-drop}
use borrow.Rule.Slice.PartMut.{put_mid}
use Rattle.rules.proofs.StoreLaws.{sets-append}
use Rattle.offers.specs.Lines.{number_word, entry_line}
use Rattle.linktext.proofs.StoreLaws.{Stored-length, Stored-then}
use Rattle.report.specs.declared.printing.Page.{Page}
use Rattle.report.specs.Report.{sp, line_text}
use Rattle.report.specs.Printing.{entries_text}
use Rattle.report.specs.Pages.{Fits, Puts}
use Rattle.report.proofs.PrintLaws.{entries_more}

-- a word, and the byte behind it
pub copied : (l word : List ℕ) (at k y : ℕ) → k ≡ length word → at + length word < length l → set (put_mid at k l word) (at + length word) y ≡ sets l at (word ++ (y ∷ []))
copied l word at k y e h =
    let whole : put_mid at k l word ≡ sets l at word = rw (e, drop-drop (length word) at l, sets-eq word l at (omega arith), append_assoc) in
    rw whole (sets-append word (y ∷ []) l at (at + length word) refl)

pub put_then : {a b c : Page} {xs ys : List ℕ} → Puts a xs b → Puts b ys c → Puts a (xs ++ ys) c
put_then p q = record { stored = Stored-then p.stored q.stored; loan = q.loan ∙ p.loan }

-- two parts with a space between, and a byte behind them
pub put_two : {a b c : Page} (x y : List ℕ) (end : ℕ) → Puts a (x ++ (sp ∷ [])) b → Puts b (y ++ (end ∷ [])) c → Puts a (x ++ (sp ∷ (y ++ (end ∷ [])))) c
put_two x y end p q = simp append_assoc at (put_then p q)

-- what still fits behind a part
pub fits_behind : {a b : Page} {xs : List ℕ} (k : ℕ) → Puts a xs b → Fits a (length xs + k) → Fits b k
fits_behind k p h = omega (arith, p.stored.after, Stored-length p.stored)

-- no line, and one line more
pub entries_none : (a : Page) (t : List ℕ) → Puts a (entries_text t 0 0) a
unfolding entries_text
entries_none a t = record { stored = record { bytes = refl; after = omega arith }; loan = refl }

pub entries_one : (a b c : Page) (t : List ℕ) (i : ℕ) → Puts a (entries_text t 0 i) b → Puts b (line_text (number_word t i) (entry_line t i)) c
    → Puts a (entries_text t 0 (i + 1)) c
entries_one a b c t i p q = rw (add-one i, entries_more t 0 i, zero-add i) (put_then p q)
