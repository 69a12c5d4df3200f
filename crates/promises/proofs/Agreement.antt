-- Every promise says enough: any two replies that a public function's contract allows agree, and so do the lent words and bytes that
-- it leaves. Where reply and memory are given by equations it is one law, `once`; the stable table's is by 'the table of a stable routing',
-- of which there is exactly one (`stable_words`).
--
--   once, twice        what equals one value is one; the same of a reply and of lent memory
--   CheckLinks .. Run  the contracts of the entries, with the base limits
--   .. -once           any two outcomes that such a contract allows agree
use Prim.Native.Nat.{ℕ}
use mathlib.Core.Path.{◌≡◌, sym, ◌∙◌}
use mathlib.Core.List.{List}
use lib.ListN.{length}
use Rattle.rules.specs.Replies.{Verdict}
use Rattle.rules.specs.declared.Refusal.{Refusal}
use Rattle.std.specs.Prelude.{Err, Ok, Result}
use Rattle.rules.specs.declared.Link.{Link}
use Rattle.rules.specs.declared.Limits.{Limits}
use Rattle.rules.specs.Network.{links_of}
use Rattle.rules.specs.Checks.{base_limits, check_words}
use Rattle.linktext.specs.Entries as text
use Rattle.findings.specs.declared.Found.{Found}
use Rattle.findings.specs.Entries.{findings_reply, final_room}
use Rattle.table.specs.Entries.{fault_of_table, StableTable, TableAfter, Tabled}
use Rattle.table.proofs.StableLaws.{stable_words, filled_words}
use Rattle.sheet.specs.declared.SheetRead.{SheetRead}
use Rattle.sheet.specs.Entries as sheet
use Rattle.judge.specs.Judging.{Judged}
use Rattle.judge.proofs.Promises.{Judged-one}
use Rattle.machine.specs.declared.Ran.{Ran}
use Rattle.machine.specs.Answers.{Answered}
use Rattle.machine.proofs.QuietRuns.{Answered-once}

pub once : {A : Type 0} {x y v : A} → x ≡ v → y ≡ v → x ≡ y
once e f = e ∙ sym f

pub twice : {A B : Type 0} {x y v : A} {s t w : B} → (x ≡ v) × (s ≡ w) → (y ≡ v) × (t ≡ w) → (x ≡ y) × (s ≡ t)
twice e f = (once e.0 f.0, once e.1 f.1)

-- By equation --------------------------------------------------------------------------------------------------------------

abbrev pub CheckLinks : List ℕ → Result ℕ Refusal → Type 0
CheckLinks ws r = r ≡ check_words base_limits ws

pub check_once : (ws : List ℕ) {r q : Result ℕ Refusal} → CheckLinks ws r → CheckLinks ws q → r ≡ q
check_once ws = once

abbrev pub ReadText : List ℕ → List ℕ → Result ℕ Refusal → List ℕ → Type 0
ReadText t ws r ws' = (r ≡ text.read_reply base_limits t (length ws)) × (ws' ≡ text.final_words base_limits t ws)

pub read_text_once : (t ws : List ℕ) {r q : Result ℕ Refusal} {u v : List ℕ} → ReadText t ws r u → ReadText t ws q v → (r ≡ q) × (u ≡ v)
read_text_once t ws = twice

abbrev pub WriteText : List ℕ → List ℕ → Result ℕ Refusal → List ℕ → Type 0
WriteText ws b r b' = (r ≡ text.write_reply base_limits ws (length b)) × (b' ≡ text.final_bytes base_limits ws b)

pub write_text_once : (ws b : List ℕ) {r q : Result ℕ Refusal} {u v : List ℕ} → WriteText ws b r u → WriteText ws b q v → (r ≡ q) × (u ≡ v)
write_text_once ws b = twice

abbrev pub Find : List ℕ → List ℕ → Result Found Refusal → List ℕ → Type 0
Find ws room r room' = (r ≡ findings_reply base_limits ws (length room)) × (room' ≡ final_room base_limits ws room)

pub Find-once : (ws room : List ℕ) {r q : Result Found Refusal} {u v : List ℕ} → Find ws room r u → Find ws room q v → (r ≡ q) × (u ≡ v)
Find-once ws room = twice

abbrev pub WriteSheet : List ℕ → ℕ → List ℕ → List ℕ → Result ℕ Refusal → List ℕ → Type 0
WriteSheet ws d t b r b' = (r ≡ sheet.write_reply base_limits 511 ws d t (length b)) × (b' ≡ sheet.final_bytes base_limits 511 ws d t b)

pub write_sheet_once : (ws : List ℕ) (d : ℕ) (t b : List ℕ) {r q : Result ℕ Refusal} {u v : List ℕ} → WriteSheet ws d t b r u → WriteSheet ws d t b q v
    → (r ≡ q) × (u ≡ v)
write_sheet_once ws d t b = twice

abbrev pub ReadSheet : List ℕ → List ℕ → Result SheetRead Refusal → List ℕ → Type 0
ReadSheet s t r t' = (r ≡ sheet.read_reply base_limits s (length t)) × (t' ≡ sheet.final_table base_limits s t)

pub read_sheet_once : (s t : List ℕ) {r q : Result SheetRead Refusal} {u v : List ℕ} → ReadSheet s t r u → ReadSheet s t q v → (r ≡ q) × (u ≡ v)
read_sheet_once s t = twice

pub judge_once : {limits : Limits} {bound : ℕ} {ws s room : List ℕ} {r q : Verdict} {u v : List ℕ} → Judged limits bound ws s room r u
    → Judged limits bound ws s room q v → (r ≡ q) × (u ≡ v)
judge_once = Judged-one

pub run_once : {limits : Limits} {ws : List ℕ} {d : ℕ} {cs : List ℕ} {n : ℕ} {t r : List ℕ} {x y : Result Ran Refusal} {t₁ t₂ r₁ r₂ : List ℕ}
    → Answered limits ws d cs n t r x t₁ r₁ → Answered limits ws d cs n t r y t₂ r₂ → (x ≡ y) × (t₁ ≡ t₂) × (r₁ ≡ r₂)
run_once {limits} {ws} {d} {cs} {n} {t} {r} a b = Answered-once limits ws d cs n t r a b

-- The stable table ---------------------------------------------------------------------------------------------------------

-- the words of a stable routing are one list
pub stable_words_once : (ls : List Link) (d : ℕ) (s t : List ℕ) → StableTable ls d s → StableTable ls d t → s ≡ t
stable_words_once ls d s t a b = once (stable_words ls d s a) (stable_words ls d t b)

pub after_once : (v : Verdict) (ls : List Link) (d : ℕ) (old s t : List ℕ) → TableAfter v ls d old s → TableAfter v ls d old t → s ≡ t
after_once (Ok tt) ls d old s t a b = once (filled_words ls d old s a) (filled_words ls d old t b)
after_once (Err why) ls d old s t a b = once a b

pub table_once : (limits : Limits) (ws : List ℕ) (d : ℕ) (t r : List ℕ) {x y : Verdict} {t₁ t₂ r₁ r₂ : List ℕ} → Tabled limits ws d t r x t₁ r₁
    → Tabled limits ws d t r y t₂ r₂ → (x ≡ y) × (t₁ ≡ t₂) × (r₁ ≡ r₂)
table_once limits ws d t r {x} {y} {t₁} {t₂} a b = (
  once a.replies b.replies,
  after_once (fault_of_table limits ws d (length t) (length r)) (links_of ws) d t t₁ t₂ a.tabled b.tabled,
  once a.zeroed b.zeroed,
)
