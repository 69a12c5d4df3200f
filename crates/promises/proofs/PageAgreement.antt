-- Any two replies agree at the boundary too: the exported functions, the entries over links by value, and the program's report. The entries
-- over `&[Link]` have the contracts of those over words, of the records' words, so that Agreement.antt is about them already.
--
--   page_sheet_once .. page_table_once   any two outcomes that an exported function's contract allows agree
--   Holding-once       what follows from two promises of the same words follows where links by value hold them
use Prim.Native.Nat.{ℕ, ◌≤◌, ◌<◌}
use mathlib.Core.Path.{◌≡◌}
use mathlib.Core.Logic.{◌⊎◌, inl, inr}
use mathlib.Core.List.{List}
use native.Mathlib.Omega.{arith}
use lib.ListN.{length, replicate, length-replicate}
use Rattle.rules.specs.declared.Link.{Link}
use Rattle.rules.specs.declared.Limits.{Limits}
use Rattle.rules.specs.Network.{links_of}
use Rattle.rules.specs.Checks.{base_limits}
use Rattle.network.proofs.Numbers.{below?}
use Rattle.records.specs.declared.Words.{Words}
use Rattle.records.specs.Entries.{Holding}
use Rattle.report.specs.Entries.{Reported}
use Rattle.report.proofs.Promises.{Reported-once}
use Rattle.storefront.specs.Page as page
use Rattle.promises.proofs.Agreement.{once, twice, after_once}

-- The exported functions -----------------------------------------------------------------------------------------------------

abbrev pub PageSheet : List ℕ → ℕ → List ℕ → ℕ → List ℕ → Type 0
PageSheet t d b r b' = (r ≡ page.sheet_reply base_limits t d (length b)) × (b' ≡ page.final_sheet base_limits t d b)

pub page_sheet_once : (t : List ℕ) (d : ℕ) (b : List ℕ) {r q : ℕ} {u v : List ℕ} → PageSheet t d b r u → PageSheet t d b q v → (r ≡ q) × (u ≡ v)
page_sheet_once t d b = twice

pub page_judge_once : (t s : List ℕ) {r q : ℕ} → r ≡ page.judge_reply base_limits 511 t s → q ≡ page.judge_reply base_limits 511 t s → r ≡ q
page_judge_once t s = once

pub page_findings_once : (t : List ℕ) {r q : ℕ} → r ≡ page.findings_reply base_limits t → q ≡ page.findings_reply base_limits t → r ≡ q
page_findings_once t = once

abbrev pub PageRun : List ℕ → ℕ → List ℕ → ℕ → List ℕ → ℕ → List ℕ → Type 0
PageRun t d cs n b r b' = (r ≡ page.run_reply base_limits t d cs n (length b)) × (b' ≡ page.final_table base_limits t d cs n b)

pub page_run_once : (t : List ℕ) (d : ℕ) (cs : List ℕ) (n : ℕ) (b : List ℕ) {r q : ℕ} {u v : List ℕ} → PageRun t d cs n b r u → PageRun t d cs n b q v
    → (r ≡ q) × (u ≡ v)
page_run_once t d cs n b = twice

pub page_check_once : (ws : List ℕ) {r q : ℕ} → r ≡ page.check_reply base_limits ws → q ≡ page.check_reply base_limits ws → r ≡ q
page_check_once ws = once

pub page_table_once : {limits : Limits} {ws : List ℕ} {d : ℕ} {t : List ℕ} {r q : ℕ} {u v : List ℕ} → page.PageTabled limits ws d t r u
    → page.PageTabled limits ws d t q v → (r ≡ q) × (u ≡ v)
page_table_once {limits} {ws} {d} {t} {u = u} {v = v} a b =
    (once a.replies b.replies, after_once (page.fault_of_page limits ws d (length t)) (links_of ws) d t u v a.tabled b.tabled)

-- Links by value -------------------------------------------------------------------------------------------------------------

abbrev a_link : Link
a_link = record { a = 0; b = 0; relation = 0 }

abbrev many : List Link
many = replicate 1537 a_link

pub Holding-once : {w : Words} {P Q : List ℕ → Type 0} {C : Type 0} → ((ws : List ℕ) → P ws → Q ws → C) → Holding w P → Holding w Q → C
Holding-once {w} {P} {Q} {C} both p q = at (below? 1536 w.count)
  where
    long : 1536 < length many
    long = omega (arith, length-replicate 1537 a_link)

    at : (1536 < w.count) ⊎ (w.count ≤ 1536) → C
    at (inl h) = both _ (p.many h many long) (q.many h many long)
    at (inr h) = both _ (p.few h) (q.few h)

-- The program's report -------------------------------------------------------------------------------------------------------

pub report_once : {limits : Limits} {t room out : List ℕ} {r s : ℕ} {room' out' room'' out'' : List ℕ}
    → Reported limits t room out r room' out' → Reported limits t room out s room'' out'' → (r ≡ s) × (room' ≡ room'') × (out' ≡ out'')
report_once = Reported-once
