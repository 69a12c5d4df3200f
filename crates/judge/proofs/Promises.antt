-- What the judge's definition promises: a sheet that passes is the sheet of the stable table, and that sheet passes. So for accepted
-- links, each of their ASes as destination and room enough exactly one sheet passes. The judge's lines go by OneSheet, the bytes by the
-- sheet's round trips. And the contract leaves no choice: any two replies that it allows agree.
--
--   stable_sheet ws d  the sheet of the stable table of the links ws to the destination d
use Prim.Native.Nat.{ℕ, ◌-◌, ◌≤◌}
use mathlib.Core.Path.{◌≡◌, sym, ◌∙◌, ap}
use mathlib.Core.List.{List}
use native.Mathlib.Omega.{arith}
use lib.Dec.{leb, eqb}
use lib.ListN.{length, length-map}
use borrow.Author.Tests.{le-leb}
use Rattle.std.specs.Prelude.{Ok}
use Rattle.rules.specs.Replies.{Verdict}
use Rattle.rules.specs.declared.Limits.{Limits}
use Rattle.rules.specs.declared.Refusal.TheVariants.{OverLimit, NoDestination}
use Rattle.rules.specs.Lists.{In, any_of}
use Rattle.rules.specs.Network.{links_of, ases_of, arcs_of}
use Rattle.rules.specs.Checks.{base_limits, needed_room}
use Rattle.rules.specs.Entry.{unless, fault_of_links, fault_of_destination, fault_of_room}
use Rattle.rules.specs.Solve.{stable_of}
use Rattle.rules.specs.Judge.{Entry, entries_for}
use Rattle.rules.proofs.ListLaws.{member_yes, member_is}
use Rattle.rules.proofs.AcceptedLinks.{links_few}
use Rattle.rules.proofs.LineLaws.{entries_numbers}
use Rattle.rules.proofs.OneSheet.{passing_only, stable_passes}
use Rattle.rules.proofs.VerdictLaws.{both_pass, test_passes}
use Rattle.sheet.specs.Form.{sheet_of, fault_of_form, destination_of, lines_of}
use Rattle.sheet.specs.Sizes.{Below}
use Rattle.sheet.specs.Entries.{judge_reply}
use Rattle.sheet.proofs.RoundTrips.{read_sheet, sheet_read}
use Rattle.sheet.proofs.Promises.{SheetLimits, base_fits}
use Rattle.judge.specs.Judging.{Judged}
use Rattle.judge.proofs.FitLaws.{ases_below, stable_Fits}

abbrev pub stable_lines : List ℕ → ℕ → List Entry
stable_lines ws d = entries_for (stable_of (arcs_of (links_of ws)) d) (ases_of (links_of ws))

abbrev pub stable_sheet : List ℕ → ℕ → List ℕ
stable_sheet ws d = sheet_of d (stable_lines ws d)

-- A sheet that passes ------------------------------------------------------------------------------------------------------

pub record Accepts (ws s : List ℕ) : Type 0 where
  pub named : In (destination_of s) (ases_of (links_of ws))
  pub lines : lines_of s ≡ stable_lines ws (destination_of s)
  pub bytes : Below 256 s → s ≡ stable_sheet ws (destination_of s)

pub judge_Accepts : (limits : Limits) (bound : ℕ) (ws s : List ℕ) (room : ℕ) → judge_reply limits bound ws s room ≡ Ok tt → Accepts ws s
unfolding judge_reply
judge_Accepts limits bound ws s room e =
    let ls = links_of ws in
    let us = ases_of ls in
    let d = destination_of s in
    let links = (both_pass (unless (leb (length s) limits.sheet) OverLimit) _ e).1 in
    let rooms = (both_pass (fault_of_links limits ws) _ links).1 in
    let form = (both_pass (fault_of_room (needed_room (length ls) (length us)) room) _ rooms).1 in
    let dest = both_pass (fault_of_form s) _ form in
    let last = both_pass (fault_of_destination d us) _ dest.1 in
    let has : In d us = member_is d us (test_passes (any_of (eqb d) us) (Ok tt) NoDestination last.0).0 in
    let lines = passing_only ls d has bound (lines_of s) last.1 in
    record { named = has; lines = lines; bytes = λ b. sym (sheet_read s b dest.0) ∙ ap (sheet_of d) lines }

-- The sheet that passes ----------------------------------------------------------------------------------------------------

-- room, links and destination as the judge wants them
pub record Ready (limits : Limits) (bound : ℕ) (ws : List ℕ) (d room : ℕ) : Type 0 where
  pub fits : SheetLimits limits bound
  pub longest : limits.ases - 1 ≤ bound
  pub words : Below 4294967296 ws
  pub links : fault_of_links limits ws ≡ Ok tt
  pub named : In d (ases_of (links_of ws))
  pub enough : needed_room (length (links_of ws)) (length (ases_of (links_of ws))) ≤ room

pub judge_stable : (limits : Limits) (bound : ℕ) (ws : List ℕ) (d room : ℕ) → Ready limits bound ws d room
    → judge_reply limits bound ws (stable_sheet ws d) room ≡ Ok tt
unfolding judge_reply
judge_stable limits bound ws d room r =
    let ls = links_of ws in
    let us = ases_of ls in
    let es = stable_lines ws d in
    let s = stable_sheet ws d in
    let few = links_few limits ws r.links in
    let count : length es ≡ length us = sym (length-map es (λ (e : Entry). e.number)) ∙ ap length (entries_numbers (stable_of (arcs_of ls) d) us) in
    let fields = stable_Fits ws d r.named r.words (omega (arith, r.fits.lines)) in
    let back = read_sheet d es (ases_below 4294967296 ws r.words d r.named) fields (omega (arith, r.fits.lines)) in
    let size = le-leb (length s) limits.sheet (omega (arith, back.size, r.fits.bytes)) in
    let enough = le-leb (needed_room (length ls) (length us)) room r.enough in
    let there = member_yes d us r.named in
    let lines = stable_passes ls d r.named bound (omega (arith, r.longest)) in
    rw (size, r.links, enough, back.form, back.destination, there, back.lines) lines

-- exactly one
pub one_sheet_passes : (limits : Limits) (bound : ℕ) (ws : List ℕ) (d room : ℕ) → Ready limits bound ws d room
    → (s : List ℕ) × (judge_reply limits bound ws s room ≡ Ok tt)
    × ((r : List ℕ) → Below 256 r → destination_of r ≡ d → judge_reply limits bound ws r room ≡ Ok tt → r ≡ s)
one_sheet_passes limits bound ws d room ready = (
  stable_sheet ws d,
  judge_stable limits bound ws d room ready,
  λ r b e p. (judge_Accepts limits bound ws r room p).bytes b ∙ ap (stable_sheet ws) e,
)

-- with the limits that every entry takes
pub ready : (ws : List ℕ) (d room : ℕ) → Below 4294967296 ws → fault_of_links base_limits ws ≡ Ok tt → In d (ases_of (links_of ws))
    → needed_room (length (links_of ws)) (length (ases_of (links_of ws))) ≤ room → Ready base_limits 511 ws d room
ready ws d room b e has enough =
    record { fits = base_fits; longest = omega arith; words = b; links = e; named = has; enough = enough }

-- The contract -------------------------------------------------------------------------------------------------------------

pub Judged-one : {limits : Limits} {bound : ℕ} {ws s room : List ℕ} {r q : Verdict} {after then : List ℕ} → Judged limits bound ws s room r after
    → Judged limits bound ws s room q then → (r ≡ q) × (after ≡ then)
Judged-one j k = (j.replies ∙ sym k.replies, j.zeroed ∙ sym k.zeroed)
