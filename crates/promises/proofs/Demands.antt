-- What the entries promise together, for every accepted list of link words and each of its ASes as destination: the stable table, the
-- judge and the machine speak of one sheet.
--
--   table_words        the stable table's entry writes the words of the stable routing
--   quiet_sheet_passes whenever a run reports quiet, the sheet of its lines passes the judge
use Prim.Native.Nat.{ℕ, ◌≤◌}
use mathlib.Core.Path.{◌≡◌, sym, subst}
use mathlib.Core.Bool.{true}
use mathlib.Core.List.{List}
use lib.ListN.{length}
use Rattle.std.specs.Prelude.{Ok}
use Rattle.rules.specs.declared.Link.{Link}
use Rattle.rules.specs.Lists.{In}
use Rattle.rules.specs.Network.{links_of, ases_of, arcs_of}
use Rattle.rules.specs.Checks.{base_limits, needed_room}
use Rattle.rules.specs.Entry.{fault_of_links}
use Rattle.rules.specs.Stable.{Routing, table_of}
use Rattle.rules.specs.Solve.{stable_of}
use Rattle.rules.specs.Judge.{entries_for}
use Rattle.rules.specs.Machine.{run_of, lowest, is_quiet}
use Rattle.rules.proofs.ArcLaws.{arcs_positive, direction_unique}
use Rattle.rules.proofs.MachineRuns.{run_quiet}
use Rattle.table.specs.Entries.{StableTable}
use Rattle.table.proofs.StableLaws.{stable_words}
use Rattle.sheet.specs.Form.{sheet_of}
use Rattle.sheet.specs.Sizes.{Below}
use Rattle.sheet.specs.Entries.{judge_reply}
use Rattle.judge.proofs.Promises.{judge_stable, ready}

-- the words of a stable routing are those of the computed one
pub table_words : (ls : List Link) (d : ℕ) (ws : List ℕ) → StableTable ls d ws → ws ≡ table_of (stable_of (arcs_of ls) d) (ases_of ls)
table_words = stable_words

-- 'Whenever the machine, started fresh, has nothing waiting, under every choice of deliveries, its sheet passes.'
pub quiet_sheet_passes : (ws : List ℕ) (d : ℕ) (choices : List ℕ) (further room : ℕ) → Below 4294967296 ws → fault_of_links base_limits ws ≡ Ok tt
    → In d (ases_of (links_of ws)) → needed_room (length (links_of ws)) (length (ases_of (links_of ws))) ≤ room
    → is_quiet (lowest (arcs_of (links_of ws)) (run_of (arcs_of (links_of ws)) d choices further).state.waiting) ≡ true
    → judge_reply base_limits 511 ws (sheet_of d (entries_for (run_of (arcs_of (links_of ws)) d choices further).state.lines (ases_of (links_of ws)))) room ≡ Ok tt
quiet_sheet_passes ws d choices further room below accepted has enough quiet =
    let ls = links_of ws in
    let net = arcs_of ls in
    let same = run_quiet net (direction_unique ls) (arcs_positive ls) d choices further quiet in
    let passes = judge_stable base_limits 511 ws d room (ready ws d room below accepted has enough) in
    subst (λ (R : Routing). judge_reply base_limits 511 ws (sheet_of d (entries_for R (ases_of ls))) room ≡ Ok tt) (sym same) passes
