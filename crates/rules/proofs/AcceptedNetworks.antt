-- From lists to theory: all that is promised of a list of link words that is accepted, in one place. Each part cites its theorem.
use Prim.Native.Nat.{ℕ, ◌-◌, ◌≤◌}
use mathlib.Core.Path.{◌≡◌}
use mathlib.Core.Logic.{◌↔◌}
use mathlib.Core.Bool.{true}
use mathlib.Core.List.{List}
use native.Mathlib.Omega.{arith}
use lib.ListN.{length}
use Rattle.std.specs.Prelude.{Ok}
use Rattle.rules.specs.declared.Limits.{Limits}
use Rattle.rules.specs.Lists.{In, Distinct}
use Rattle.rules.specs.Offers.{Arc}
use Rattle.rules.specs.Network.{links_of, ases_of, arcs_of}
use Rattle.rules.specs.Checks.{check_words}
use Rattle.rules.specs.Stable.{Routing, Stable}
use Rattle.rules.specs.Solve.{stable_of}
use Rattle.rules.specs.Walks.{Leads, Permitted, Followed}
use Rattle.rules.specs.Machine.{run_of, lowest, is_quiet}
use Rattle.rules.specs.Judge.{Entry, judge}
use Rattle.rules.proofs.Faces.{typ, len}
use Rattle.rules.specs.Ascending.{Ascending}
use Rattle.rules.proofs.BestLaws.{Ranked}
use Rattle.rules.proofs.StableFaces.{stable_Settled}
use Rattle.rules.proofs.Exists.{exactly_one}
use Rattle.rules.proofs.WalkLaws.{followed, lost_iff, length_below}
use Rattle.rules.proofs.NetworkLaws.{ases_Ascending, ases_Distinct}
use Rattle.rules.proofs.ArcLaws.{arcs_ends, arcs_cost, arcs_positive, Directed, direction_unique}
use Rattle.rules.proofs.AcceptedLinks.{check_words-Accepted, rank_unique}
use Rattle.rules.proofs.MachineRuns.{run_quiet}
use Rattle.rules.proofs.OneSheet.{one_sheet}

-- n ASes, named by the links of ws
pub record AcceptedNetwork (limits : Limits) (ws : List ℕ) (n : ℕ) : Type 0 where
  -- the ASes ascend, so none stands twice, and are as many as the reply says; arcs join them
  pub count : n ≡ length (ases_of (links_of ws))
  pub few : n ≤ limits.ases
  pub ascending : Ascending (ases_of (links_of ws))
  pub distinct : Distinct (ases_of (links_of ws))
  pub ends : (a : Arc) → In a (arcs_of (links_of ws)) → In a.hearer (ases_of (links_of ws)) × In a.neighbour (ases_of (links_of ws))
  -- ranks of one hearer differ, so the best offer is one; directions differ
  pub ranked : Ranked (arcs_of (links_of ws))
  pub directed : Directed (arcs_of (links_of ws))
  -- exactly one routing is stable
  pub one_stable : (d : ℕ) → (R : Routing) × Stable (arcs_of (links_of ws)) d R × ((S : Routing) → Stable (arcs_of (links_of ws)) d S → S ≡ R)
  -- following it arrives; unreachable is where no permitted walk leads; lengths are below the number of ASes
  pub follows : (d : ℕ) (R : Routing) → Stable (arcs_of (links_of ws)) d R → (u : ℕ) → typ R u ≤ 3 → Followed (λ a. In a (arcs_of (links_of ws))) d R u
  pub lost : (d : ℕ) (R : Routing) → Stable (arcs_of (links_of ws)) d R → (u : ℕ)
      → (typ R u ≡ 4) ↔ ((w : List Arc) → Leads (λ a. In a (arcs_of (links_of ws))) w u d → Permitted w → ⊥)
  pub short : (d : ℕ) (R : Routing) → Stable (arcs_of (links_of ws)) d R → (u : ℕ) → len R u ≤ n - 1
  -- for each AS as destination exactly one sheet passes
  pub one_passes : (d : ℕ) → In d (ases_of (links_of ws))
      → (es : List Entry) × (judge (links_of ws) d (limits.ases - 1) es ≡ Ok tt)
      × ((fs : List Entry) → judge (links_of ws) d (limits.ases - 1) fs ≡ Ok tt → fs ≡ es)
  -- whenever the machine, started fresh, has nothing waiting, its lines are the stable ones
  pub quiet : (d : ℕ) (choices : List ℕ) (further : ℕ)
      → is_quiet (lowest (arcs_of (links_of ws)) (run_of (arcs_of (links_of ws)) d choices further).state.waiting) ≡ true
      → (run_of (arcs_of (links_of ws)) d choices further).state.lines ≡ stable_of (arcs_of (links_of ws)) d

pub Accepted-network : (limits : Limits) (ws : List ℕ) (n : ℕ) → check_words limits ws ≡ Ok n → AcceptedNetwork limits ws n
Accepted-network limits ws n accepted =
    let ls = links_of ws in
    let net = arcs_of (links_of ws) in
    let Has : Arc → Type 0 = (λ a. In a net) in
    let pos = arcs_positive ls in
    let facts = (check_words-Accepted limits ws n accepted).1 in
    record {
      count = facts.count;
      few = facts.few_ases;
      ascending = ases_Ascending ls;
      distinct = ases_Distinct ls;
      ends = arcs_ends ls;
      ranked = rank_unique ls facts.sound;
      directed = direction_unique ls;
      one_stable = exactly_one net pos;
      follows = λ d R s. followed Has pos d R (stable_Settled net d R s);
      lost = λ d R s. lost_iff Has pos d R (stable_Settled net d R s);
      short = λ d R s u. omega (arith, facts.count, length_below Has pos d R (stable_Settled net d R s) (ases_of ls) (arcs_ends ls) (arcs_cost ls) u);
      one_passes = λ d has. one_sheet ls d has (limits.ases - 1) (omega (arith, facts.count, facts.few_ases));
      quiet = run_quiet net (direction_unique ls) pos;
    }
