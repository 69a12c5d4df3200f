-- How far a run's numbers go: deliveries and idle choices within the choices and the further deliveries given, and every length
-- within the deliveries made times the largest cost. Each step adds one delivery, and one cost at most.
--
--   CountsOn n r s     run s counts at most n deliveries more than r
--   Within b w         what waits is of length at most b
--   Short b s          every length that state s holds is at most b
use Prim.Native.Nat.{ℕ, zero, suc, ◌≤◌, ◌+◌, ◌*◌}
use mathlib.Core.Path.{◌≡◌, ap}
use mathlib.Core.List.{List, [], ◌∷◌}
use native.Mathlib.Omega.{arith}
use native.Mathlib.Nat.{mul-suc}
use lib.Dec.{eqb}
use lib.ListN.{length}
use Rattle.rules.specs.declared.TypeLength.{TypeLength}
use Rattle.rules.specs.Pairs.{origin_of, same_as}
use Rattle.rules.specs.Lists.{In, changed}
use Rattle.rules.specs.Offers.{Arc, Offer, none, best}
use Rattle.rules.specs.Stable.{Line, own, lost, line_of}
use Rattle.rules.specs.Machine.{Waiting, nothing, waits, State, out_of, send, fresh, elected, receiver, deliver, Run, started, delivered, taken, chosen, Lowest, quiet, on, lowest, onward, further, run_of}
use Rattle.rules.proofs.Tests.{by_cond}
use Rattle.rules.proofs.BestLaws.{Source, nowhere, from_arc, best_is, best_Source}
use Rattle.rules.proofs.MachineRuns.{by_run}

-- Counts ------------------------------------------------------------------------------------------------------------------

-- s counts at most n deliveries more than r, and no idle choice more
pub record CountsOn (n : ℕ) (r s : Run) : Type 0 where
  pub no_fewer : r.made ≤ s.made
  pub at_most : s.made ≤ r.made + n
  pub none_idle : s.idle ≡ r.idle

module _ (net : List Arc) (d : ℕ) where
  taken_counts : (r : Run) (i : ℕ) (w : Waiting) → (taken net d i r w).made + (taken net d i r w).idle ≡ suc (r.made + r.idle)
  taken_counts r i nothing = omega arith
  taken_counts r i (waits p) = omega arith

  -- every choice is a delivery or idle
  pub chosen_counts : (choices : List ℕ) (r : Run)
      → (chosen net d choices r).made + (chosen net d choices r).idle ≡ length choices + (r.made + r.idle)
  unfolding chosen
  chosen_counts [] r = omega arith
  chosen_counts (i ∷ choices) r =
      omega (arith, chosen_counts choices (taken net d i r (r.state.waiting i)), taken_counts r i (r.state.waiting i))

  pub further_counts : (n : ℕ) (r : Run) → CountsOn n r (further net d n r)
  unfolding further
  further_counts zero r = omega arith
  further_counts (suc n) r = go (λ s. further_counts n s) (lowest net r.state.waiting)
    where
      go : ((s : Run) → CountsOn n s (further net d n s)) → (g : Lowest) → CountsOn (suc n) r (onward net d (further net d n) r g)
      go next quiet = omega arith
      go next (on i p) = (let c = next (delivered net d i p r) in omega arith)

  pub run_counts : (choices : List ℕ) (n : ℕ)
      → ((run_of net d choices n).made ≤ length choices + n) × ((run_of net d choices n).idle ≤ length choices)
  unfolding run_of started
  run_counts choices n =
      let c = further_counts n (chosen net d choices (started net d)) in
      omega (arith, chosen_counts choices (started net d))

-- Lengths -----------------------------------------------------------------------------------------------------------------

abbrev pub Within : ℕ → Waiting → Type 0
Within b nothing = Unit {0}
Within b (waits p) = p.length ≤ b

pub record Short (b : ℕ) (s : State) : Type 0 where
  pub held : (i : ℕ) → (s.held i).length ≤ b
  pub waiting : (i : ℕ) → Within b (s.waiting i)
  pub lines : (u : ℕ) → (s.lines u).pair.length ≤ b

Short-more : (b c : ℕ) (s : State) → Short b s → Short (b + c) s
Short-more b c s h =
    record {
      held = λ i. omega (arith, h.held i);
      waiting = λ i. more (s.waiting i) (h.waiting i);
      lines = λ u. omega (arith, h.lines u);
    }
  where
    more : (w : Waiting) → Within b w → Within (b + c) w
    more nothing k = tt
    more (waits p) k = omega arith

pub by_changed : {A : Type 0} (P : A → Type 0) (f : ℕ → A) (k : ℕ) (x : A) → P x → (i : ℕ) → P (f i) → P (changed f k x i)
unfolding changed
by_changed P f k x h i g = by_cond P (eqb i k) x (f i) (λ e. h) (λ e. g)

send_within : (net : List Arc) (b u : ℕ) (p : TypeLength) (w : ℕ → Waiting) → p.length ≤ b
    → ((i : ℕ) → Within b (w i)) → (i : ℕ) → Within b (send net u p w i)
unfolding send
send_within net b u p w h k i = by_cond (Within b) (out_of net u i) (waits p) (w i) (λ t. h) (λ t. k i)

pub fresh-Short : (net : List Arc) (d b : ℕ) → Short b (fresh net d)
unfolding fresh own lost
fresh-Short net d b =
    record {
      held = λ i. omega arith;
      waiting = send_within net b d origin_of (λ i. nothing) (omega arith) (λ i. tt);
      lines = λ u. by_changed (λ (l : Line). l.pair.length ≤ b) lost d (own d) (omega arith) u (omega arith);
    }

module _ (net : List Arc) (d : ℕ) (c : ℕ) (most : (a : Arc) → In a net → a.cost ≤ c) where
  pub best_short : (b : ℕ) (told : Arc → TypeLength) → ((a : Arc) → (told a).length ≤ b) → (u : ℕ) → (best told u net).pair.length ≤ b + c
  unfolding none
  best_short b told h u = go (best_Source (best_is told u net))
    where
      go : {o : Offer} → Source told u net o → o.pair.length ≤ b + c
      go (nowhere e) = omega (arith, ap (λ (x : Offer). x.pair.length) e)
      go (from_arc a m i v) = omega (arith, v.long, h a, most a m)

  elected-Short : (b u : ℕ) (s : State) → Short b s → Short (b + c) (elected net d u s)
  unfolding elected
  elected-Short b u s h =
      by_cond (Short (b + c)) (eqb u d) s _ (λ e. more)
      (λ e. record {
        held = more.held;
        waiting =
            by_cond (λ (w : ℕ → Waiting). (i : ℕ) → Within (b + c) (w i)) (same_as (s.lines u).pair o.pair) s.waiting _
            (λ f. more.waiting) (λ f. send_within net (b + c) u o.pair s.waiting short more.waiting);
        lines = λ v. by_changed (λ (l : Line). l.pair.length ≤ b + c) s.lines u (line_of o) short v (more.lines v);
      })
    where
      more : Short (b + c) s
      more = Short-more b c s h

      o : Offer
      o = best (λ a. s.held a.direction) u net

      short : o.pair.length ≤ b + c
      short = best_short b (λ a. s.held a.direction) (λ a. h.held a.direction) u

  pub deliver-Short : (b i : ℕ) (p : TypeLength) (s : State) → Short b s → s.waiting i ≡ waits p → Short (b + c) (deliver net d i p s)
  unfolding deliver
  deliver-Short b i p s h e =
      elected-Short b (receiver net i) _
      (record {
        held = λ j. by_changed (λ (q : TypeLength). q.length ≤ b) s.held i p (rw e at (h.waiting i)) j (h.held j);
        waiting = λ j. by_changed (Within b) s.waiting i nothing tt j (h.waiting j);
        lines = h.lines;
      })

  -- a length never exceeds the deliveries made, times the largest cost
  pub length_deliveries : (choices : List ℕ) (n : ℕ) → Short (c * (run_of net d choices n).made) (run_of net d choices n).state
  unfolding started
  length_deliveries = by_run net d (λ r. Short (c * r.made) r.state) step (fresh-Short net d (c * 0))
    where
      step : (r : Run) (i : ℕ) (w : Waiting) → r.state.waiting i ≡ w → Short (c * r.made) r.state
          → Short (c * (taken net d i r w).made) (taken net d i r w).state
      step r i nothing e h = h
      step r i (waits p) e h = rw mul-suc (deliver-Short (c * r.made) i p r.state h e)
