-- Runs, step by step: a choice more, a further delivery more, and the lowest waiting direction as the room shows it. What a step makes
-- of the words is what the definition makes of every run that they hold.
use Prim.Native.Nat.{ℕ, zero, suc, ◌+◌, ◌-◌, ◌*◌, ◌≤◌, ◌<◌}
use mathlib.Core.Path.{◌≡◌, refl, sym, ◌∙◌, ap}
use mathlib.Core.Logic.{◌≢◌}
use mathlib.Core.List.{List, [], ◌∷◌, ◌++◌}
use native.Mathlib.Omega.{arith}
use native.Mathlib.Numerals.{add-one}
use native.Mathlib.Decide.{ℕ_discrete}
use lib.ListN.{length, get_or, take}
use lib.Seq.{take-suc, length-take-le}
use borrow.Author.Tests.{ne_eqb}
use Rattle.rules.specs.declared.TypeLength.{TypeLength}
use Rattle.rules.specs.Lists.{In}
use Rattle.rules.specs.Offers.{Arc}
use Rattle.rules.specs.Network.{links_of}
use Rattle.rules.specs.Machine.{Waiting, nothing, waits, State, Run, delivered, taken, chosen, Lowest, quiet, on, lowest, lowest_or, onward, further}
use Rattle.rules.proofs.ArcLaws.{Numbered, numbered_range, arcs_Numbered, arcs_length, arcs_cost, direction_unique}
use Rattle.rules.proofs.MachineLaws.{deliver-Sound}
use Rattle.rules.proofs.MachineRuns.{lowest-quiet}
use Rattle.rules.proofs.MachineCounts.{deliver-Short}
use Rattle.machine.specs.declared.Counts.{Counts}
use Rattle.machine.specs.Room.{pair_of, wait_of, waiting_word, net_of, as_at, Laid, Holds}
use Rattle.machine.specs.Steps.{NoneWaits, FirstWaits, Delivered}
use Rattle.machine.specs.Runs.{no_counts, Reached, Chose, ChoseAll, WentOn}

-- The definition, one more at the end ---------------------------------------------------------------------------------------

module _ (net : List Arc) (d : ℕ) where
  chosen-append : (xs ys : List ℕ) (run : Run) → chosen net d (xs ++ ys) run ≡ chosen net d ys (chosen net d xs run)
  unfolding chosen
  chosen-append [] ys run = refl
  chosen-append (x ∷ xs) ys run = chosen-append xs ys (taken net d x run (run.state.waiting x))

  pub chosen_more : (cs : List ℕ) (i : ℕ) → i < length cs → (run : Run)
      → chosen net d (take (i + 1) cs) run
      ≡ taken net d (get_or cs i 0) (chosen net d (take i cs) run) ((chosen net d (take i cs) run).state.waiting (get_or cs i 0))
  unfolding chosen
  chosen_more cs i h run =
      rw (add-one, take-suc cs i 0) (chosen-append (take i cs) (get_or cs i 0 ∷ []) run)

  further_end : (n : ℕ) (run : Run)
      → further net d (suc n) run ≡ onward net d (λ x. x) (further net d n run) (lowest net (further net d n run).state.waiting)
  unfolding further
  further_end zero run = go (lowest net run.state.waiting)
    where
      go : (g : Lowest) → onward net d (further net d zero) run g ≡ onward net d (λ x. x) run g
      go quiet = refl
      go (on i p) = refl
  further_end (suc n) run = go (λ x. further_end n x) (lowest net run.state.waiting) refl
    where
      End : Run → Type 0
      End x = further net d (suc n) x ≡ onward net d (λ y. y) (further net d n x) (lowest net (further net d n x).state.waiting)

      go : ((x : Run) → End x) → (g : Lowest) → lowest net run.state.waiting ≡ g → onward net d (further net d (suc n)) run g
          ≡ onward net d (λ x. x) (onward net d (further net d n) run g) (lowest net (onward net d (further net d n) run g).state.waiting)
      go rest quiet e = rw e
      go rest (on i p) e = rest (delivered net d i p run)

  pub further_more : (n : ℕ) (run : Run) (k : ℕ) (p : TypeLength) → lowest net (further net d n run).state.waiting ≡ on k p
      → further net d (n + 1) run ≡ delivered net d k p (further net d n run)
  further_more n run k p e =
      rw add-one (further_end n run ∙ ap (onward net d (λ x. x) (further net d n run)) e)

  -- where nothing waits no more deliveries are made
  further_still : (n e : ℕ) (run : Run) → lowest net (further net d n run).state.waiting ≡ quiet
      → further net d (e + n) run ≡ further net d n run
  further_still n zero run q = (let f : 0 + n ≡ n = omega arith in rw f)
  further_still n (suc e) run q =
      let s = further_still n e run q in
      let f : suc e + n ≡ suc (e + n) = omega arith in
      rw f (further_end (e + n) run)
      ∙ ap (onward net d (λ x. x) (further net d (e + n) run)) (ap (λ (x : Run). lowest net x.state.waiting) s ∙ q) ∙ s

  pub further-quiet : (n most : ℕ) → n ≤ most → (run : Run) → lowest net (further net d n run).state.waiting ≡ quiet
      → further net d most run ≡ further net d n run
  further-quiet n most h run q =
      let f : most ≡ (most - n) + n = omega arith in
      ap (λ (k : ℕ). further net d k run) f ∙ further_still n (most - n) run q

-- the lowest waiting direction, where directions are numbered in list order
pub lowest-on : (n : ℕ) (net : List Arc) (w : ℕ → Waiting) → Numbered n net → (k : ℕ) (p : TypeLength) → n ≤ k → k < n + length net
    → ((j : ℕ) → n ≤ j → j < k → w j ≡ nothing) → w k ≡ waits p → lowest net w ≡ on k p
unfolding lowest
lowest-on n [] w h k p l g none some = absurd (omega arith)
lowest-on n (a ∷ net) w h k p l g none some = rw h.0 (go (ℕ_discrete n k) (lowest-on (suc n) net w h.1 k p))
  where
    go : Dec (n ≡ k) → (suc n ≤ k → k < suc n + length net → ((j : ℕ) → suc n ≤ j → j < k → w j ≡ nothing) → w k ≡ waits p → lowest net w ≡ on k p)
        → lowest_or n (lowest net w) (w n) ≡ on k p
    go (yes e) rest = rw (e, some)
    go (no ne) rest = rw (none n (omega arith) (omega arith)) (rest (omega arith) (omega arith) (λ j i. none j (omega arith)) some)

-- What the room shows --------------------------------------------------------------------------------------------------------

module _ {ws : List ℕ} {m : ℕ} {rest : List ℕ} {s : State} {t r : List ℕ} (l : Laid ws m t r) (h : Holds ws m rest s t r) where
  idle_here : (k : ℕ) → k < 2 * m → waiting_word m r k ≡ 0 → s.waiting k ≡ nothing
  idle_here k i e = sym (h.waiting k i) ∙ ap wait_of e

  waits_here : (k : ℕ) → k < 2 * m → waiting_word m r k ≢ 0 → s.waiting k ≡ waits (pair_of (waiting_word m r k))
  waits_here k i ne = sym (h.waiting k i) ∙ rw (ne_eqb (waiting_word m r k) 0 ne)

  pub quiet_here : NoneWaits m r 0 (2 * m) → lowest (net_of ws) s.waiting ≡ quiet
  quiet_here f =
      (lowest-quiet (net_of ws) s).1
      (λ a i.
      let range = numbered_range 0 (net_of ws) (arcs_Numbered 0 (links_of ws)) a i in
      let inside : a.direction < 2 * m = omega (arith, arcs_length 0 (links_of ws), l.links) in
      idle_here a.direction inside (f.none a.direction (omega arith) inside inside))

  pub lowest_here : (k : ℕ) → FirstWaits m r 0 (2 * m) k → lowest (net_of ws) s.waiting ≡ on k (pair_of (waiting_word m r k))
  lowest_here k f =
      lowest-on 0 (net_of ws) s.waiting (arcs_Numbered 0 (links_of ws)) k (pair_of (waiting_word m r k)) (omega arith)
      (omega (arith, arcs_length 0 (links_of ws), l.links, f.direction)) (λ j z i. idle_here j (omega (arith, f.direction)) (f.none j (omega arith) i)) (waits_here k f.direction f.some)

-- One step of every run that is held -----------------------------------------------------------------------------------------

module _ {ws : List ℕ} {m d k : ℕ} {t r t' r' : List ℕ} (g : Delivered ws m d k t r t' r') where
  Reached-on : {rest : List ℕ} {run : Run} {c : Counts} → Reached ws m d rest run c t r → c.made < 262144
      → (p : TypeLength) → run.state.waiting k ≡ waits p
      → Reached ws m d rest (delivered (net_of ws) (as_at ws d) k p run) (record { made = c.made + 1; idle = c.idle }) t' r'
  Reached-on {rest} {run} {c} h few p e =
      let s = run.state in
      let b = run.made in
      let most : (a : Arc) → In a (net_of ws) → a.cost ≤ 1 = (λ a i. omega (arith, arcs_cost (links_of ws) a i)) in
      let long : p.length ≤ b = rw e at (h.short.waiting k) in
      record {
        holds = g.after rest s p b h.holds h.sound e h.short.held long (omega (arith, h.made));
        sound = deliver-Sound (net_of ws) (direction_unique (links_of ws)) (as_at ws d) k p s h.sound e;
        short = rw add-one at (deliver-Short (net_of ws) (as_at ws d) 1 most b k p s h.short e);
        made = omega (arith, h.made);
        idle = h.idle;
      }

module _ {ws : List ℕ} {m d k : ℕ} {c : Counts} {t r : List ℕ} (laid : Laid ws m t r) (inside : k < 2 * m) where
  pub Chose-idle : waiting_word m r k ≡ 0 → Chose ws m d k c t r (record { made = c.made; idle = c.idle + 1 }) t r
  Chose-idle e =
      record {
        counts = omega arith;
        after = λ rest run h.
            rw (idle_here laid h.holds k inside e)
            (record { holds = h.holds; sound = h.sound; short = h.short; made = h.made; idle = omega (arith, h.idle) });
      }

  pub Chose-Delivered : waiting_word m r k ≢ 0 → c.made < 262144 → {t' r' : List ℕ} → Delivered ws m d k t r t' r'
      → Chose ws m d k c t r (record { made = c.made + 1; idle = c.idle }) t' r'
  Chose-Delivered ne few d' =
      record {
        counts = omega arith;
        after = λ rest run h.
            let e = waits_here laid h.holds k inside ne in
            rw e (Reached-on d' h few (pair_of (waiting_word m r k)) e);
      }

-- One choice more -------------------------------------------------------------------------------------------------------------

module _ {ws : List ℕ} {m d : ℕ} {t r : List ℕ} where
  pub chose_none : ChoseAll ws m d [] t r no_counts t r
  unfolding chosen
  chose_none = record { counts = refl; after = λ rest run h. h }

  pub Chose-more : (cs : List ℕ) (i : ℕ) {c : Counts} {u v : List ℕ} → ChoseAll ws m d (take i cs) t r c u v → i < length cs
      → {k : ℕ} → k ≡ get_or cs i 0 → {c' : Counts} {u' v' : List ℕ} → Chose ws m d k c u v c' u' v'
      → ChoseAll ws m d (take (i + 1) cs) t r c' u' v'
  Chose-more cs i g h e s =
      record {
        counts = omega (arith, s.counts, g.counts, length-take-le i cs (omega arith), length-take-le (i + 1) cs (omega arith));
        after = λ rest run f. rw (chosen_more (net_of ws) (as_at ws d) cs i h run, ← e) (s.after rest _ (g.after rest run f));
      }

  -- idle choices one after the other, which leave the words as they are
  chose_idles : (cs : List ℕ) (i n : ℕ) {c : Counts} {u v : List ℕ} → Laid ws m u v → ChoseAll ws m d (take i cs) t r c u v → i + n ≤ length cs
      → ((j : ℕ) → j < n → get_or cs (i + j) 0 < 2 * m) → ((j : ℕ) → j < n → waiting_word m v (get_or cs (i + j) 0) ≡ 0)
      → ChoseAll ws m d (take (i + n) cs) t r (record { made = c.made; idle = c.idle + n }) u v
  chose_idles cs i zero {c} laid g h inside none =
      let e : i + 0 ≡ i = omega arith in
      let f : c.idle + 0 ≡ c.idle = omega arith in
      rw (e, f) g
  chose_idles cs i (suc n) {c} laid g h inside none =
      let before = chose_idles cs i n laid g (omega arith) (λ j l. inside j (omega arith)) (λ j l. none j (omega arith)) in
      let one = Chose-more cs (i + n) before (omega arith) refl (Chose-idle laid (inside n (omega arith)) (none n (omega arith))) in
      let e : i + suc n ≡ i + n + 1 = omega arith in
      let f : c.idle + suc n ≡ c.idle + n + 1 = omega arith in
      rw (e, f) one

  pub Chose-idle_to : (cs : List ℕ) (i n : ℕ) {c : Counts} {u v : List ℕ} → Laid ws m u v → ChoseAll ws m d (take i cs) t r c u v → i ≤ n → n ≤ length cs
      → ((j : ℕ) → j < length cs → get_or cs j 0 < 2 * m) → ((j : ℕ) → i ≤ j → j < n → waiting_word m v (get_or cs j 0) ≡ 0)
      → ChoseAll ws m d (take n cs) t r (record { made = c.made; idle = c.idle + (n - i) }) u v
  Chose-idle_to cs i n laid g from to inside none =
      let e : i + (n - i) ≡ n = omega (arith, from) in
      rw e at
      (chose_idles cs i (n - i) laid g (omega (arith, from, to)) (λ j l. inside (i + j) (omega (arith, from, to))) (λ j l. none (i + j) (omega arith) (omega (arith, from))))

  -- One further delivery more -----------------------------------------------------------------------------------------------------

  pub went_none : (c : Counts) → WentOn ws m d 0 c t r c t r
  unfolding further
  went_none c = record { after = λ rest run h. h }

  module _ {i : ℕ} {b c : Counts} {u v : List ℕ} (g : WentOn ws m d i b t r c u v) (laid : Laid ws m u v) where
    pub went_more : {k : ℕ} → FirstWaits m v 0 (2 * m) k → c.made < 262144 → {u' v' : List ℕ} → Delivered ws m d k u v u' v'
        → WentOn ws m d (i + 1) b t r (record { made = c.made + 1; idle = c.idle }) u' v'
    went_more {k} s few p =
        record {
          after = λ rest run e.
              let now = g.after rest run e in
              rw (further_more (net_of ws) (as_at ws d) i run k _ (lowest_here laid now.holds k s))
              (Reached-on p now few _ (waits_here laid now.holds k s.direction s.some));
        }

    pub went_quiet : NoneWaits m v 0 (2 * m) → {n : ℕ} → i ≤ n → WentOn ws m d n b t r c u v
    went_quiet h {n} l =
        record {
          after = λ rest run e.
              let now = g.after rest run e in
              rw (further-quiet (net_of ws) (as_at ws d) i n l run (quiet_here laid now.holds h)) now;
        }
