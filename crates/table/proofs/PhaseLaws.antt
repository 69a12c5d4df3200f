-- Gains over a table: each keeps the table's frame and its lengths within the cap, and lowers its height; a whole pass that gains
-- nothing finds every way calm. By one step, and along the gains.
use Prim.Native.Nat.{ℕ, zero, suc, ◌+◌, ◌*◌, ◌/◌, ◌≤◌, ◌<◌}
use mathlib.Core.Path.{◌≡◌, refl, ◌∙◌, ap}
use mathlib.Core.Logic.{◌≢◌}
use mathlib.Core.Bool.{Bool, true, false, cond, ◌||◌}
use mathlib.Core.List.{List}
use native.Mathlib.Omega.{arith}
use native.Mathlib.Nat.{lt_trans}
use native.Mathlib.Decide.{ℕ_discrete}
use borrow.Author.Count.{below_more}
use borrow.Author.Tests.{eq-eqb, ne_eqb}
use lib.Dec.{eqb}
use lib.ListN.{length}
use Rattle.rules.specs.declared.TypeLength.{TypeLength}
use Rattle.rules.specs.declared.Link.{Link}
use Rattle.rules.specs.Network.{links_of, ases_of}
use Rattle.offers.specs.declared.Way.{Way}
use Rattle.offers.specs.Lines.{type_word, length_word, entry_pair}
use Rattle.offers.specs.Ways.{way_of_direction}
use Rattle.offers.specs.Steps.{Placed}
use Rattle.offers.proofs.PlaceLaws.{Placed-long}
use Rattle.offers.proofs.WayLaws.{way_arc}
use Rattle.table.specs.Guess.{Framed}
use Rattle.table.specs.Phases.{offered_at, wants, heard_over, Joins, Taken, Reached, begun, gained, CalmBelow, weight, sum, height, Moved, Short, Ready, Passed, Settled}
use Rattle.table.specs.PhaseSteps.{Stays}
use Rattle.table.specs.declared.phases.Settling.{Settling}
use Rattle.table.proofs.LineLaws.{put_pair, put_other_pair, Framed-put, Framed-same, Framed-more}
use Rattle.table.proofs.CloseLaws.{Gain, gains_means}

-- Sums ---------------------------------------------------------------------------------------------------------------------

-- of two functions that agree but at p, where the one is less
pub sum_falls : (f g : ℕ → ℕ) (p : ℕ) → ((i : ℕ) → i ≢ p → g i ≡ f i) → g p < f p → (n : ℕ)
    → (sum g n ≤ sum f n) × (p < n → sum g n < sum f n)
unfolding sum
sum_falls f g p other less zero = (omega arith, λ l. omega arith)
sum_falls f g p other less (suc n) =
    let h = sum_falls f g p other less n in
    at (ℕ_discrete n p) h
  where
    at : Dec (n ≡ p) → (sum g n ≤ sum f n) × (p < n → sum g n < sum f n)
        → (sum g n + g n ≤ sum f n + f n) × (p < suc n → sum g n + g n < sum f n + f n)
    at (yes e) h = (let x = ap f e in let y = ap g e in (omega arith, λ l. omega arith))
    at (no ne) h = (let o = other n ne in (omega arith, λ l. omega (arith, h.1 (omega arith))))

-- One gain -----------------------------------------------------------------------------------------------------------------

module _ (f cap n : ℕ) (t : List ℕ) (w : Way) (room : 4 * n ≤ length t) (within : w.hearer < n) (want : wants f cap t w ≡ true) where
  abbrev who : ℕ
  who = w.hearer

  abbrev u : List ℕ
  u = heard_over t w

  gain : Gain f cap (offered_at t w) (entry_pair t who)
  gain = gains_means f cap (offered_at t w) (entry_pair t who) want

  pub gain_pair : entry_pair u who ≡ offered_at t w
  gain_pair = put_pair t who _ (omega arith)

  pub gain_other : (i : ℕ) → i ≢ who → entry_pair u i ≡ entry_pair t i
  gain_other = put_other_pair t who _

  pub gain_Framed : Framed n t u
  gain_Framed = Framed-put n t who (offered_at t w) room within

  pub gain_Short : Short cap n t → Short cap n u
  gain_Short s i l = at (ℕ_discrete i who)
    where
      at : Dec (i ≡ who) → length_word u i ≤ cap
      at (yes e) = omega (arith, ap (length_word u) e, ap (λ (p : TypeLength). p.length) gain_pair, gain.short)
      at (no ne) = omega (arith, ap (λ (p : TypeLength). p.length) (gain_other i ne), s i l)

  -- the hearer's weight falls, and no other's changes
  lighter : weight f cap u who < weight f cap t who
  lighter =
      let p = ap (λ (p : TypeLength). p.typ) gain_pair in
      let q = ap (λ (p : TypeLength). p.length) gain_pair in
      let g = gain in
      let e = eq-eqb (type_word u who) f (omega (arith, g.typ)) in
      at p q g e (ℕ_discrete (type_word t who) f)
    where
      at : type_word u who ≡ (offered_at t w).typ → length_word u who ≡ (offered_at t w).length → Gain f cap (offered_at t w) (entry_pair t who)
          → eqb (type_word u who) f ≡ true → Dec (type_word t who ≡ f) → weight f cap u who < weight f cap t who
      at p q g e (yes s) = simp (e, eq-eqb (type_word t who) f s) (omega (arith, g.less s))
      at p q g e (no ne) = simp (e, ne_eqb (type_word t who) f ne) (omega (arith, g.short))

  alike : (i : ℕ) → i ≢ who → weight f cap u i ≡ weight f cap t i
  alike i ne = ap (λ (p : TypeLength). cond (eqb p.typ f) p.length (suc cap)) (gain_other i ne)

  pub gain_falls : height f cap n u < height f cap n t
  gain_falls = (sum_falls (weight f cap t) (weight f cap u) who alike lighter n).1 within

-- Gains along the ways -----------------------------------------------------------------------------------------------------

module _ {way : ℕ → Way} {e f cap : ℕ} where
  -- what a gain keeps, gains keep
  pub Reached-keeps : (P : List ℕ → Type 0) {t u : List ℕ}
      → ((v : List ℕ) (k : ℕ) → k < e → wants f cap v (way k) ≡ true → P v → P (heard_over v (way k)))
      → Reached way e f cap t u → P t → P u
  Reached-keeps P step begun p = p
  Reached-keeps P step (gained v k r l w) p = step v k l w (Reached-keeps P step r p)

  pub Reached-more : {t u v : List ℕ} → Reached way e f cap t u → Reached way e f cap u v → Reached way e f cap t v
  Reached-more r begun = r
  Reached-more r (gained v k s l w) = gained v k (Reached-more r s) l w

-- What a pass keeps and says -----------------------------------------------------------------------------------------------

module _ {ls : List Link} {ps : List ℕ} {f cap : ℕ} where
  pub passed_none : (t : List ℕ) → Passed ls ps 0 f cap t t false
  passed_none t = record { reached = begun; moved = (refl, λ j l. absurd (omega arith)) }

  -- one way more
  pub Passed-more : (placed : Placed ls ps) (k : ℕ) → k < 2 * length ls → {t u v : List ℕ} → 4 * length (ases_of ls) ≤ length u → (x y : Bool)
      → Passed ls ps k f cap t u x → Taken f cap u (way_of_direction ls ps k) v y → Passed ls ps (k + 1) f cap t v (x || y)
  Passed-more placed k h {t} {u} {v} room x true p (want, e) =
      let w = way_of_direction ls ps k in
      let fell = gain_falls f cap (length (ases_of ls)) u w room (way_arc ls ps placed k h).hearer_in want in
      rw e (record { reached = gained u k p.reached h want; moved = go x p.moved fell })
    where
      go : (x : Bool) → Moved (CalmBelow (way_of_direction ls ps) f cap k t) f cap (length (ases_of ls)) t u x
          → height f cap (length (ases_of ls)) (heard_over u (way_of_direction ls ps k)) < height f cap (length (ases_of ls)) u
          → Moved (CalmBelow (way_of_direction ls ps) f cap (k + 1) t) f cap (length (ases_of ls)) t (heard_over u (way_of_direction ls ps k)) (x || true)
      go true m l = lt_trans l m
      go false m l = omega (arith, ap (height f cap (length (ases_of ls))) m.0)
  Passed-more placed k h {t} {u} {v} room x false p (want, e) = rw e (record { reached = p.reached; moved = go x p.moved })
    where
      go : (x : Bool) → Moved (CalmBelow (way_of_direction ls ps) f cap k t) f cap (length (ases_of ls)) t u x
          → Moved (CalmBelow (way_of_direction ls ps) f cap (k + 1) t) f cap (length (ases_of ls)) t u (x || false)
      go true m = m
      go false m = (m.0, below_more (λ j. wants f cap t (way_of_direction ls ps j) ≡ false) k m.1 (rw m.0 at want))

-- What a phase asks --------------------------------------------------------------------------------------------------------

module _ {ws ps : List ℕ} {cap : ℕ} {t : List ℕ} (r : Ready ws ps cap t) where
  pub ready_way : (k : ℕ) → k < 2 * length (links_of ws) → (3 * (k / 2) + 3 ≤ length ws) × (2 * (k / 2) + 2 ≤ length ps)
  ready_way k h = omega (arith, r.whole, Placed-long (links_of ws) ps r.placed)

  pub ready_Joins : (k : ℕ) → k < 2 * length (links_of ws) → Joins t (way_of_direction (links_of ws) ps k)
  ready_Joins k h =
      let a = way_arc (links_of ws) ps r.placed k h in
      record {
        hearer = omega (arith, a.hearer_in, r.room);
        neighbour = omega (arith, a.neighbour_in, r.room);
        wide = omega (arith, r.short (way_of_direction (links_of ws) ps k).neighbour a.neighbour_in, r.fits);
      }

  -- it is kept, and so is the table's frame
  pub Ready-Reached : {f : ℕ} {u : List ℕ} → Reached (way_of_direction (links_of ws) ps) (2 * length (links_of ws)) f cap t u
      → Ready ws ps cap u × Framed (length (ases_of (links_of ws))) t u
  Ready-Reached {f} =
      λ s. Reached-keeps (λ v. Ready ws ps cap v × Framed (length (ases_of (links_of ws))) t v)
      (λ v k h want (p, q). step v k h want p q) s (r, Framed-same t)
    where
      step : (v : List ℕ) (k : ℕ) → k < 2 * length (links_of ws) → wants f cap v (way_of_direction (links_of ws) ps k) ≡ true → Ready ws ps cap v
          → Framed (length (ases_of (links_of ws))) t v
          → Ready ws ps cap (heard_over v (way_of_direction (links_of ws) ps k)) × Framed (length (ases_of (links_of ws))) t (heard_over v (way_of_direction (links_of ws) ps k))
      step v k h want p q =
          let a = way_arc (links_of ws) ps r.placed k h in
          let n = length (ases_of (links_of ws)) in
          let g = gain_Framed f cap n v (way_of_direction (links_of ws) ps k) p.room a.hearer_in want in (
            record {
              whole = r.whole;
              placed = r.placed;
              room = omega (arith, g.long, p.room);
              short = gain_Short f cap n v (way_of_direction (links_of ws) ps k) p.room a.hearer_in want p.short;
              fits = r.fits;
            },
            Framed-more q g,
          )

-- A table that settles, step after step ------------------------------------------------------------------------------------

pub Stays-none : (g : Settling) → Stays g g
Stays-none g = record { words = refl; places = refl; cap = refl; loan = refl }

pub Stays-more : {f g h : Settling} → Stays f g → Stays g h → Stays f h
Stays-more a b = record { words = b.words ∙ a.words; places = b.places ∙ a.places; cap = b.cap ∙ a.cap; loan = b.loan ∙ a.loan }

module _ (g h : Settling) (s : Stays g h) where
  abbrev ls : List Link
  ls = links_of g.network.words.now

  pub after_taken : (f k : ℕ) (u : List ℕ) (r : Bool) → Taken f h.cap h.table.now (way_of_direction (links_of h.network.words.now) h.places.now k) u r
      → Taken f g.cap h.table.now (way_of_direction ls g.places.now k) u r
  after_taken f k u r t = rw (s.cap, s.words, s.places) at t

  pub after_room : 4 * length (ases_of ls) ≤ length h.table.now
  after_room = rw s.words at h.ready.room

  pub after_passed : {f : ℕ} {u : List ℕ} {r : Bool} → Passed (links_of h.network.words.now) h.places.now (2 * length (links_of h.network.words.now)) f h.cap h.table.now u r
      → Passed ls g.places.now (2 * length ls) f g.cap h.table.now u r
  after_passed p = rw (s.cap, s.words, s.places) at p

  pub after_settled : {f : ℕ} {u : List ℕ} → Settled (links_of h.network.words.now) h.places.now f h.cap h.table.now u
      → Settled ls g.places.now f g.cap h.table.now u
  after_settled p = rw (s.cap, s.words, s.places) at p
