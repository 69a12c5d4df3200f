-- The election over what the room holds. What is heard over direction k is what arc k offers with the pair held there; the loop goes
-- along the arcs, and what is left of the election from there is the whole.
use Prim.Native.Nat.{ℕ, zero, suc, ◌+◌, ◌-◌, ◌*◌, ◌≤◌, ◌<◌}
use mathlib.Core.Path.{◌≡◌, refl, sym, ◌∙◌, ap, subst}
use mathlib.Core.Logic.{◌≢◌}
use mathlib.Core.List.{List, ◌∷◌}
use native.Mathlib.Omega.{arith}
use native.Mathlib.Numerals.{add-one}
use lib.ListN.{length, drop, drop_of_length-le}
use lib.Seq.{drop-cons}
use Rattle.rules.specs.declared.TypeLength.{TypeLength}
use Rattle.rules.specs.Offers.{Arc, Offer, none, offer, choose, heard, elect, best}
use Rattle.rules.specs.Network.{links_of, ases_of}
use Rattle.rules.specs.Lists.{In}
use Rattle.rules.specs.Pairs.{unreachable_of}
use Rattle.rules.proofs.Faces.{Le}
use Rattle.rules.proofs.OfferLaws.{heard_own, heard_other, choose_keeps, choose-Le, le_trans}
use Rattle.rules.proofs.NetworkLaws.{ases_Distinct}
use Rattle.rules.proofs.ArcLaws.{arcs_length, arcs_rank}
use Rattle.offers.specs.declared.Way.{Way}
use Rattle.offers.specs.declared.Offered.{Offered}
use Rattle.offers.specs.Lines.{number_word}
use Rattle.offers.specs.Ways.{index_in, no_arc, arc_at, way_of_direction}
use Rattle.offers.specs.Passes.{as_offer}
use Rattle.offers.specs.Steps.{ranked_offer, Fair, OverWay, Considered}
use Rattle.offers.proofs.PlaceLaws.{place_at}
use Rattle.offers.proofs.WayLaws.{arc_In, arc_direction, WayArc, way_arc}
use Rattle.offers.proofs.ConsiderLaws.{Fair-Le, Le-Fair}
use Rattle.machine.specs.Room.{pair_of, held_word, next_word, head_word, hearer_word, net_of, ases_in, as_at, HeardFrom, Laid}
use Rattle.machine.specs.Steps.{held_over, Heard}

-- different places have different ASes
pub as_place : (ws : List ℕ) (i j : ℕ) → i < ases_in ws → j < ases_in ws → as_at ws i ≡ as_at ws j → i ≡ j
as_place ws i j p q e =
    let us = ases_of (links_of ws) in
    let d = ases_Distinct (links_of ws) in
    sym (place_at us d i p) ∙ ap (index_in us) e ∙ place_at us d j q

-- direction k of what is laid out is arc k
pub Laid-way : {ws : List ℕ} {m : ℕ} {t r : List ℕ} → Laid ws m t r → (k : ℕ) → k < 2 * m
    → WayArc (ases_of (links_of ws)) (way_of_direction (links_of ws) r k) (arc_at (links_of ws) k)
Laid-way {ws} {m} {t} {r} l k h = way_arc (links_of ws) r l.places k (omega (arith, l.links))

pub Laid-direction : {ws : List ℕ} {m : ℕ} {t r : List ℕ} → Laid ws m t r → (k : ℕ) → k < 2 * m → (arc_at (links_of ws) k).direction ≡ k
Laid-direction {ws} l k h = arc_direction (links_of ws) k (omega (arith, l.links))

pub Laid-arc : {ws : List ℕ} {m : ℕ} {t r : List ℕ} → Laid ws m t r → (k : ℕ) → k < 2 * m → In (arc_at (links_of ws) k) (net_of ws)
Laid-arc {ws} l k h = arc_In (links_of ws) k (omega (arith, l.links))

pub Laid-over : {ws : List ℕ} {m : ℕ} {t r : List ℕ} → Laid ws m t r → (k : ℕ) → k < 2 * m → {w : Way} → w ≡ way_of_direction (links_of ws) r k
    → {x : ℕ} → x ≡ number_word t w.neighbour → OverWay w x (arc_at (links_of ws) k)
Laid-over {ws} {m} {t} {r} l k h {w} is {x} f =
    let at : WayArc (ases_of (links_of ws)) w (arc_at (links_of ws) k) = rw is (Laid-way l k h) in
    let from : (arc_at (links_of ws) k).neighbour ≡ x = sym at.neighbour ∙ sym (l.numbers w.neighbour at.neighbour_in) ∙ sym f in
    record { kind = at.kind; cost = at.cost; rank = arcs_rank (links_of ws) (arc_at (links_of ws) k) (Laid-arc l k h) ∙ from; neighbour = from }

-- One direction -------------------------------------------------------------------------------------------------------------

module _ {ws : List ℕ} {m : ℕ} {t r : List ℕ} {k : ℕ} (laid : Laid ws m t r) (inside : k < 2 * m)
    (w : Way) (is : w ≡ way_of_direction (links_of ws) r k) where
  arc : Arc
  arc = arc_at (links_of ws) k

  at : WayArc (ases_of (links_of ws)) w arc
  unfolding arc
  at = rw is (Laid-way laid k inside)

  pub teller_fits : 4 * w.neighbour + 4 ≤ length t
  teller_fits = omega (arith, at.neighbour_in, laid.table)

  pub hear_own : {o : Offered} (x : ℕ) (p : TypeLength) (o' : Offered) → x ≡ number_word t w.neighbour → p ≡ pair_of (held_word m r k)
      → Considered o w x p o' → Heard ws m r (hearer_word r k) k o o'
  unfolding arc
  hear_own {o} x p o' f g c =
      let own : arc.hearer ≡ as_at ws (hearer_word r k) = sym (Laid-way laid k inside).hearer in
      let over : OverWay w x arc = Laid-over laid k inside is f in
      let held : p ≡ held_over m r arc = g ∙ ap (λ (i : ℕ). pair_of (held_word m r i)) (sym (Laid-direction laid k inside)) in
      c.chosen arc over ∙ ap (λ (q : TypeLength). choose (as_offer o) (offer arc q)) held
      ∙ ap (choose (as_offer o)) (sym (heard_own (held_over m r) (as_at ws (hearer_word r k)) arc own))

-- over a direction that another hears, an AS hears nothing
hear_other : {ws : List ℕ} {m : ℕ} {t r : List ℕ} → Laid ws m t r → {u : ℕ} → u < ases_in ws → (k : ℕ) → k < 2 * m → hearer_word r k ≢ u
    → {o : Offered} → Fair o → Heard ws m r u k o o
unfolding none
hear_other {ws} {m} {t} {r} l {u} p k h ne {o} fair =
    let a = arc_at (links_of ws) k in
    let at = Laid-way l k h in
    let off : a.hearer ≢ as_at ws u = (λ e. ne (as_place ws (hearer_word r k) u at.hearer_in p (at.hearer ∙ e))) in
    rw (heard_other (held_over m r) (as_at ws u) a off)
    (sym (choose_keeps (as_offer o) (none (as_at ws u)) (Fair-Le fair (none (as_at ws u)) refl)))

-- Direction after direction -------------------------------------------------------------------------------------------------

-- from the offer x on, o is the best over the first k directions
pub record BestTo (ws : List ℕ) (m : ℕ) (r : List ℕ) (u : ℕ) (x : Offer) (k : ℕ) (o : Offered) : Type 0 where
  pub rest : elect (held_over m r) (as_at ws u) (as_offer o) (drop k (net_of ws)) ≡ elect (held_over m r) (as_at ws u) x (net_of ws)
  pub fair : Fair o

-- the same where the AS at place u hears over direction k
pub record ElectTo (ws : List ℕ) (m : ℕ) (r : List ℕ) (u : ℕ) (x : Offer) (k : ℕ) (o : Offered) : Type 0 where
  pub own : k < 2 * m → hearer_word r k ≡ u
  pub best : BestTo ws m r u x k o

module _ {ws : List ℕ} {m : ℕ} {t r : List ℕ} (l : Laid ws m t r) (u : ℕ) where
  arcs_long : length (net_of ws) ≡ 2 * m
  arcs_long = arcs_length 0 (links_of ws) ∙ ap (λ (n : ℕ). 2 * n) l.links

  module _ {x : Offer} {k : ℕ} {o : Offered} (b : BestTo ws m r u x k o) where
    best_more : k < 2 * m → (o' : Offered) → Heard ws m r u k o o' → BestTo ws m r u x (k + 1) o'
    unfolding elect none
    best_more h o' e =
        let v = as_at ws u in
        let y = heard (held_over m r) v (arc_at (links_of ws) k) in
        let split : drop k (net_of ws) ≡ arc_at (links_of ws) k ∷ drop (k + 1) (net_of ws) =
        rw add-one (drop-cons (net_of ws) k no_arc (omega (arith, arcs_long))) in
        let worse : Le (as_offer o') (as_offer o) = rw e (choose-Le (as_offer o) y).0 in
        record {
          rest =
              ap (λ (z : Offer). elect (held_over m r) v z (drop (k + 1) (net_of ws))) e
              ∙ ap (elect (held_over m r) v (as_offer o)) (sym split) ∙ b.rest;
          fair = Le-Fair v (le_trans worse (Fair-Le b.fair (none v) refl));
        }

    pub best_all : 2 * m ≤ k → as_offer o ≡ elect (held_over m r) (as_at ws u) x (net_of ws)
    unfolding elect
    best_all h =
        let over : length (net_of ws) ≤ k = omega (arith, arcs_long) in
        ap (elect (held_over m r) (as_at ws u) (as_offer o)) (sym (drop_of_length-le (net_of ws) over)) ∙ b.rest

  module _ (place : u < ases_in ws) where
    -- d directions that others hear
    best_past : {x : Offer} {o : Offered} (d k : ℕ) → k + d ≤ 2 * m → ((i : ℕ) → k ≤ i → i < k + d → hearer_word r i ≢ u)
        → BestTo ws m r u x k o → BestTo ws m r u x (k + d) o
    best_past zero k h passed b = (let e : k + 0 ≡ k = omega arith in rw e b)
    best_past {x} {o} (suc d) k h passed b =
        let e : k + suc d ≡ k + 1 + d = omega arith in
        let one = best_more b (omega arith) o (hear_other l place k (omega arith) (passed k (omega arith) (omega arith)) b.fair) in
        rw e (best_past d (k + 1) (omega arith) (λ i p q. passed i (omega arith) (omega arith)) one)

    best_on : {x : Offer} {k j : ℕ} {o : Offered} → HeardFrom m r u k j → BestTo ws m r u x k o → BestTo ws m r u x j o
    best_on {x} {k} {j} h b =
        let e : j ≡ k + (j - k) = omega (arith, h.after) in
        rw e (best_past (j - k) k (omega (arith, h.after, h.bound)) (λ i p q. h.passed i p (omega (arith, h.after))) b)

    -- Along the index ---------------------------------------------------------------------------------------------------------

    pub elect_first : (o : Offered) → Fair o → {k : ℕ} → k ≡ head_word m r u → ElectTo ws m r u (as_offer o) k o
    elect_first o f e =
        let head = l.index.heads u place in
        rw e (record { own = head.own; best = best_on head (record { rest = refl; fair = f }) })

    module _ {x : Offer} {k : ℕ} {o : Offered} (b : ElectTo ws m r u x k o) (h : k < 2 * m) {j : ℕ} (e : j ≡ next_word m r k) where
      next : HeardFrom m r u (k + 1) j
      next = rw e (subst (λ (v : ℕ). HeardFrom m r v (k + 1) (next_word m r k)) (b.own h) (l.index.nexts k (omega arith) h))

      pub elect_more : {o' : Offered} → Heard ws m r (hearer_word r k) k o o' → ElectTo ws m r u x j o'
      elect_more {o'} heard =
          record {
            own = next.own;
            best = best_on next (best_more b.best h o' (subst (λ (v : ℕ). Heard ws m r v k o o') (b.own h) heard));
          }

-- no offer, as the code makes it
pub none_Fair : (x : ℕ) (o : Offered) → o ≡ ranked_offer unreachable_of x → Fair o
none_Fair x o e = rw e (record { typ = omega arith; long = λ p. refl; rank = λ p. refl })

pub best_none : {ws : List ℕ} {m : ℕ} {t r : List ℕ} → Laid ws m t r → {u : ℕ} → u < ases_in ws → {x : ℕ} {y o : Offered} → x ≡ number_word t u
    → y ≡ ranked_offer unreachable_of x → as_offer o ≡ elect (held_over m r) (as_at ws u) (as_offer y) (net_of ws)
    → as_offer o ≡ best (held_over m r) (as_at ws u) (net_of ws)
unfolding best none
best_none {ws} {m} {t} {r} l {u} h {x} {y} e f b =
    let is : as_offer y ≡ none (as_at ws u) = ap as_offer f ∙ ap none (e ∙ l.numbers u h) in
    b ∙ ap (λ (z : Offer). elect (held_over m r) (as_at ws u) z (net_of ws)) is
