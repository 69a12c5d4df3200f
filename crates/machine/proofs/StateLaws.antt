-- The machine's state in table and room: an election's stores are the definition's changes. A line that is put changes one AS's line, and a
-- sending the directions over which its AS tells.
use Prim.Native.Nat.{ℕ, ◌+◌, ◌*◌, ◌≤◌, ◌<◌}
use mathlib.Core.Path.{◌≡◌, refl, sym, ◌∙◌, ap, subst}
use mathlib.Core.Logic.{◌≢◌}
use mathlib.Core.Bool.{Bool, true, false, cond, not, ◌&&◌}
use mathlib.Core.List.{List, ◌++◌}
use native.Mathlib.Omega.{arith}
use native.Mathlib.Decide.{ℕ_discrete}
use lib.Dec.{eqb}
use lib.ListN.{length, get_or, set, take, length-set, length-take}
use lib.Seq.{ext_get_or, get_or-take, get_or-set_other}
use borrow.Author.Tests.{ne_eqb}
use Rattle.rules.specs.declared.TypeLength.{TypeLength}
use Rattle.rules.specs.declared.Link.{Link}
use Rattle.rules.specs.Lists.{In, changed}
use Rattle.rules.specs.Pairs.{same_as}
use Rattle.rules.specs.Offers.{Arc, Offer, none, best}
use Rattle.rules.specs.Network.{links_of, ases_of}
use Rattle.rules.specs.Stable.{Line, line_of, table_of}
use Rattle.rules.specs.Machine.{Waiting, nothing, waits, State, send, elected}
use Rattle.rules.proofs.Tests.{changed_same, changed_other}
use Rattle.rules.proofs.OfferLaws.{pair_same, Ext-range}
use Rattle.rules.proofs.BestLaws.{Source, nowhere, from_arc, best_is, best_Source, best_same}
use Rattle.rules.proofs.NetworkLaws.{ases_Distinct}
use Rattle.rules.proofs.ArcLaws.{Directed, arcs_length, arcs_cost, arcs_Numbered, numbered_range, direction_unique}
use Rattle.rules.proofs.MachineLaws.{send_own, send_other}
use Rattle.rules.proofs.MachineCounts.{best_short}
use Rattle.offers.specs.declared.Offered.{Offered}
use Rattle.offers.specs.Lines.{number_word, entry_pair, entry_line, with_line}
use Rattle.offers.specs.Ways.{arc_at, way_of_direction}
use Rattle.offers.specs.Passes.{as_offer}
use Rattle.offers.specs.Steps.{Placed}
use Rattle.offers.proofs.WayLaws.{WayArc}
use Rattle.offers.proofs.TableLaws.{table_line, table_put}
use Rattle.machine.specs.Room.{pair_word, pair_of, wait_of, place_word, held_word, waiting_word, net_of, ases_in, as_at, Laid, Holds}
use Rattle.machine.specs.Steps.{Sent, held_over, ToldUnless, Took}
use Rattle.machine.proofs.IndexLaws.{partner_in, Indexed-same}
use Rattle.machine.proofs.HeldLaws.{as_place, Laid-way, Laid-direction, Laid-arc}

-- the test of two pairs, as `!=` makes it
pub pairs_same : (p q : TypeLength) {b : Bool} → b ≡ not (eqb p.typ q.typ && eqb p.length q.length) → same_as p q ≡ not b
unfolding same_as
pairs_same p q e = rw e (twice (eqb p.typ q.typ && eqb p.length q.length))
  where
    twice : (t : Bool) → t ≡ not (not t)
    twice true = refl
    twice false = refl

-- Pairs as words ----------------------------------------------------------------------------------------------------------

pair_word_lem : (p : TypeLength) → p.length < 268435456 → pair_of (pair_word p) ≡ p
pair_word_lem p h = pair_same (omega arith, omega arith)

wait_word : (p : TypeLength) → 1 ≤ p.typ → p.length < 268435456 → wait_of (pair_word p) ≡ waits p
wait_word p h g = cc (ne_eqb (pair_word p) 0 (λ e. omega arith), pair_word_lem p g)

pub wait_pair : (w : ℕ) (p : TypeLength) → wait_of w ≡ waits p → pair_of w ≡ p
wait_pair w p = go (eqb w 0)
  where
    go : (b : Bool) → cond b nothing (waits (pair_of w)) ≡ waits p → pair_of w ≡ p
    go true e = cc
    go false e = cc

-- What is laid out stays ----------------------------------------------------------------------------------------------------

pub placed_same : (ls : List Link) (r r' : List ℕ) → length r' ≡ length r → ((i : ℕ) → i < 2 * length ls → get_or r' i 0 ≡ get_or r i 0)
    → Placed ls r → Placed ls r'
placed_same ls r r' long same placed = ext_get_or 0 (take n r') (take n r) (simp length-take (rw long)) at ∙ placed
  where
    n : ℕ
    n = 2 * length ls

    at : (i : ℕ) → i < length (take n r') → get_or (take n r') i 0 ≡ get_or (take n r) i 0
    at i h =
        let i2 : i < 2 * length ls = omega (arith, simp length-take at h) in
        get_or-take n r' i 0 i2 ∙ same i i2 ∙ sym (get_or-take n r i 0 i2)

module _ {ws : List ℕ} {m : ℕ} {t r : List ℕ} (l : Laid ws m t r) where
  pub Laid-room : (r' : List ℕ) → length r' ≡ length r → ((i : ℕ) → i < 2 * m → get_or r' i 0 ≡ get_or r i 0)
      → ((i : ℕ) → 6 * m ≤ i → get_or r' i 0 ≡ get_or r i 0) → Laid ws m t r'
  Laid-room r' long same above =
      record {
        links = l.links;
        words = l.words;
        table = l.table;
        numbers = l.numbers;
        room = omega (arith, l.room);
        places = placed_same (links_of ws) r r' long (λ i h. same i (omega (arith, l.links))) l.places;
        index = Indexed-same m r r' same l.index long above;
      }

  Laid-Line : (u : ℕ) (x : Line) → Laid ws m (with_line t u x) r
  Laid-Line u x =
      record {
        links = l.links;
        words = l.words;
        table = simp length-set l.table;
        numbers = λ i h. number i ∙ l.numbers i h;
        room = l.room;
        places = l.places;
        index = l.index;
      }
    where
      number : (i : ℕ) → number_word (with_line t u x) i ≡ number_word t i
      number i =
          get_or-set_other (set (set t (4 * u + 1) x.pair.typ) (4 * u + 2) x.pair.length) (4 * u + 3) (4 * i) x.next 0 (λ e. omega arith)
          ∙ get_or-set_other (set t (4 * u + 1) x.pair.typ) (4 * u + 2) (4 * i) x.pair.length 0 (λ e. omega arith)
          ∙ get_or-set_other t (4 * u + 1) (4 * i) x.pair.typ 0 (λ e. omega arith)

-- A sending -----------------------------------------------------------------------------------------------------------------

-- the pair waits on the directions over which u tells
module _ {ws : List ℕ} {m : ℕ} {t r r' : List ℕ} (l : Laid ws m t r) {u : ℕ} (h : u < ases_in ws) {p : TypeLength} (typed : 1 ≤ p.typ)
    (short : p.length < 268435456) (sent : Sent m u (pair_word p) (2 * m) r r') (w : ℕ → Waiting) where
  pub sent_waiting : ((k : ℕ) → k < 2 * m → wait_of (waiting_word m r k) ≡ w k)
      → (k : ℕ) → k < 2 * m → wait_of (waiting_word m r' k) ≡ send (net_of ws) (as_at ws u) p w k
  sent_waiting old k i = go (ℕ_discrete (place_word r k) u)
    where
      a : Arc
      a = arc_at (links_of ws) k

      at : WayArc (ases_of (links_of ws)) (way_of_direction (links_of ws) r k) (arc_at (links_of ws) k)
      at = Laid-way l k i

      unique : Directed (net_of ws)
      unique = direction_unique (links_of ws)

      go : Dec (place_word r k ≡ u) → wait_of (waiting_word m r' k) ≡ send (net_of ws) (as_at ws u) p w k
      go (yes e) =
          let own : a.neighbour ≡ as_at ws u = sym at.neighbour ∙ ap (as_at ws) e in
          ap wait_of (sent.on k (partner_in m k i) e) ∙ wait_word p typed short
          ∙ sym (send_own (net_of ws) unique (as_at ws u) p w a (Laid-arc l k i) own)
          ∙ ap (send (net_of ws) (as_at ws u) p w) (Laid-direction l k i)
      go (no ne) =
          let off : a.neighbour ≢ as_at ws u = (λ e. ne (as_place ws (place_word r k) u at.neighbour_in h (at.neighbour ∙ e))) in
          ap wait_of (sent.off k (λ j. ne)) ∙ old k i ∙ ap w (sym (Laid-direction l k i))
          ∙ sym (send_other (net_of ws) unique (as_at ws u) p w a (Laid-arc l k i) off)
          ∙ ap (send (net_of ws) (as_at ws u) p w) (Laid-direction l k i)

-- the line of an AS as the table has it
pub own_line : {ws : List ℕ} {m : ℕ} {rest : List ℕ} {s : State} {t r : List ℕ} → Holds ws m rest s t r → {u : ℕ} → u < ases_in ws
    → entry_line t u ≡ s.lines (as_at ws u)
own_line {ws} {m} {rest} {s} g {u} h =
    ap (λ (q : List ℕ). entry_line q u) g.lines ∙ table_line s.lines rest (ases_of (links_of ws)) u h

-- the AS at place u has elected anew, and told of a change
pub record Anew (ws : List ℕ) (m : ℕ) (t r : List ℕ) (u : ℕ) (t' r' : List ℕ) : Type 0 where
  pub after : (rest : List ℕ) (s : State) (d b : ℕ) → Holds ws m rest s t r → ((k : ℕ) → (s.held k).length ≤ b) → b + 1 < 268435456
      → as_at ws u ≢ d → Holds ws m rest (elected (net_of ws) d (as_at ws u) s) t' r'

-- An election ---------------------------------------------------------------------------------------------------------------

-- the best offer is of type 1 to 4
best_typed : (told : Arc → TypeLength) (x : ℕ) (net : List Arc) → (1 ≤ (best told x net).pair.typ) × ((best told x net).pair.typ ≤ 4)
unfolding none
best_typed told x net = go (best_Source (best_is told x net))
  where
    go : {o : Offer} → Source told x net o → (1 ≤ o.pair.typ) × (o.pair.typ ≤ 4)
    go (nowhere e) = omega (arith, ap (λ (y : Offer). y.pair.typ) e)
    go (from_arc a m h v) = omega (arith, Ext-range v.ext)

-- at an AS that is not the destination it is the line's, and is told of where it is another pair
elected_off : (net : List Arc) (d x : ℕ) (s : State) → x ≢ d → (o : Offer) → o ≡ best (λ a. s.held a.direction) x net
    → elected net d x s
    ≡ record {
      lines = changed s.lines x (line_of o);
      held = s.held;
      waiting = cond (same_as (s.lines x).pair o.pair) s.waiting (send net x o.pair s.waiting);
    }
unfolding elected
elected_off net d x s ne o e = rw (e, ne_eqb x d ne)

-- what a link adds to a length
most : (ws : List ℕ) (a : Arc) → In a (net_of ws) → a.cost ≤ 1
most ws a i = omega (arith, arcs_cost (links_of ws) a i)

module _ {ws : List ℕ} {m : ℕ} {t r : List ℕ} (l : Laid ws m t r) {u : ℕ} (h : u < ases_in ws) {o : Offered} where
  -- the line of an offer is taken, and told of or not
  module _ {old : TypeLength} {t' r' : List ℕ} (is : old ≡ entry_pair t u) (took : Took m t r u old o t' r') where
    told : ToldUnless (same_as (entry_pair t u) o.pair) m u (pair_word o.pair) r r'
    told = subst (λ (p : TypeLength). ToldUnless (same_as p o.pair) m u (pair_word o.pair) r r') is took.told

    -- in every state that table and room hold and in which the offer is elected
    module _ {rest : List ℕ} {s : State} (g : Holds ws m rest s t r)
        (b : as_offer o ≡ best (λ a. s.held a.direction) (as_at ws u) (net_of ws)) where
      typed : 1 ≤ o.pair.typ
      typed = omega (arith, ap (λ (y : Offer). y.pair.typ) b, best_typed (λ a. s.held a.direction) (as_at ws u) (net_of ws))

      abbrev after : (ℕ → Waiting) → State
      after w = record { lines = changed s.lines (as_at ws u) (line_of (as_offer o)); held = s.held; waiting = w }

      -- the line is put, and what waits is known
      put_holds : (w : ℕ → Waiting) → ((k : ℕ) → k < 2 * m → held_word m r' k ≡ held_word m r k)
          → ((k : ℕ) → k < 2 * m → wait_of (waiting_word m r' k) ≡ w k)
          → Holds ws m rest (after w) (with_line t u (line_of (as_offer o))) r'
      put_holds w same now =
          let us = ases_of (links_of ws) in
          let S = changed s.lines (as_at ws u) (line_of (as_offer o)) in
          record {
            lines =
                ap (λ (q : List ℕ). with_line q u (line_of (as_offer o))) g.lines
                ∙ ap (with_line (table_of s.lines us ++ rest) u) (sym (changed_same s.lines (as_at ws u) (line_of (as_offer o)) (as_at ws u) refl))
                ∙ table_put s.lines rest S us (ases_Distinct (links_of ws)) u h (λ v ne. changed_other s.lines (as_at ws u) (line_of (as_offer o)) v ne);
            held = λ k i. ap pair_of (same k i) ∙ g.held k i;
            waiting = now;
          }

      pub took_Holds : (d c : ℕ) → ((k : ℕ) → (s.held k).length ≤ c) → c + 1 < 268435456 → as_at ws u ≢ d
          → Holds ws m rest (elected (net_of ws) d (as_at ws u) s) t' r'
      took_Holds d c short fits ne =
          rw (took.line, elected_off (net_of ws) d (as_at ws u) s ne (as_offer o) b, ← own_pair) (go (same_as (entry_pair t u) o.pair) told)
        where
          own_pair : entry_pair t u ≡ (s.lines (as_at ws u)).pair
          own_pair = ap (λ (x : Line). x.pair) (own_line g h)

          narrow : o.pair.length < 268435456
          narrow =
              let few = best_short (net_of ws) d 1 (most ws) c (λ a. s.held a.direction) (λ a. short a.direction) (as_at ws u) in
              omega (arith, ap (λ (y : Offer). y.pair.length) b)

          go : (x : Bool) → ToldUnless x m u (pair_word o.pair) r r'
              → Holds ws m rest (after (cond x s.waiting (send (net_of ws) (as_at ws u) o.pair s.waiting))) (with_line t u (line_of (as_offer o))) r'
          go true same = put_holds s.waiting (λ k i. rw same refl) (λ k i. rw same (g.waiting k i))
          go false sent =
              put_holds _ (λ k i. sent.below (2 * m + k) (omega arith))
              (sent_waiting l h typed narrow sent s.waiting g.waiting)

  -- the offer is the best over what the room holds
  module _ (b : as_offer o ≡ best (held_over m r) (as_at ws u) (net_of ws)) where
    -- its word fits
    pub word_fits : pair_word o.pair < 4294967296
    word_fits =
        let short = best_short (net_of ws) 0 1 (most ws) 268435455 (held_over m r) (λ a. omega arith) (as_at ws u) in
        let typed = best_typed (held_over m r) (as_at ws u) (net_of ws) in
        omega (arith, ap (λ (y : Offer). y.pair.typ) b, ap (λ (y : Offer). y.pair.length) b)

    elects : {rest : List ℕ} {s : State} → Holds ws m rest s t r → as_offer o ≡ best (λ a. s.held a.direction) (as_at ws u) (net_of ws)
    elects {rest} {s} g =
        b ∙ best_same (held_over m r) (λ a. s.held a.direction) (as_at ws u) (net_of ws)
        (λ a i e. g.held a.direction (omega (arith, numbered_range 0 (net_of ws) (arcs_Numbered 0 (links_of ws)) a i, arcs_length 0 (links_of ws), l.links)))

    pub elected_Anew : {old : TypeLength} {t' r' : List ℕ} → old ≡ entry_pair t u → Took m t r u old o t' r' → Anew ws m t r u t' r'
    elected_Anew is took =
        record {
          after = λ rest s d c g short fits ne. took_Holds is took g (elects g) d c short fits ne;
        }
