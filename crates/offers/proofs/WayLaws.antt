-- Directions: link i by index is link i of the list, arc 2i is its arc from a to b and arc 2i + 1 the other, and direction k with its
-- ends' places is arc k. By induction along the lists, then by the parity of k.
--
--   WayArc us w a      direction w is arc a, its ends by their places in us
use Prim.Native.Nat.{ℕ, zero, suc, ◌+◌, ◌-◌, ◌*◌, ◌/◌, ◌%◌, ◌<◌}
use mathlib.Core.Path.{◌≡◌, refl, sym, ◌∙◌, ap}
use mathlib.Core.Bool.{Bool, true, false}
use mathlib.Core.List.{List, [], ◌∷◌}
use native.Mathlib.Omega.{arith}
use lib.Dec.{eqb}
use lib.ListN.{length, get_or}
use lib.Seq.{get_or-take}
use borrow.Author.Tests.{eqb-true, eqb-false}
use Rattle.rules.specs.declared.Link.{Link}
use Rattle.rules.specs.Lists.{In}
use Rattle.rules.specs.Offers.{Arc}
use Rattle.rules.specs.Network.{links_of, link_in_words, ases_of, a_to_b, b_to_a, arcs_from, arcs_of}
use Rattle.rules.proofs.Tests.{tests, by_cond}
use Rattle.rules.proofs.ArcLaws.{arcs_length, arcs_ends, arcs_rank}
use Rattle.rules.proofs.ListLaws.{at_in}
use Rattle.network.specs.Promises.{HasLink}
use Rattle.network.proofs.PrefixLaws.{count}
use Rattle.offers.specs.declared.Way.{Way}
use Rattle.offers.specs.Ways.{ends_of, index_in, no_arc, no_link, arc_at, partner, way_of_direction}
use Rattle.offers.specs.Steps.{OverWay, Placed}
use Rattle.offers.specs.Placing.{kind_of_direction}
use Rattle.offers.proofs.PlaceLaws.{place-In, two_on, ends_at, places_at}

-- Links by index ---------------------------------------------------------------------------------------------------------

three_on : (i k : ℕ) → 3 * suc i + k ≡ suc (suc (suc (3 * i + k)))
three_on i k = omega arith

link_next : (a b r : ℕ) (ws : List ℕ) (i : ℕ) → link_in_words (a ∷ b ∷ r ∷ ws) (suc i) ≡ link_in_words ws i
link_next a b r ws i =
    let e : 3 * suc i ≡ suc (suc (suc (3 * i))) = omega arith in
    rw (three_on i 1, three_on i 2, e)

pub links_at : (ws : List ℕ) (i : ℕ) → HasLink ws i → get_or (links_of ws) i no_link ≡ link_in_words ws i
unfolding links_of
links_at [] i h = absurd (omega arith)
links_at (a ∷ []) i h = absurd (omega arith)
links_at (a ∷ b ∷ []) i h = absurd (omega arith)
links_at (a ∷ b ∷ r ∷ ws) zero h = refl
links_at (a ∷ b ∷ r ∷ ws) (suc i) h = links_at ws i (omega arith) ∙ sym (link_next a b r ws i)

pub link_In : (ws : List ℕ) (i : ℕ) → HasLink ws i → In (link_in_words ws i) (links_of ws)
link_In ws i h = rw (← links_at ws i h) (at_in no_link (links_of ws) i (omega (arith, count ws)))

-- Arcs by index ------------------------------------------------------------------------------------------------------------

arcs_at : (j : ℕ) (ls : List Link) (i : ℕ) → i < length ls
    → (get_or (arcs_from j ls) (2 * i + 0) no_arc ≡ a_to_b (j + i) (get_or ls i no_link)) × (get_or (arcs_from j ls) (2 * i + 1) no_arc ≡ b_to_a (j + i) (get_or ls i no_link))
unfolding arcs_from
arcs_at j [] i h = absurd (omega arith)
arcs_at j (l ∷ ls) zero h = (let e : j ≡ j + 0 = omega arith in (ap (λ (n : ℕ). a_to_b n l) e, ap (λ (n : ℕ). b_to_a n l) e))
arcs_at j (l ∷ ls) (suc i) h =
    let f : j + suc i ≡ suc j + i = omega arith in
    rw (two_on i 0, two_on i 1, f) (arcs_at (suc j) ls i (omega arith))

-- k is 2i or 2i + 1
data Parity (k : ℕ) : Type 0 where
  even : k ≡ 2 * (k / 2) + 0 → eqb (k % 2) 0 ≡ true → Parity k
  odd : k ≡ 2 * (k / 2) + 1 → eqb (k % 2) 0 ≡ false → Parity k

parity : (k : ℕ) → Parity k
parity k = go (eqb (k % 2) 0) refl
  where
    go : (b : Bool) → eqb (k % 2) 0 ≡ b → Parity k
    go true e = even (omega (arith, eqb-true (k % 2) 0 e)) e
    go false e = odd (omega (arith, eqb-false (k % 2) 0 e)) e

module _ (ls : List Link) (k : ℕ) (h : k < 2 * length ls) where
  link : Link
  link = get_or ls (k / 2) no_link

  pub arc_In : In (arc_at ls k) (arcs_of ls)
  arc_In = at_in no_arc (arcs_of ls) k (omega (arith, arcs_length 0 ls))

  arc_even : k ≡ 2 * (k / 2) + 0 → arc_at ls k ≡ a_to_b (k / 2) link
  unfolding link
  arc_even e =
      let z : 0 + k / 2 ≡ k / 2 = omega arith in
      ap (λ (n : ℕ). get_or (arcs_of ls) n no_arc) e ∙ (arcs_at 0 ls (k / 2) (omega arith)).0 ∙ ap (λ (n : ℕ). a_to_b n link) z

  arc_odd : k ≡ 2 * (k / 2) + 1 → arc_at ls k ≡ b_to_a (k / 2) link
  unfolding link
  arc_odd e =
      let z : 0 + k / 2 ≡ k / 2 = omega arith in
      ap (λ (n : ℕ). get_or (arcs_of ls) n no_arc) e ∙ (arcs_at 0 ls (k / 2) (omega arith)).1 ∙ ap (λ (n : ℕ). b_to_a n link) z

  pub arc_direction : (arc_at ls k).direction ≡ k
  unfolding a_to_b b_to_a
  arc_direction = go (parity k)
    where
      go : Parity k → (arc_at ls k).direction ≡ k
      go (even e t) = omega (arith, ap (λ (a : Arc). a.direction) (arc_even e))
      go (odd e t) = omega (arith, ap (λ (a : Arc). a.direction) (arc_odd e))

-- Directions with their places ---------------------------------------------------------------------------------------------

-- it and its partner are directions of one link
pub partner_within : (k : ℕ) → partner k < 2 * (k / 2) + 2
partner_within k = by_cond (λ j. j < 2 * (k / 2) + 2) (eqb (k % 2) 0) (k + 1) (k - 1) (λ e. omega tests) (λ e. omega tests)

-- direction k by its link's words
pub way_words : (ws ps : List ℕ) (k : ℕ) → HasLink ws (k / 2)
    → way_of_direction (links_of ws) ps k ≡ record { hearer = get_or ps (partner k) 0; neighbour = get_or ps k 0; kind = kind_of_direction (link_in_words ws (k / 2)) k; cost = 1 }
way_words ws ps k h = rw (links_at ws (k / 2) h)

pub record WayArc (us : List ℕ) (w : Way) (a : Arc) : Type 0 where
  pub hearer_in : w.hearer < length us
  pub hearer : get_or us w.hearer 0 ≡ a.hearer
  pub neighbour_in : w.neighbour < length us
  pub neighbour : get_or us w.neighbour 0 ≡ a.neighbour
  pub kind : a.kind ≡ w.kind
  pub cost : a.cost ≡ w.cost

module _ (ls : List Link) (ps : List ℕ) (placed : Placed ls ps) (k : ℕ) (h : k < 2 * length ls) where
  place_of_lem : (j x : ℕ) → j < 2 * length ls → get_or (ends_of ls) j 0 ≡ x → get_or ps j 0 ≡ index_in (ases_of ls) x
  place_of_lem j x g e =
      sym (get_or-take (2 * length ls) ps j 0 g) ∙ ap (λ (q : List ℕ). get_or q j 0) placed ∙ places_at (ases_of ls) ls j g ∙ ap (index_in (ases_of ls)) e

  -- the ends' places, the kind and the cost
  way_is : ((way_of_direction ls ps k).hearer ≡ index_in (ases_of ls) (arc_at ls k).hearer) × ((way_of_direction ls ps k).neighbour ≡ index_in (ases_of ls) (arc_at ls k).neighbour)
      × ((arc_at ls k).kind ≡ (way_of_direction ls ps k).kind) × ((arc_at ls k).cost ≡ 1)
  unfolding a_to_b b_to_a link
  way_is = go (parity k)
    where
      go : Parity k → ((way_of_direction ls ps k).hearer ≡ index_in (ases_of ls) (arc_at ls k).hearer) × ((way_of_direction ls ps k).neighbour ≡ index_in (ases_of ls) (arc_at ls k).neighbour)
          × ((arc_at ls k).kind ≡ (way_of_direction ls ps k).kind) × ((arc_at ls k).cost ≡ 1)
      go (even e t) =
          let p : get_or (ends_of ls) k 0 ≡ (get_or ls (k / 2) no_link).a = ap (λ (n : ℕ). get_or (ends_of ls) n 0) e ∙ (ends_at ls (k / 2)).0 in
          let f : k + 1 ≡ 2 * (k / 2) + 1 = omega arith in
          let q : get_or (ends_of ls) (k + 1) 0 ≡ (get_or ls (k / 2) no_link).b = ap (λ (n : ℕ). get_or (ends_of ls) n 0) f ∙ (ends_at ls (k / 2)).1 in
          rw (arc_even ls k h e, t) (place_of_lem (k + 1) _ (omega arith) q, place_of_lem k _ h p, refl, refl)
      go (odd e t) =
          let p : get_or (ends_of ls) k 0 ≡ (get_or ls (k / 2) no_link).b = ap (λ (n : ℕ). get_or (ends_of ls) n 0) e ∙ (ends_at ls (k / 2)).1 in
          let f : k - 1 ≡ 2 * (k / 2) + 0 = omega arith in
          let q : get_or (ends_of ls) (k - 1) 0 ≡ (get_or ls (k / 2) no_link).a = ap (λ (n : ℕ). get_or (ends_of ls) n 0) f ∙ (ends_at ls (k / 2)).0 in
          rw (arc_odd ls k h e, t) (place_of_lem (k - 1) _ (omega arith) q, place_of_lem k _ h p, refl, refl)

  pub way_arc : WayArc (ases_of ls) (way_of_direction ls ps k) (arc_at ls k)
  way_arc =
      let (e, f, g, c) = way_is in
      let (p, q) = arcs_ends ls (arc_at ls k) (arc_In ls k h) in
      let (i, x) = place-In (ases_of ls) (arc_at ls k).hearer p in
      let (j, y) = place-In (ases_of ls) (arc_at ls k).neighbour q in
      record {
        hearer_in = rw e i;
        hearer = rw e x;
        neighbour_in = rw f j;
        neighbour = rw f y;
        kind = g;
        cost = c;
      }

  -- with its neighbour's number it is an offer's arc
  pub way_over : {from : ℕ} → from ≡ get_or (ases_of ls) (way_of_direction ls ps k).neighbour 0 → OverWay (way_of_direction ls ps k) from (arc_at ls k)
  way_over e =
      let is = sym (e ∙ way_arc.neighbour) in
      record { kind = way_arc.kind; cost = way_arc.cost; rank = arcs_rank ls (arc_at ls k) (arc_In ls k h) ∙ is; neighbour = is }
