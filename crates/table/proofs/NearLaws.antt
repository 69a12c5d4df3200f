-- The three phases over a table: they leave the pairs of the stable routing. A gain over way k is one over arc k, entries stand for
-- their ASes, and `CloseLaws` says the rest.
--
--   Near S d f us t    every AS of us has a pair in table t that is close to S's in phase f
use Prim.Native.Nat.{ℕ, suc, ◌*◌, ◌≤◌, ◌<◌}
use mathlib.Core.Path.{◌≡◌, refl, sym, ◌∙◌, ap}
use mathlib.Core.Logic.{◌≢◌}
use mathlib.Core.Bool.{true, false}
use mathlib.Core.List.{List}
use native.Mathlib.Omega.{arith}
use native.Mathlib.Decide.{ℕ_discrete}
use lib.ListN.{length, get_or}
use Rattle.rules.specs.declared.Link.{Link}
use Rattle.rules.specs.Pairs.{extension}
use Rattle.rules.specs.Lists.{In}
use Rattle.rules.specs.Offers.{Arc}
use Rattle.rules.specs.Network.{ases_of, arcs_of}
use Rattle.rules.specs.Stable.{Routing}
use Rattle.rules.proofs.Faces.{len, Marked}
use Rattle.rules.proofs.NetworkLaws.{ases_Distinct}
use Rattle.rules.proofs.ArcLaws.{arcs_ends, arcs_positive, arcs_length}
use Rattle.rules.proofs.ListLaws.{in_at}
use Rattle.offers.specs.declared.Way.{Way}
use Rattle.offers.specs.Lines.{entry_pair}
use Rattle.offers.specs.Ways.{index_in, way_of_direction, arc_at, no_arc}
use Rattle.offers.specs.Steps.{Placed}
use Rattle.offers.proofs.PlaceLaws.{place-In, place_at}
use Rattle.offers.proofs.WayLaws.{arc_In, way_arc}
use Rattle.table.specs.Phases.{offered_at, gains, wants, heard_over, Reached, CalmBelow, Settled}
use Rattle.table.proofs.CloseLaws.{Close, gains_means, Gain-Close, Close-next, close_last}
use Rattle.table.proofs.PhaseLaws.{gain_pair, gain_other, gain_Framed, Reached-keeps}

abbrev pub Near : Routing → ℕ → ℕ → List ℕ → List ℕ → Type 0
Near S d f us t = (u : ℕ) → In u us → Close S d f u (entry_pair t (index_in us u))

module _ (ls : List Link) (ps : List ℕ) (placed : Placed ls ps) where
  abbrev us : List ℕ
  us = ases_of ls

  abbrev way : ℕ → Way
  way = way_of_direction ls ps

  -- way k seen from arc k
  record OverArc (w : Way) (a : Arc) : Type 0 where
    hearer : w.hearer ≡ index_in us a.hearer
    neighbour : w.neighbour ≡ index_in us a.neighbour
    kind : w.kind ≡ a.kind
    cost : w.cost ≡ a.cost

  over_arc : (k : ℕ) → k < 2 * length ls → OverArc (way k) (arc_at ls k)
  over_arc k h =
      let w = way_arc ls ps placed k h in
      record {
        hearer = sym (place_at us (ases_Distinct ls) (way k).hearer w.hearer_in) ∙ ap (index_in us) w.hearer;
        neighbour = sym (place_at us (ases_Distinct ls) (way k).neighbour w.neighbour_in) ∙ ap (index_in us) w.neighbour;
        kind = sym w.kind;
        cost = sym w.cost;
      }

  offered_over : (t : List ℕ) (w : Way) (a : Arc) → OverArc w a → offered_at t w ≡ extension a.kind a.cost (entry_pair t (index_in us a.neighbour))
  offered_over t w a o = rw (o.kind, o.cost, o.neighbour)

  -- One phase ----------------------------------------------------------------------------------------------------------------

  module _ (d cap : ℕ) (S : Routing) (m : Marked (λ a. In a (arcs_of ls)) d S) (short : (u : ℕ) → len S u ≤ cap) where
    -- one gain
    Near-gain : (f : ℕ) → 1 ≤ f → f ≤ 3 → (t : List ℕ) → 4 * length us ≤ length t → (k : ℕ) → k < 2 * length ls
        → wants f cap t (way k) ≡ true → Near S d f us t → Near S d f us (heard_over t (way k))
    Near-gain f low high t room k h want near u is = at (ℕ_discrete u a.hearer)
      where
        a : Arc
        a = arc_at ls k

        o : OverArc (way k) a
        o = over_arc k h

        within : (way k).hearer < length us
        within = (way_arc ls ps placed k h).hearer_in

        at : Dec (u ≡ a.hearer) → Close S d f u (entry_pair (heard_over t (way k)) (index_in us u))
        at (yes e) =
            let ends = arcs_ends ls a (arc_In ls k h) in
            let g = gains_means f cap (offered_at t (way k)) (entry_pair t (way k).hearer) want in
            let c = Gain-Close (λ b. In b (arcs_of ls)) d S m f cap low high a (arc_In ls k h) (entry_pair t (index_in us a.hearer))
            (entry_pair t (index_in us a.neighbour)) (near a.hearer ends.0) (near a.neighbour ends.1)
            (rw (offered_over t (way k) a o, o.hearer) at g) in
            rw (e, ← o.hearer, gain_pair f cap (length us) t (way k) room within want, offered_over t (way k) a o) c
        at (no ne) =
            let apart : index_in us u ≢ (way k).hearer
            = (λ e. ne (sym (place-In us u is).1 ∙ ap (λ (i : ℕ). get_or us i 0) e ∙ (way_arc ls ps placed k h).hearer)) in
            rw (gain_other f cap (length us) t (way k) room within want (index_in us u) apart) (near u is)

    Near-Reached : (f : ℕ) → 1 ≤ f → f ≤ 3 → {t u : List ℕ} → 4 * length us ≤ length t → Reached way (2 * length ls) f cap t u
        → Near S d f us t → (length u ≡ length t) × Near S d f us u
    Near-Reached f low high {t} room r near =
        Reached-keeps (λ v. (length v ≡ length t) × Near S d f us v)
        (λ v k h want (e, p). (
          (gain_Framed f cap (length us) v (way k) (omega arith) (way_arc ls ps placed k h).hearer_in want).long ∙ e,
          Near-gain f low high v (omega arith) k h want p,
        ))
        r (refl, near)

    -- a calm way is a calm arc
    near_calm : (f : ℕ) (t : List ℕ) → CalmBelow way f cap (2 * length ls) t → (a : Arc) → In a (arcs_of ls)
        → gains f cap (extension a.kind a.cost (entry_pair t (index_in us a.neighbour))) (entry_pair t (index_in us a.hearer)) ≡ false
    near_calm f t calm a is =
        let (k, h, e) = in_at no_arc (arcs_of ls) a is in
        let g : k < 2 * length ls = omega (arith, arcs_length 0 ls) in
        let o = over_arc k g in
        let c = calm k g in
        rw (← e) (rw (offered_over t (way k) (arc_at ls k) o, o.hearer) at c)

    module _ (f : ℕ) (low : 1 ≤ f) (t u : List ℕ) (room : 4 * length us ≤ length t) (s : Settled ls ps f cap t u) where
      -- the next phase begins
      pub near_next : f < 3 → Near S d f us t → Near S d (suc f) us u
      near_next l near =
          Close-next (λ a. In a (arcs_of ls)) d S m f cap low (omega arith) (λ v. In v us) (λ a h. (arcs_ends ls a h).1)
          (arcs_positive ls) short (λ v. entry_pair u (index_in us v))
          (Near-Reached f low (omega arith) room s.reached near).1 (near_calm f u s.calm) l

      pub near_last : f ≡ 3 → Near S d f us t → (v : ℕ) → In v us → entry_pair u (index_in us v) ≡ (S v).pair
      near_last e near =
          close_last (λ a. In a (arcs_of ls)) d S m f cap low (omega arith) (λ v. In v us) (λ a h. (arcs_ends ls a h).1)
          (arcs_positive ls) short (λ v. entry_pair u (index_in us v))
          (Near-Reached f low (omega arith) room s.reached near).1 (near_calm f u s.calm) e
