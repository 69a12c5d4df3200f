-- One direction of the pass: its ends' entries are there, the hearer's entry is its best offer so far, the neighbour's pair is what it
-- tells, and the better of the two changes the hearer's entry alone.
use Prim.Native.Nat.{ℕ, ◌+◌, ◌*◌, ◌≤◌, ◌<◌}
use mathlib.Core.Path.{◌≡◌, refl, sym, ◌∙◌, ap}
use mathlib.Core.Logic.{◌≢◌}
use mathlib.Core.List.{List, ◌++◌}
use native.Mathlib.Omega.{arith}
use lib.ListN.{length, get_or, take, drop, length-take, take-append-drop}
use Rattle.rules.specs.declared.Link.{Link}
use Rattle.rules.specs.declared.TypeLength.{TypeLength}
use Rattle.rules.specs.Lists.{In}
use Rattle.rules.specs.Offers.{Arc, Offer, offer, choose, best}
use Rattle.rules.specs.Network.{ases_of, arcs_of}
use Rattle.rules.specs.Stable.{Line, line_of, told, table_of}
use Rattle.rules.proofs.NetworkLaws.{ases_Distinct}
use Rattle.rules.proofs.ArcLaws.{arcs_length, arcs_rank}
use Rattle.rules.proofs.LineLaws.{table_length}
use Rattle.offers.specs.declared.Way.{Way}
use Rattle.offers.specs.declared.Offered.{Offered}
use Rattle.offers.specs.Lines.{number_word, entry_pair, entry_line, with_line, printed}
use Rattle.offers.specs.Ways.{no_arc, arc_at, way_of_direction}
use Rattle.offers.specs.Passes.{as_offer}
use Rattle.offers.specs.Steps.{ranked_offer, OverWay, told_offer, Telling}
use Rattle.offers.specs.Electing.{entry_offer, with_better, best_after, with_heard, Electing, Hearer, Hearing}
use Rattle.offers.proofs.PlaceLaws.{Placed-long}
use Rattle.offers.proofs.WayLaws.{WayArc, way_arc, way_over}
use Rattle.offers.proofs.TableLaws.{table_line, table_put, printed_at}
use Rattle.offers.proofs.ConsiderLaws.{considered}
use Rattle.offers.proofs.ElectLaws.{take_in, best_own, best_other, best-line, best-Fair}

module _ {ls : List Link} {ps t b : List ℕ} {k : ℕ} (pass : Electing ls ps t (length (ases_of ls))) (w : Hearing ls t b k) where
  rest : List ℕ
  rest = drop (4 * length (ases_of ls)) b

  -- what the arc's neighbour tells, and its hearer's best offer so far
  tells : Arc → TypeLength
  tells = told (printed (length (ases_of ls)) t)

  sofar : ℕ → Offer
  unfolding tells
  sofar u = best tells u (take k (arcs_of ls))

  pub places_long : 2 * length ls ≤ length ps
  places_long = Placed-long ls ps pass.placed

  best_long : 4 * length (ases_of ls) ≤ length b
  best_long =
      omega (arith, simp length-take at (ap length w.sofar), table_length (best_after ls t (length (ases_of ls)) k) (ases_of ls))

  split : b ≡ table_of (best_after ls t (length (ases_of ls)) k) (ases_of ls) ++ rest
  unfolding rest
  split = sym (take-append-drop (4 * length (ases_of ls)) b) ∙ ap (λ (q : List ℕ). q ++ rest) w.sofar

  ranked : (a : Arc) → In a (take k (arcs_of ls)) → a.rank ≡ a.neighbour
  ranked a m = arcs_rank ls a (take_in a (arcs_of ls) k m)

  -- r: the direction as the code reads it
  module _ {r : Way} (is : r ≡ way_of_direction ls ps k) where
    on : WayArc (ases_of ls) r (arc_at ls k)
    on = rw is (way_arc ls ps pass.placed k w.within)

    -- the hearer's entry
    line_is : entry_line b r.hearer ≡ line_of (sofar (arc_at ls k).hearer)
    unfolding sofar tells
    line_is =
        ap (λ (q : List ℕ). entry_line q r.hearer) split
        ∙ table_line (best_after ls t (length (ases_of ls)) k) rest (ases_of ls) r.hearer on.hearer_in
        ∙ ap (best_after ls t (length (ases_of ls)) k) on.hearer

    held_is : as_offer (entry_offer b r.hearer) ≡ sofar (arc_at ls k).hearer
    unfolding sofar
    held_is =
        ap (λ (l : Line). as_offer (ranked_offer l.pair l.next)) line_is
        ∙ best-line tells (arc_at ls k).hearer (take k (arcs_of ls)) ranked

    pub hearer : Hearer b r
    unfolding sofar
    hearer = record {
      within = omega (arith, on.hearer_in, best_long);
      fair =
          rw (ap (λ (l : Line). ranked_offer l.pair l.next) line_is)
          (best-Fair tells (arc_at ls k).hearer (take k (arcs_of ls)) ranked);
    }

    pub telling : Telling r t
    telling = record {
      within = omega (arith, on.neighbour_in, pass.room);
      fits = omega (arith, ap (λ (x : Way). x.cost) is, pass.wide.short r.neighbour on.neighbour_in);
    }

    -- the neighbour's
    tells_is : tells (arc_at ls k) ≡ entry_pair t r.neighbour
    unfolding tells
    tells_is =
        ap (λ (l : Line). l.pair)
        (ap (printed (length (ases_of ls)) t) (sym on.neighbour)
        ∙ printed_at (ases_of ls) t (ases_Distinct ls) pass.room pass.numbers r.neighbour on.neighbour_in)

    over : OverWay r (number_word t r.neighbour) (arc_at ls k)
    over =
        rw is (way_over ls ps pass.placed k w.within (pass.numbers (way_of_direction ls ps k).neighbour (way_arc ls ps pass.placed k w.within).neighbour_in))

    -- the better of the two
    abbrev chosen : Offer
    chosen = choose (as_offer (entry_offer b r.hearer)) (as_offer (told_offer t r))

    within : k < length (arcs_of ls)
    within = omega (arith, arcs_length 0 ls, w.within)

    own : best_after ls t (length (ases_of ls)) (k + 1) (get_or (ases_of ls) r.hearer 0) ≡ line_of chosen
    unfolding sofar tells
    own =
        let o : Offered = record { pair = chosen.pair; rank = chosen.rank; next = chosen.next } in
        ap (best_after ls t (length (ases_of ls)) (k + 1)) on.hearer
        ∙ ap line_of
        (best_own tells (arc_at ls k).hearer (arcs_of ls) no_arc k within refl
        ∙ ap (λ (o : Offer). choose o (offer (arc_at ls k) (tells (arc_at ls k)))) (sym held_is)
        ∙ ap (λ (p : TypeLength). choose (as_offer (entry_offer b r.hearer)) (offer (arc_at ls k) p)) tells_is
        ∙ sym ((considered hearer.fair refl {r = o} refl).chosen (arc_at ls k) over))

    other : (v : ℕ) → v ≢ get_or (ases_of ls) r.hearer 0
        → best_after ls t (length (ases_of ls)) (k + 1) v ≡ best_after ls t (length (ases_of ls)) k v
    unfolding tells
    other v ne = ap line_of (best_other tells v (arcs_of ls) no_arc k within (λ e. ne (sym (on.hearer ∙ e))))

    pub heard_more : with_better b r.hearer (told_offer t r) ≡ with_heard ls t (k + 1) b
    unfolding rest
    heard_more =
        let R = best_after ls t (length (ases_of ls)) k in
        let S = best_after ls t (length (ases_of ls)) (k + 1) in
        ap (λ (q : List ℕ). with_line q r.hearer (line_of chosen)) split
        ∙ ap (λ (l : Line). with_line (table_of R (ases_of ls) ++ rest) r.hearer l) (sym own)
        ∙ table_put R rest S (ases_of ls) (ases_Distinct ls) r.hearer on.hearer_in other
