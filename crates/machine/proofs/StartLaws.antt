-- The fresh start, store by store: a direction more without anything held or waiting, and then the sending of the origin, which makes of
-- table and room the definition's fresh start.
use Prim.Native.Nat.{ℕ, ◌+◌, ◌*◌, ◌<◌}
use mathlib.Core.Path.{◌≡◌, refl, ◌∙◌, ap}
use mathlib.Core.List.{List, ◌++◌}
use native.Mathlib.Omega.{arith}
use lib.ListN.{length, get_or, take, drop, length-append, length-drop}
use lib.Seq.{take_at, take-length}
use Rattle.rules.specs.Pairs.{origin_of}
use Rattle.rules.specs.Network.{links_of, ases_of}
use Rattle.rules.specs.Stable.{table_of}
use Rattle.rules.specs.Machine.{nothing, fresh, started}
use Rattle.rules.proofs.ArcLaws.{direction_unique}
use Rattle.rules.proofs.MachineLaws.{fresh-Sound}
use Rattle.rules.proofs.MachineCounts.{fresh-Short}
use Rattle.rules.proofs.LineLaws.{table_length}
use Rattle.offers.specs.Lines.{fresh_lines}
use Rattle.offers.specs.Ways.{places_of}
use Rattle.offers.specs.Steps.{Placed}
use Rattle.offers.specs.Placing.{with_places}
use Rattle.offers.proofs.PlaceLaws.{places_length}
use Rattle.offers.proofs.WayLaws.{way_arc}
use Rattle.offers.proofs.TableLaws.{table_number}
use Rattle.machine.specs.Room.{pair_word, pair_of, wait_of, net_of, ases_in, as_at}
use Rattle.machine.specs.Steps.{Sent}
use Rattle.machine.specs.Runs.{no_counts, Reached}
use Rattle.machine.specs.Index.{Indexing, IndexLaid}
use Rattle.machine.specs.Start.{Blank, Readying, Ready, Starting, LaidOut}
use Rattle.machine.proofs.StateLaws.{placed_same, sent_waiting}

-- The room -----------------------------------------------------------------------------------------------------------------------

module _ {ws : List ℕ} {m : ℕ} {ases : List ℕ} {n : ℕ} {r : List ℕ} (g : Readying ws m ases n r) {p q : List ℕ} (placed : p ≡ with_places (links_of ws) r)
    (blank : Blank m (2 * m) p q) where
  front : length (places_of (ases_of (links_of ws)) (links_of ws)) ≡ 2 * length (links_of ws)
  front = places_length (ases_of (links_of ws)) (links_of ws)

  long : length q ≡ length r
  long = omega (arith, blank.long, simp (length-append, length-drop) at (ap length placed), front, g.placing.room)

  blank_places : Placed (links_of ws) q
  blank_places =
      placed_same (links_of ws) p q blank.long (λ i h. blank.places i (omega (arith, g.links)))
      (ap (take (2 * length (links_of ws))) placed ∙ take_at (places_of (ases_of (links_of ws)) (links_of ws)) _ (2 * length (links_of ws)) front)

  pub may_lay_index : Indexing m n q
  may_lay_index =
      record {
        few = g.few_links;
        room = omega (arith, long, g.room);
        hearers = λ k h. rw g.placing.count (way_arc (links_of ws) q blank_places k (omega (arith, g.links))).hearer_in;
      }

  pub room_Ready : {v : List ℕ} → IndexLaid m n 0 q v → Ready ws m v
  room_Ready {v} x =
      record {
        places = placed_same (links_of ws) q v x.long (λ i h. x.below i (omega (arith, g.links))) blank_places;
        index = rw g.placing.count at x.indexed;
        held = λ k h. x.below (2 * m + k) (omega arith) ∙ blank.held k h;
        waiting = λ k h. x.below (4 * m + k) (omega arith) ∙ blank.waiting k h;
      }

-- The whole start ----------------------------------------------------------------------------------------------------------------

module _ {ws : List ℕ} {m : ℕ} {ases : List ℕ} {place : ℕ} {t r : List ℕ} (g : Starting ws m ases place t r) where
  count : length ases ≡ ases_in ws
  count = ap length g.listed

  pub place_inside : place < ases_in ws
  place_inside = omega (arith, g.destination, count)

  whole : take (length ases) ases ≡ ases_of (links_of ws)
  whole = take-length ases ∙ g.listed

  pub may_ready : Readying ws m ases (length ases) r
  may_ready =
      record {
        placing = record { list = whole; count = count; few = g.few; room = omega (arith, g.room, g.links) };
        links = g.links;
        few_links = g.few_links;
        room = g.room;
      }

  pub lay_LaidOut : {t' q : List ℕ} {d : ℕ} → d ≡ get_or ases place 0
      → t' ≡ table_of (fresh_lines d) (take (length ases) ases) ++ drop (4 * length ases) t → Ready ws m q → LaidOut ws m place t t' q
  lay_LaidOut {t'} {q} {d} e lines ready =
      record {
        laid =
            record {
              links = g.links;
              words = g.words;
              table = omega (arith, simp length-append at (ap length table_is), table_length (fresh_lines (as_at ws place)) us);
              numbers = λ i h. rw table_is (table_number (fresh_lines (as_at ws place)) (drop (4 * ases_in ws) t) us i h);
              room = omega (arith, ready.index.room);
              places = ready.places;
              index = ready.index;
            };
        lines = table_is;
        ready = ready;
      }
    where
      us : List ℕ
      us = ases_of (links_of ws)

      table_is : t' ≡ table_of (fresh_lines (as_at ws place)) (ases_of (links_of ws)) ++ drop (4 * ases_in ws) t
      table_is = lines ∙ rw (e, g.listed, take-length (ases_of (links_of ws)))

-- after the origin is sent
pub LaidOut-started : {ws : List ℕ} {m place : ℕ} {t t' q v : List ℕ} {w : ℕ} → LaidOut ws m place t t' q → place < ases_in ws
    → Sent m place w (2 * m) q v → w ≡ pair_word origin_of
    → Reached ws m place (drop (4 * ases_in ws) t) (started (net_of ws) (as_at ws place)) no_counts t' v
unfolding started fresh
LaidOut-started {ws} {m} {place} {t} {t'} {q} {v} {w} x inside sent origin =
    record {
      holds =
          record {
            lines = x.lines;
            held = λ k h. ap pair_of (sent.below (2 * m + k) (omega arith) ∙ x.ready.held k h);
            waiting =
                sent_waiting x.laid inside (omega arith) (omega arith) (rw origin at sent) (λ i. nothing)
                (λ k h. ap wait_of (x.ready.waiting k h));
          };
      sound = fresh-Sound (net_of ws) (direction_unique (links_of ws)) (as_at ws place);
      short = fresh-Short (net_of ws) (as_at ws place) 0;
      made = refl;
      idle = refl;
    }
