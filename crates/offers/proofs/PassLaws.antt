-- The pass: entries without offers, then one direction after the other. After k directions entry i is the best offer to AS i over the
-- first k arcs; direction k changes the entry of its hearer alone.
--
--   HeardAt ls t k old new   new is old with the best offers over the first k directions in front
use Prim.Native.Nat.{ℕ, ◌*◌, ◌<◌}
use mathlib.Core.Path.{◌≡◌, refl, ◌∙◌, ap}
use mathlib.Core.List.{List, ◌++◌}
use native.Mathlib.Omega.{arith}
use lib.ListN.{length, take, drop}
use lib.Seq.{take_at, drop_at, take_all}
use Rattle.rules.specs.declared.Link.{Link}
use Rattle.rules.specs.Offers.{Arc, none, elect, best}
use Rattle.rules.specs.Network.{ases_of, arcs_of}
use Rattle.rules.specs.Stable.{lost, line_of, told, table_of}
use Rattle.rules.proofs.ArcLaws.{arcs_length}
use Rattle.rules.proofs.LineLaws.{table_length, table_same}
use Rattle.offers.specs.Lines.{printed}
use Rattle.offers.specs.Electing.{best_after, with_heard, with_offers, Electing, Hearing}

-- Directions ------------------------------------------------------------------------------------------------------------------

pub record HeardAt (ls : List Link) (t : List ℕ) (k : ℕ) (old new : List ℕ) : Type 0 where
  pub words : new ≡ with_heard ls t k old

module _ {ls : List Link} {t : List ℕ} {k : ℕ} {old new : List ℕ} (e : HeardAt ls t k old new) where
  heard_front : take (4 * length (ases_of ls)) new ≡ table_of (best_after ls t (length (ases_of ls)) k) (ases_of ls)
  heard_front =
      let R = best_after ls t (length (ases_of ls)) k in
      ap (take (4 * length (ases_of ls))) e.words
      ∙ take_at (table_of R (ases_of ls)) (drop (4 * length (ases_of ls)) old) (4 * length (ases_of ls)) (table_length R (ases_of ls))

  heard_rest : drop (4 * length (ases_of ls)) new ≡ drop (4 * length (ases_of ls)) old
  heard_rest =
      let R = best_after ls t (length (ases_of ls)) k in
      ap (drop (4 * length (ases_of ls))) e.words
      ∙ drop_at (table_of R (ases_of ls)) (drop (4 * length (ases_of ls)) old) (4 * length (ases_of ls)) (table_length R (ases_of ls))

  pub heard_next : (j : ℕ) {newer : List ℕ} → newer ≡ with_heard ls t j new → HeardAt ls t j old newer
  heard_next j f = record { words = rw heard_rest at f }

  pub hearing : k < 2 * length ls → Hearing ls t new k
  hearing h = record { within = h; sofar = heard_front }

  module _ {ps : List ℕ} {n : ℕ} (w : Electing ls ps t n) where
    -- after the last direction
    pub heard_all : k ≡ 2 * length ls → new ≡ with_offers ls t n old
    heard_all h =
        e.words
        ∙ rw w.count
        (ap (λ (net : List Arc). table_of (λ u. line_of (best (told (printed (length (ases_of ls)) t)) u net)) (ases_of ls) ++ drop (4 * length (ases_of ls)) old)
        (take_all k (arcs_of ls) (omega (arith, arcs_length 0 ls))))

-- before the first
pub heard_none : {ls : List Link} {ps t : List ℕ} {n : ℕ} → Electing ls ps t n → {old new : List ℕ} → new ≡ table_of lost (ases_of ls) ++ drop (4 * n) old
    → HeardAt ls t 0 old new
unfolding best elect none lost
heard_none {ls} {t = t} w {old} e =
    let same = table_same lost (best_after ls t (length (ases_of ls)) 0) (ases_of ls) (λ i h. refl) in
    record { words = e ∙ rw (same, w.count) }
