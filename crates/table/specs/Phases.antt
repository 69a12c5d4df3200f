-- The three phases of the stable table: phase f gives lines of type f, and is done when no way gives a better one.
--
--   offered_at t w     the pair that way w gives its hearer, its neighbour's line being the table's
--   gains f cap o p    the offered pair o is of type f, no longer than cap, and wins against the pair p
--   wants f cap t w    so it is with what way w gives, and its hearer's line
--   heard_over t w     the table with that pair in its hearer's line
--   Reached way e f cap t u   u is t after gains over the first e ways
--   CalmBelow way f cap k t   none of the first k ways gives more
--   weight, height     what an entry, and the first n entries, can still fall by
--   Ready ws ps cap t  what a phase asks: places of the links' ends, and a table of their ASes with no length above the cap
--   Passed, Settled, Phased   what a pass, a phase, and all phases below one leave
use Rattle.std.specs.Prelude.{ℕ, zero, suc, ◌+◌, ◌*◌, ◌≤◌, ◌<◌, ◌≡◌, Bool, true, false, cond, ◌&&◌, List, leb, eqb, length}
use Rattle.rules.specs.declared.TypeLength.{TypeLength}
use Rattle.rules.specs.declared.Link.{Link}
use Rattle.rules.specs.Pairs.{extension, beats_of}
use Rattle.rules.specs.Network.{links_of, ases_of}
use Rattle.offers.specs.declared.Way.{Way}
use Rattle.offers.specs.Lines.{type_word, length_word, next_word, entry_pair, with_line}
use Rattle.offers.specs.Ways.{way_of_direction}
use Rattle.offers.specs.Steps.{Placed}

-- Gains --------------------------------------------------------------------------------------------------------------------

abbrev pub offered_at : List ℕ → Way → TypeLength
offered_at t w = extension w.kind w.cost (entry_pair t w.neighbour)

abbrev pub gains : ℕ → ℕ → TypeLength → TypeLength → Bool
gains f cap o p = (eqb o.typ f && leb o.length cap) && beats_of o p

abbrev pub wants : ℕ → ℕ → List ℕ → Way → Bool
wants f cap t w = gains f cap (offered_at t w) (entry_pair t w.hearer)

abbrev pub heard_over : List ℕ → Way → List ℕ
heard_over t w = with_line t w.hearer (record { pair = offered_at t w; next = next_word t w.hearer })

-- both ends of way w have entries in the table, and the neighbour's length leaves room for the way's cost
pub record Joins (t : List ℕ) (w : Way) : Type 0 where
  pub hearer : 4 * w.hearer + 4 ≤ length t
  pub neighbour : 4 * w.neighbour + 4 ≤ length t
  pub wide : length_word t w.neighbour + w.cost < 4294967296

-- table u after way w was looked at, and whether its hearer gained
abbrev pub Taken : ℕ → ℕ → List ℕ → Way → List ℕ → Bool → Type 0
Taken f cap t w u true = (wants f cap t w ≡ true) × (u ≡ heard_over t w)
Taken f cap t w u false = (wants f cap t w ≡ false) × (u ≡ t)

pub data Reached (way : ℕ → Way) (e f cap : ℕ) (t : List ℕ) : List ℕ → Type 0 where
  begun : Reached way e f cap t t
  gained : (u : List ℕ) (k : ℕ) → Reached way e f cap t u → k < e → wants f cap u (way k) ≡ true
      → Reached way e f cap t (heard_over u (way k))

abbrev pub CalmBelow : (ℕ → Way) → ℕ → ℕ → ℕ → List ℕ → Type 0
CalmBelow way f cap k t = (j : ℕ) → j < k → wants f cap t (way j) ≡ false

-- How far a table can fall -------------------------------------------------------------------------------------------------

-- an entry of type f by its length, any other by more than the cap
abbrev pub weight : ℕ → ℕ → List ℕ → ℕ → ℕ
weight f cap t i = cond (eqb (type_word t i) f) (length_word t i) (suc cap)

unfoldable pub sum : (ℕ → ℕ) → ℕ → ℕ
sum g zero = 0
sum g (suc n) = sum g n + g n

abbrev pub height : ℕ → ℕ → ℕ → List ℕ → ℕ
height f cap n t = sum (weight f cap t) n

-- u is lower than t, or it is t, and calm
abbrev pub Moved : Type 0 → ℕ → ℕ → ℕ → List ℕ → List ℕ → Bool → Type 0
Moved calm f cap n t u true = height f cap n u < height f cap n t
Moved calm f cap n t u false = (u ≡ t) × calm

-- Passes and phases --------------------------------------------------------------------------------------------------------

-- no length of the first n entries is above the cap
abbrev pub Short : ℕ → ℕ → List ℕ → Type 0
Short cap n t = (i : ℕ) → i < n → length_word t i ≤ cap

pub record Ready (ws ps : List ℕ) (cap : ℕ) (t : List ℕ) : Type 0 where
  pub whole : length ws ≡ 3 * length (links_of ws)
  pub placed : Placed (links_of ws) ps
  pub room : 4 * length (ases_of (links_of ws)) ≤ length t
  pub short : Short cap (length (ases_of (links_of ws))) t
  pub fits : cap < 4294967295

-- table u after the first k ways were looked at, from t, and whether any hearer gained
pub record Passed (ls : List Link) (ps : List ℕ) (k f cap : ℕ) (t u : List ℕ) (r : Bool) : Type 0 where
  pub reached : Reached (way_of_direction ls ps) (2 * length ls) f cap t u
  pub moved : Moved (CalmBelow (way_of_direction ls ps) f cap k t) f cap (length (ases_of ls)) t u r

-- table u after all of phase f, from t
pub record Settled (ls : List Link) (ps : List ℕ) (f cap : ℕ) (t u : List ℕ) : Type 0 where
  pub reached : Reached (way_of_direction ls ps) (2 * length ls) f cap t u
  pub calm : CalmBelow (way_of_direction ls ps) f cap (2 * length ls) u

-- table u after the phases below f, from t
pub data Phased (ls : List Link) (ps : List ℕ) (cap : ℕ) (t : List ℕ) : ℕ → List ℕ → Type 0 where
  first_phase : Phased ls ps cap t 1 t
  next_phase : (f g : ℕ) (u v : List ℕ) → Phased ls ps cap t f u → Settled ls ps f cap u v → g ≡ f + 1 → Phased ls ps cap t g v
