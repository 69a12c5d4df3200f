-- Which words of the room hold what. For m links there are 2m directions:
--   words 0 to 2m        places: where who tells over direction k stands among the ascending ASes
--   words 2m to 4m       held: the pair last delivered on direction k, as one word
--   words 4m to 6m       waiting: the pair that waits on direction k, as one word, or 0
--   words 6m to 8m       nexts: the next direction after k over which the same AS hears, or 2m
--   words 8m to 8m + n   heads: the first direction over which the AS at place u hears, or 2m, for n ASes
-- The lines stand in the lent table. Beside them stand 64 flags, one for each block of 48 directions:
--   flag b               false only where nothing waits on the directions 48b to 48b + 48
--
--   pair_word p        a pair as one word; pair_of w   and back
--   wait_of w          what the word w on a direction says: nothing waits, or a pair does
--   place_word r k, held_word m r k, waiting_word m r k, next_word m r k  the words of direction k; head_word m r u   of the AS at place u
--   hearer_word r k    the place of who hears over direction k
--   flag_at f k        the flag of direction k's block
--   net_of ws, as_at ws i  the arcs of the link words ws, and their AS at place i
--   Flagged m r f      nothing waits in room r on a direction whose block has no flag in f
--   HeardFrom m r u k j   j is the first direction from k on over which the AS at place u hears, or 2m
--   Indexed m n k r    heads and nexts of room r are so, for n ASes and the directions from k on
--   Laid ws m t r      table t has the numbers and room r the places and the index of the m links of ws
--   Holds ws m rest s t r   table t, before the words rest, and room r hold the machine's state s
use Rattle.std.specs.Prelude.{ℕ, ◌+◌, ◌*◌, ◌/◌, ◌%◌, ◌≤◌, ◌<◌, ◌≡◌, ◌≢◌, Bool, false, cond, List, ◌++◌, eqb, length, get_or}
use Rattle.rules.specs.declared.TypeLength.{TypeLength}
use Rattle.rules.specs.Offers.{Arc}
use Rattle.rules.specs.Network.{links_of, ases_of, arcs_of}
use Rattle.rules.specs.Stable.{table_of}
use Rattle.rules.specs.Machine.{State, Waiting, nothing, waits}
use Rattle.offers.specs.Lines.{number_word}
use Rattle.offers.specs.Ways.{partner}
use Rattle.offers.specs.Steps.{Placed}

abbrev pub pair_word : TypeLength → ℕ
pair_word p = 268435456 * p.typ + p.length

abbrev pub pair_of : ℕ → TypeLength
pair_of w = record { typ = w / 268435456; length = w % 268435456 }

abbrev pub wait_of : ℕ → Waiting
wait_of w = cond (eqb w 0) nothing (waits (pair_of w))

abbrev pub place_word : List ℕ → ℕ → ℕ
place_word r k = get_or r k 0

abbrev pub held_word : ℕ → List ℕ → ℕ → ℕ
held_word m r k = get_or r (2 * m + k) 0

abbrev pub waiting_word : ℕ → List ℕ → ℕ → ℕ
waiting_word m r k = get_or r (4 * m + k) 0

abbrev pub next_word : ℕ → List ℕ → ℕ → ℕ
next_word m r k = get_or r (6 * m + k) 0

abbrev pub head_word : ℕ → List ℕ → ℕ → ℕ
head_word m r u = get_or r (8 * m + u) 0

abbrev pub hearer_word : List ℕ → ℕ → ℕ
hearer_word r k = get_or r (partner k) 0

abbrev pub flag_at : List Bool → ℕ → Bool
flag_at f k = get_or f (k / 48) false

abbrev pub net_of : List ℕ → List Arc
net_of ws = arcs_of (links_of ws)

abbrev pub ases_in : List ℕ → ℕ
ases_in ws = length (ases_of (links_of ws))

abbrev pub as_at : List ℕ → ℕ → ℕ
as_at ws i = get_or (ases_of (links_of ws)) i 0

pub record Flagged (m : ℕ) (r : List ℕ) (f : List Bool) : Type 0 where
  pub few : m ≤ 1536
  pub flags : length f ≡ 64
  pub room : 6 * m ≤ length r
  pub idle : (k : ℕ) → k < 2 * m → flag_at f k ≡ false → waiting_word m r k ≡ 0

pub record HeardFrom (m : ℕ) (r : List ℕ) (u k j : ℕ) : Type 0 where
  pub after : k ≤ j
  pub bound : j ≤ 2 * m
  pub passed : (i : ℕ) → k ≤ i → i < j → hearer_word r i ≢ u
  pub own : j < 2 * m → hearer_word r j ≡ u

pub record Indexed (m n k : ℕ) (r : List ℕ) : Type 0 where
  pub room : 8 * m + n ≤ length r
  pub heads : (u : ℕ) → u < n → HeardFrom m r u k (head_word m r u)
  pub nexts : (i : ℕ) → k ≤ i → i < 2 * m → HeardFrom m r (hearer_word r i) (i + 1) (next_word m r i)

pub record Laid (ws : List ℕ) (m : ℕ) (t r : List ℕ) : Type 0 where
  pub links : length (links_of ws) ≡ m
  pub words : length ws ≡ 3 * m
  pub table : 4 * ases_in ws ≤ length t
  pub numbers : (i : ℕ) → i < ases_in ws → number_word t i ≡ as_at ws i
  pub room : 6 * m ≤ length r
  pub places : Placed (links_of ws) r
  pub index : Indexed m (ases_in ws) 0 r

pub record Holds (ws : List ℕ) (m : ℕ) (rest : List ℕ) (s : State) (t r : List ℕ) : Type 0 where
  pub lines : t ≡ table_of s.lines (ases_of (links_of ws)) ++ rest
  pub held : (k : ℕ) → k < 2 * m → pair_of (held_word m r k) ≡ s.held k
  pub waiting : (k : ℕ) → k < 2 * m → wait_of (waiting_word m r k) ≡ s.waiting k
