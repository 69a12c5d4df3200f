-- What the making of the index asks and says.
--
--   Indexing m n r     room r has words for the index of m links and n ASes, and its places are below n
--   NoHeads m j r r'   r' is r with 2m as the heads of the first j places
--   HasHead m k r      room r has a head for who hears over direction k, and it is a direction or 2m
--   with_direction m r k  room r with direction k in front of those that its hearer hears over
--   IndexLaid m n k r r'   r' is r with the index of the directions from k on
use Rattle.std.specs.Prelude.{ℕ, ◌+◌, ◌*◌, ◌≤◌, ◌<◌, ◌≡◌, List, length, get_or, set}
use Rattle.machine.specs.Room.{head_word, hearer_word, Indexed}

pub record Indexing (m n : ℕ) (r : List ℕ) : Type 0 where
  pub few : m ≤ 1536
  pub room : 8 * m + n ≤ length r
  pub hearers : (k : ℕ) → k < 2 * m → hearer_word r k < n

pub record NoHeads (m j : ℕ) (r r' : List ℕ) : Type 0 where
  pub long : length r' ≡ length r
  pub below : (i : ℕ) → i < 8 * m → get_or r' i 0 ≡ get_or r i 0
  pub heads : (u : ℕ) → u < j → head_word m r' u ≡ 2 * m

pub record HasHead (m k : ℕ) (r : List ℕ) : Type 0 where
  pub few : m ≤ 1536
  pub direction : k < 2 * m
  pub room : 8 * m + hearer_word r k < length r
  pub head : head_word m r (hearer_word r k) ≤ 2 * m

abbrev pub with_direction : ℕ → List ℕ → ℕ → List ℕ
with_direction m r k = set (set r (6 * m + k) (head_word m r (hearer_word r k))) (8 * m + hearer_word r k) k

pub record IndexLaid (m n k : ℕ) (r r' : List ℕ) : Type 0 where
  pub long : length r' ≡ length r
  pub below : (i : ℕ) → i < 6 * m → get_or r' i 0 ≡ get_or r i 0
  pub indexed : Indexed m n k r'
