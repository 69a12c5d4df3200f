-- What the fresh start asks and says.
--
--   Blank m j r r'     r' is r with nothing but unreachable held, and nothing waiting, on its first j directions
--   Readying, Ready    the room of m links before and after: places, index, nothing but unreachable held, and nothing waiting
--   Starting           the ASes of m links, the destination at a place among them, and memory for the machine
--   LaidOut            table and room as they are before the destination tells its neighbours
use Rattle.std.specs.Prelude.{ℕ, ◌+◌, ◌*◌, ◌≤◌, ◌<◌, ◌≡◌, List, ◌++◌, length, get_or, drop}
use Rattle.rules.specs.Pairs.{unreachable_of}
use Rattle.rules.specs.Network.{links_of, ases_of}
use Rattle.rules.specs.Stable.{table_of}
use Rattle.offers.specs.Lines.{fresh_lines}
use Rattle.offers.specs.Steps.{Placed}
use Rattle.offers.specs.Placing.{Placing}
use Rattle.machine.specs.Room.{pair_word, held_word, waiting_word, ases_in, as_at, Indexed, Laid}

pub record Blank (m j : ℕ) (r r' : List ℕ) : Type 0 where
  pub long : length r' ≡ length r
  pub places : (i : ℕ) → i < 2 * m → get_or r' i 0 ≡ get_or r i 0
  pub held : (k : ℕ) → k < j → held_word m r' k ≡ pair_word unreachable_of
  pub waiting : (k : ℕ) → k < j → waiting_word m r' k ≡ 0

pub record Readying (ws : List ℕ) (m : ℕ) (ases : List ℕ) (n : ℕ) (r : List ℕ) : Type 0 where
  pub placing : Placing ws ases n r
  pub links : length (links_of ws) ≡ m
  pub few_links : m ≤ 1536
  pub room : 8 * m + n ≤ length r

pub record Ready (ws : List ℕ) (m : ℕ) (r : List ℕ) : Type 0 where
  pub places : Placed (links_of ws) r
  pub index : Indexed m (ases_in ws) 0 r
  pub held : (k : ℕ) → k < 2 * m → held_word m r k ≡ pair_word unreachable_of
  pub waiting : (k : ℕ) → k < 2 * m → waiting_word m r k ≡ 0

pub record Starting (ws : List ℕ) (m : ℕ) (ases : List ℕ) (place : ℕ) (t r : List ℕ) : Type 0 where
  pub links : length (links_of ws) ≡ m
  pub few_links : m ≤ 1536
  pub words : length ws ≡ 3 * m
  pub listed : ases ≡ ases_of (links_of ws)
  pub few : length ases < 4294967296
  pub destination : place < length ases
  pub table : 4 * length ases ≤ length t
  pub room : 8 * m + length ases ≤ length r

pub record LaidOut (ws : List ℕ) (m place : ℕ) (t t' r' : List ℕ) : Type 0 where
  pub laid : Laid ws m t' r'
  pub lines : t' ≡ table_of (fresh_lines (as_at ws place)) (ases_of (links_of ws)) ++ drop (4 * ases_in ws) t
  pub ready : Ready ws m r'
