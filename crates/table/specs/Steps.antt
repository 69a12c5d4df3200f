-- What the steps of the stable table ask and say: pairs are guessed and judged, or settle phase by phase, and next hops are
-- taken over.
--
--   Lined us t u       table u is t with entries for the ASes us, each of which is its own next hop
--   pair_due d t b i    the pair that is due at entry i of t: origin at the destination d, and else that of the best offers b
--   IsDue d t b i      entry i has it
--   Agrees d t b n     so has each of the first n entries
--   due_hop d t b i    the next hop of entry i: its own at the destination d, and else that of table b
--   Hopped d b n t u   table u is t with those next hops in its first n entries
--   fault_of_sizes, Fits   what the look at sizes says, and what it finds where it passes
--   Tried              what the guess leaves in the table and the room
--   Agreed             what the choice leaves: every pair is due
use Rattle.rules.specs.Replies.{Verdict}
use Rattle.std.specs.Prelude.{ℕ, ◌*◌, ◌≤◌, ◌<◌, ◌≡◌, cond, List, ◌++◌, eqb, length, get_or}
use Rattle.rules.specs.declared.TypeLength.{TypeLength}
use Rattle.rules.specs.declared.Link.{Link}
use Rattle.rules.specs.Pairs.{origin_of}
use Rattle.rules.specs.Network.{links_of, ases_of}
use Rattle.rules.specs.Stable.{table_of}
use Rattle.rules.specs.Checks.{needed_room}
use Rattle.rules.specs.Entry.{and_then, fault_of_output, fault_of_room}
use Rattle.offers.specs.Lines.{number_word, next_word, entry_pair}
use Rattle.offers.specs.Steps.{Placed}
use Rattle.offers.specs.Passes.{offers_to}
use Rattle.table.specs.Guess.{Low}

pub record Lined (us t u : List ℕ) : Type 0 where
  pub long : length u ≡ length t
  pub number : (i : ℕ) → i < length us → number_word u i ≡ get_or us i 0
  pub next : (i : ℕ) → i < length us → next_word u i ≡ get_or us i 0
  pub rest : (w : ℕ) → 4 * length us ≤ w → get_or u w 0 ≡ get_or t w 0

abbrev pub pair_due : ℕ → List ℕ → List ℕ → ℕ → TypeLength
pair_due d t b i = cond (eqb (number_word t i) d) origin_of (entry_pair b i)

pub record IsDue (d : ℕ) (t b : List ℕ) (i : ℕ) : Type 0 where
  pub pair : pair_due d t b i ≡ entry_pair t i

abbrev pub Agrees : ℕ → List ℕ → List ℕ → ℕ → Type 0
Agrees d t b n = (i : ℕ) → i < n → IsDue d t b i

abbrev pub due_hop : ℕ → List ℕ → List ℕ → ℕ → ℕ
due_hop d t b i = cond (eqb (number_word t i) d) (next_word t i) (next_word b i)

pub record Hopped (d : ℕ) (b : List ℕ) (n : ℕ) (t u : List ℕ) : Type 0 where
  pub long : length u ≡ length t
  pub number : (i : ℕ) → number_word u i ≡ number_word t i
  pub pair : (i : ℕ) → entry_pair u i ≡ entry_pair t i
  pub next : (i : ℕ) → i < n → next_word u i ≡ due_hop d t b i
  pub rest : (w : ℕ) → 4 * n ≤ w → get_or u w 0 ≡ get_or t w 0

-- The answer to a question about an accepted network with the link words ws and the ASes us -----------------------------------

-- 8 'output' before 'working room'
abbrev pub fault_of_sizes : List ℕ → List ℕ → ℕ → ℕ → Verdict
fault_of_sizes ws us table room = and_then (fault_of_output (4 * length us) table) (fault_of_room (needed_room (length (links_of ws)) (length us)) room)

-- a table and a room of so many words are long enough
pub record Fits (ws us : List ℕ) (table room : ℕ) : Type 0 where
  pub entries : 4 * length us ≤ table
  pub words : needed_room (length (links_of ws)) (length us) ≤ room

-- table t is old with entries for the ASes us, whose lengths are low, and the first words of ps say where the links' ends stand
pub record Tried (ls : List Link) (us old t ps : List ℕ) : Type 0 where
  pub lined : Lined us old t
  pub low : Low (length us) t
  pub placed : Placed ls ps

-- table t is old with entries for the ASes us, b has the best offers under them, and each entry has the pair that is due
pub record Agreed (ls : List Link) (d : ℕ) (us old t b : List ℕ) : Type 0 where
  pub lined : Lined us old t
  pub beyond : List ℕ
  pub elected : b ≡ table_of (offers_to ls t (length us)) (ases_of ls) ++ beyond
  pub agrees : Agrees d t b (length us)
