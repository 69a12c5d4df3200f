-- The two tables of the check, of ASes and of pairs, and what its steps promise of them.
--
--   home_of_as homes x  where the search for AS x begins; is_as x v   slot value v is it
--   home_of_pair homes l  where the search for the pair of link l begins; is_pair ws l v   slot value v is a link that joins it
--   Counted homes known t n   table t holds the n ASes known
--   Pairs homes ws i t   table t holds the links before place i, link j as j + 1
--   After limits ws i n seats pairs   both tables, after the links before place i
--   Fresh limits seats pairs   two tables of zeros, long enough to check links within the limits
--   Open, Noted, NotedEnds, Places, Pairing, Paired, Sized, Stepping, Stepped, Starting   what the steps ask and say
use Rattle.rules.specs.declared.Refusal.{Refusal}
use Rattle.std.specs.Prelude.{◌≡◌, ℕ, ◌+◌, ◌-◌, ◌*◌, ◌/◌, ◌%◌, ◌<◌, ◌≤◌, Bool, false, ◌≢◌, List, length, replicate, ◌==◌, Err, Ok, Result}
use Rattle.rules.specs.declared.Link.{Link}
use Rattle.rules.specs.declared.Limits.{Limits}
use Rattle.rules.specs.Lists.{In, any_of}
use Rattle.rules.specs.Network.{link_in_words, insert, with_ends}
use Rattle.rules.specs.Checks.{is_same_pair}
use Rattle.network.specs.Prefix.{seen_at, ases_at, check_at}
use Rattle.network.specs.Slots.{slot, filled, spread_of, Homed, Seated, Stored}
use Rattle.rules.specs.Ascending.{Ascending}
use Rattle.network.specs.Promises.{per_link, count_of, HasLink}

unfoldable pub home_of_as : ℕ → ℕ → ℕ
home_of_as homes x = spread_of homes (x * 1640531527)

abbrev pub is_as : ℕ → ℕ → Bool
is_as x v = v == x

abbrev pub folded : ℕ → ℕ
folded m = m % 4294967296 + 5 * (m / 4294967296)

-- from the product of the ends, which does not go by their order
unfoldable pub home_of_pair : ℕ → Link → ℕ
home_of_pair homes l = spread_of homes (folded (l.a * l.b) * 663608941)

abbrev pub is_pair : List ℕ → Link → ℕ → Bool
is_pair ws l v = is_same_pair l (link_in_words ws (v - 1))

abbrev pub home_of_link : ℕ → List ℕ → ℕ → ℕ
home_of_link homes ws v = home_of_pair homes (link_in_words ws (v - 1))

pub record Counted (homes : ℕ) (known t : List ℕ) (n : ℕ) : Type 0 where
  pub seated : Seated (home_of_as homes) t
  pub held : (x : ℕ) → In x known → Stored t x
  pub only : (s : ℕ) → slot t s ≢ 0 → In (slot t s) known
  pub full : filled t ≡ length known
  pub count : n ≡ length known
  pub ascending : Ascending known

-- a table of n ASes, with room for one more and for spare beyond it
pub record Open (homes : ℕ) (t : List ℕ) (n spare : ℕ) : Type 0 where
  pub homed : Homed homes
  pub count : filled t ≡ n
  pub fits : homes + n + spare ≤ length t

-- AS x was put into table t of n ASes, if it was not there: table u of m
pub record Noted (homes x : ℕ) (t : List ℕ) (n : ℕ) (u : List ℕ) (m : ℕ) : Type 0 where
  pub long : length u ≡ length t
  pub count : filled u ≡ m
  pub more : m ≤ n + 1
  pub known : (l : List ℕ) → Counted homes l t n → Counted homes (insert x l) u m

pub record NotedEnds (homes : ℕ) (l : Link) (t : List ℕ) (n : ℕ) (u : List ℕ) (m : ℕ) : Type 0 where
  pub long : length u ≡ length t
  pub known : (known : List ℕ) → Counted homes known t n → Counted homes (with_ends l known) u m

pub record Pairs (homes : ℕ) (ws : List ℕ) (i : ℕ) (t : List ℕ) : Type 0 where
  pub seated : Seated (home_of_link homes ws) t
  pub held : (j : ℕ) → j < i → Stored t (j + 1)
  pub only : (s : ℕ) → slot t s ≤ i
  pub full : filled t ≡ i

-- what is stored are links
pub record Places (ws t : List ℕ) : Type 0 where
  pub places : (s : ℕ) → per_link * slot t s ≤ length ws

-- link i, and the table of those before it, where i + 1 fits a slot
pub record Pairing (homes : ℕ) (ws : List ℕ) (i : ℕ) (t : List ℕ) : Type 0 where
  pub homed : Homed homes
  pub table : Pairs homes ws i t
  pub link : HasLink ws i
  pub small : i + 1 < 65536
  pub fits : homes + i ≤ length t

pub record Paired (homes : ℕ) (ws : List ℕ) (i : ℕ) (t u : List ℕ) (again : Bool) : Type 0 where
  pub long : length u ≡ length t
  pub seen : again ≡ any_of (is_same_pair (link_in_words ws i)) (seen_at ws i)
  pub new : again ≡ false → Pairs homes ws (i + 1) u

-- how many slots of the two tables are homes: beyond them, a slot for each AS and one more, and a slot for each link
abbrev pub as_homes : Limits → List ℕ → ℕ
as_homes limits seats = length seats - limits.ases - 1

abbrev pub pair_homes : Limits → List ℕ → ℕ
pair_homes limits pairs = length pairs - limits.links

-- there is at least one home in each table, and a link's number and one fit 16 bits
pub record Sized (limits : Limits) (seats pairs : List ℕ) : Type 0 where
  pub seats_long : limits.ases + 1 < length seats
  pub pairs_long : limits.links < length pairs
  pub seats_small : length seats < 4294967296
  pub pairs_small : length pairs < 4294967296
  pub links_small : limits.links < 65536

-- the tables after the links before place i, which name n ASes
pub record After (limits : Limits) (ws : List ℕ) (i n : ℕ) (seats pairs : List ℕ) : Type 0 where
  pub known : Counted (as_homes limits seats) (ases_at ws i) seats n
  pub links : Pairs (pair_homes limits pairs) ws i pairs
  pub few : n ≤ limits.ases

-- link i, and the tables before it
pub record Stepping (limits : Limits) (ws : List ℕ) (i n : ℕ) (seats pairs : List ℕ) : Type 0 where
  pub after : After limits ws i n seats pairs
  pub link : HasLink ws i
  pub few : i < limits.links

-- the reply to link i: a refusal is that to the whole rest; else the rest goes on with the n ASes known now
abbrev pub Stepped : Limits → List ℕ → ℕ → ℕ → List ℕ → List ℕ → Result (Unit {0}) Refusal → Type 0
Stepped limits ws i n seats pairs (Err f) = check_at limits ws i ≡ Err f
Stepped limits ws i n seats pairs (Ok u) = (check_at limits ws i ≡ check_at limits ws (i + 1)) × After limits ws (i + 1) n seats pairs

-- both tables zero
pub record Fresh (limits : Limits) (seats pairs : List ℕ) : Type 0 where
  pub sized : Sized limits seats pairs
  pub seats_zero : seats ≡ replicate (length seats) 0
  pub pairs_zero : pairs ≡ replicate (length pairs) 0

-- not too many links, and no ASes yet
pub record Starting (limits : Limits) (ws : List ℕ) (n : ℕ) (seats pairs : List ℕ) : Type 0 where
  pub fresh : Fresh limits seats pairs
  pub few : count_of ws ≤ limits.links
  pub none : n ≡ 0
