-- The stable routing, worked out: distances by customer links, then over one peer link, then by provider links, and an election.
-- A distance is 0 where nothing is known yet, and else one more than the length.
--
--   gains uses D a     the hearer of arc a gains by what its neighbour knows
--   settle net uses D  the distances D with gains taken, one after the other, until no arc gives any
--   up, across, down   the three phases
--   stable_of net d    the stable routing to d
use Rattle.std.specs.Prelude.{ℕ, zero, suc, ◌+◌, ◌-◌, Bool, true, false, cond, ◌&&◌, ◌||◌, List, [], ◌∷◌, ltb, leb, eqb}
use Rattle.rules.specs.Lists.{changed}
use Rattle.rules.specs.Offers.{Arc}
use Rattle.rules.specs.Stable.{Routing, due}

unfoldable pub gains : (Arc → Bool) → (ℕ → ℕ) → Arc → Bool
gains uses D a =
    uses a && leb 1 (D a.neighbour) && (eqb (D a.hearer) 0 || ltb (D a.neighbour + a.cost) (D a.hearer))

abbrev pub relaxed : (ℕ → ℕ) → Arc → ℕ → ℕ
relaxed D a = changed D a.hearer (D a.neighbour + a.cost)

-- the first arc of a list over which its hearer gains
pub data Gain : Type 0 where
  still : Gain
  over : Arc → Gain

abbrev pub gain_or : Arc → Gain → Bool → Gain
gain_or a rest true = over a
gain_or a rest false = rest

unfoldable pub first_gain : (Arc → Bool) → (ℕ → ℕ) → List Arc → Gain
first_gain uses D [] = still
first_gain uses D (a ∷ net) = gain_or a (first_gain uses D net) (gains uses D a)

-- what is left to gain: hearers that know nothing, and then the sum of what is known
unfoldable pub sum_over : (ℕ → ℕ) → List Arc → ℕ
sum_over g [] = 0
sum_over g (a ∷ net) = g a.hearer + sum_over g net

unfoldable pub unknown : (ℕ → ℕ) → ℕ → ℕ
unknown D u = cond (eqb (D u) 0) 1 0

-- one gain after the other: `new` goes on where the hearer knew nothing, `less` where it knew a longer way
abbrev pub gain_by : ((ℕ → ℕ) → ℕ → ℕ) → ((ℕ → ℕ) → ℕ → ℕ) → (ℕ → ℕ) → Bool → ℕ → ℕ
gain_by new less D true = new D
gain_by new less D false = less D

abbrev pub take_gain : ((ℕ → ℕ) → ℕ → ℕ) → ((ℕ → ℕ) → ℕ → ℕ) → (ℕ → ℕ) → Gain → ℕ → ℕ
take_gain new less D still = D
take_gain new less D (over a) = gain_by new less (relaxed D a) (eqb (D a.hearer) 0)

module _ (net : List Arc) (uses : Arc → Bool) where
  unfoldable pub shorten : ((ℕ → ℕ) → ℕ → ℕ) → ℕ → (ℕ → ℕ) → ℕ → ℕ
  shorten new zero D = D
  shorten new (suc m) D = take_gain new (shorten new m) D (first_gain uses D net)

  unfoldable pub extend : ℕ → (ℕ → ℕ) → ℕ → ℕ
  extend zero D = D
  extend (suc k) D = shorten (extend k) (suc (sum_over D net)) D

  unfoldable pub settle : (ℕ → ℕ) → ℕ → ℕ
  settle D = extend (suc (sum_over (unknown D) net)) D

-- an arc of kind k whose hearer knows nothing in s
unfoldable pub leaving : ℕ → (ℕ → ℕ) → Arc → Bool
leaving k s a = eqb a.kind k && eqb (s a.hearer) 0

-- a peer link whose hearer knows nothing and whose neighbour does
unfoldable pub between : (ℕ → ℕ) → Arc → Bool
between s a = leaving 2 s a && leb 1 (s a.neighbour)

unfoldable pub start : ℕ → ℕ → ℕ
start d u = cond (eqb u d) 1 0

unfoldable pub up : List Arc → ℕ → ℕ → ℕ
up net d = settle net (leaving 1 (start d)) (start d)

unfoldable pub across : List Arc → ℕ → ℕ → ℕ
across net d = settle net (between (up net d)) (up net d)

unfoldable pub down : List Arc → ℕ → ℕ → ℕ
down net d = settle net (leaving 3 (across net d)) (across net d)

-- the type by which of the three phases knows a way first
unfoldable pub typed : ℕ → ℕ → ℕ → ℕ
typed x y z = cond (leb 1 x) 1 (cond (leb 1 y) 2 (cond (leb 1 z) 3 4))

unfoldable pub marks : List Arc → ℕ → Routing
marks net d u =
    record {
      pair = record { typ = typed (up net d u) (across net d u) (down net d u); length = down net d u - 1 };
      next = u;
    }

unfoldable pub stable_of : List Arc → ℕ → Routing
stable_of net d = due net d (marks net d)
