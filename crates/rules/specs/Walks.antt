-- Walks over arcs, the permitted ones, and what following next hops gives.
--
--   Leads Has w u d    the arcs w lead from u to d
--   Permitted w        provider links, then at most one peer link, then customer links
--   total w            the sum of its costs; first_kind w   its first link's type, 1 for the empty walk
--   stops w            the ASes that it comes to after its start
--   Follows R w        each arc goes to the next hop of where it starts
--   Followed Has d R u the walk that the next hops of R make from u, and all that is promised of it
use Rattle.std.specs.Prelude.{ℕ, ◌+◌, ◌≡◌, ◌⊎◌, List, [], ◌∷◌}
use Rattle.rules.specs.Lists.{Distinct}
use Rattle.rules.specs.Offers.{Arc}
use Rattle.rules.specs.Stable.{Routing}

-- 'from source to destination'. Has a: arc a is the network's
abbrev pub Leads : (Arc → Type 0) → List Arc → ℕ → ℕ → Type 0
Leads Has [] u d = u ≡ d
Leads Has (a ∷ w) u d = Has a × (a.hearer ≡ u) × Leads Has w a.neighbour d

-- 'then customer links'
abbrev pub Downhill : List Arc → Type 0
Downhill [] = Unit {0}
Downhill (a ∷ w) = (a.kind ≡ 1) × Downhill w

-- 'uses provider links, then at most one peer link, then customer links'
abbrev pub Permitted : List Arc → Type 0
Permitted [] = Unit {0}
Permitted (a ∷ w) = ((a.kind ≡ 3) × Permitted w) ⊎ ((a.kind ≡ 2) × Downhill w) ⊎ ((a.kind ≡ 1) × Downhill w)

unfoldable pub total : List Arc → ℕ
total [] = 0
total (a ∷ w) = total w + a.cost

-- 'its type is the best first-link type of such walks (origin for the destination)'
unfoldable pub first_kind : List Arc → ℕ
first_kind [] = 1
first_kind (a ∷ w) = a.kind

unfoldable pub stops : List Arc → List ℕ
stops [] = []
stops (a ∷ w) = a.neighbour ∷ stops w

abbrev pub Follows : Routing → List Arc → Type 0
Follows R [] = Unit {0}
Follows R (a ∷ w) = ((R a.hearer).next ≡ a.neighbour) × Follows R w

-- 'it arrives, visits no AS twice, takes a permitted walk and has the printed length'
pub record Followed (Has : Arc → Type 0) (d : ℕ) (R : Routing) (u : ℕ) : Type 0 where
  pub walk : List Arc
  pub leads : Leads Has walk u d
  pub follows : Follows R walk
  pub permitted : Permitted walk
  pub starts : first_kind walk ≡ (R u).pair.typ
  pub long : total walk ≡ (R u).pair.length
  pub once : Distinct (u ∷ stops walk)
