-- Directions by place: where the ends of each link stand among the ascending ASes.
--
--   ends_of ls         a and b of each link, in list order: number k is who tells over direction k
--   index_in us x       where x stands in us
--   places_of us ls     where the ends stand: word k is the place of who tells over direction k
--   way_of_direction ls ps k  direction k with its ends' places
--   arc_at ls k        arc k of the network
use Rattle.std.specs.Prelude.{ℕ, suc, ◌+◌, ◌-◌, ◌/◌, ◌%◌, cond, List, [], ◌∷◌, map, eqb, get_or}
use Rattle.rules.specs.declared.Link.{Link}
use Rattle.rules.specs.Pairs.{kind_from_a, kind_from_b}
use Rattle.rules.specs.Offers.{Arc}
use Rattle.rules.specs.Network.{arcs_of}
use Rattle.offers.specs.declared.Way.{Way}

unfoldable pub ends_of : List Link → List ℕ
ends_of [] = []
ends_of (l ∷ ls) = l.a ∷ l.b ∷ ends_of ls

unfoldable pub index_in : List ℕ → ℕ → ℕ
index_in [] x = 0
index_in (u ∷ us) x = cond (eqb x u) 0 (suc (index_in us x))

unfoldable pub places_of : List ℕ → List Link → List ℕ
places_of us ls = map (index_in us) (ends_of ls)

-- what stands past the end of a list
abbrev pub no_arc : Arc
no_arc = record { direction = 0; hearer = 0; neighbour = 0; kind = 0; cost = 0; rank = 0 }

abbrev pub no_link : Link
no_link = record { a = 0; b = 0; relation = 0 }

abbrev pub arc_at : List Link → ℕ → Arc
arc_at ls k = get_or (arcs_of ls) k no_arc

-- the other direction of the same link
abbrev pub partner : ℕ → ℕ
partner k = cond (eqb (k % 2) 0) (k + 1) (k - 1)

-- the kind of direction k, seen from its hearer: b for an even k, a for an odd one
abbrev pub kind_at : List Link → ℕ → ℕ
kind_at ls k = cond (eqb (k % 2) 0) (kind_from_b (get_or ls (k / 2) no_link)) (kind_from_a (get_or ls (k / 2) no_link))

abbrev pub way_of_direction : List Link → List ℕ → ℕ → Way
way_of_direction ls ps k = record { hearer = get_or ps (partner k) 0; neighbour = get_or ps k 0; kind = kind_at ls k; cost = 1 }
