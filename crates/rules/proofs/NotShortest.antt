-- 'The length is not always the shortest': in network A towards 40, AS 10 has length 3, and its peer link to 40 is a permitted walk of
-- length 1. By computation.
use Prim.Native.Nat.{◌<◌}
use mathlib.Core.Path.{refl}
use mathlib.Core.Logic.{inl, inr}
use mathlib.Core.List.{List, [], ◌∷◌}
use lib.Dec.{lit<}
use Rattle.rules.specs.Pairs.{extended_type, extension, same_as, beats_of, kind_from_a, kind_from_b}
use Rattle.rules.specs.Lists.{In, changed}
use Rattle.rules.specs.Offers.{Arc, none, offer, better, choose, heard, elect, best}
use Rattle.rules.specs.Network.{links_of, a_to_b, b_to_a, arcs_from, arcs_of}
use Rattle.rules.specs.Stable.{own, due}
use Rattle.rules.specs.Solve.{gains, first_gain, sum_over, unknown, shorten, extend, settle, leaving, between, start, up, across, down, typed, marks, stable_of}
use Rattle.rules.specs.Walks.{Leads, Permitted, total}
use Rattle.rules.specs.Worked.{network_a}
use Rattle.rules.proofs.Faces.{len}

pub not_shortest : (w : List Arc) × Leads (λ a. In a (arcs_of network_a)) w 10 40 × Permitted w × (total w < len (stable_of (arcs_of network_a) 40) 10)
unfolding extended_type extension same_as beats_of kind_from_a kind_from_b changed none offer better choose heard elect best links_of a_to_b b_to_a arcs_from
    own due gains first_gain sum_over unknown shorten extend settle leaving between start up across down typed marks stable_of total network_a
not_shortest =
    let peering = b_to_a 3 (record { a = 10; b = 40; relation = 0 }) in
    (peering ∷ [], (inr (inr (inr (inr (inr (inr (inr (inl refl))))))), refl, refl), inr (inl (refl, tt)), lit< tt)
