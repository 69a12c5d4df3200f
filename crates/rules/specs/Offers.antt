-- Arcs, offers, and the best offer: the one election that table, sheet and machine share.
--
--   Arc                who hears whom, over what kind of link
--   Offer              a pair with its rank and the next hop that it stands for
--   none u             no reachable offer to u
--   offer a p          what the hearer of arc a is offered by a neighbour with pair p
--   better x y         x wins against y: type, then length, then rank
--   choose x y         the better of two; the first where neither is
--   heard told u a     what u hears over arc a; nothing over another's
--   elect told u x net the best of x and what u hears over the arcs, in list order
--   best told u net    the best offer to u, or none
use Rattle.std.specs.Prelude.{ℕ, Bool, cond, List, [], ◌∷◌, ltb, eqb}
use Rattle.rules.specs.declared.TypeLength.{TypeLength}
use Rattle.rules.specs.Pairs.{unreachable_of, extension, same_as, beats_of}

-- Over a direction the hearer hears what the neighbour tells. kind: the link's type seen from the hearer. cost: what the link adds
-- to a length. rank: of two offers with the same pair the smaller rank wins
pub record Arc : Type 0 where
  pub direction : ℕ
  pub hearer : ℕ
  pub neighbour : ℕ
  pub kind : ℕ
  pub cost : ℕ
  pub rank : ℕ

pub record Offer : Type 0 where
  pub pair : TypeLength
  pub rank : ℕ
  pub next : ℕ

unfoldable pub none : ℕ → Offer
none u = record { pair = unreachable_of; rank = 0; next = u }

unfoldable pub offer : Arc → TypeLength → Offer
offer a p =
    cond (eqb (extension a.kind a.cost p).typ 4) (none a.hearer)
    (record { pair = extension a.kind a.cost p; rank = a.rank; next = a.neighbour })

-- 'Smaller type wins, then smaller length, then smaller neighbour number'
unfoldable pub better : Offer → Offer → Bool
better x y = cond (same_as x.pair y.pair) (ltb x.rank y.rank) (beats_of x.pair y.pair)

unfoldable pub choose : Offer → Offer → Offer
choose x y = cond (better y x) y x

-- told a is the pair that arc a's neighbour tells: its line's in a table, the pair held in the machine
unfoldable pub heard : (Arc → TypeLength) → ℕ → Arc → Offer
heard told u a = cond (eqb a.hearer u) (offer a (told a)) (none u)

unfoldable pub elect : (Arc → TypeLength) → ℕ → Offer → List Arc → Offer
elect told u x [] = x
elect told u x (a ∷ net) = elect told u (choose x (heard told u a)) net

-- 'the best reachable offer, or unreachable if there is none'
unfoldable pub best : (Arc → TypeLength) → ℕ → List Arc → Offer
best told u net = elect told u (none u) net
