-- Kinds, pairs of type and length, and links as values.
--
--   extended_type k t  the type that a neighbour's type t becomes over a link of type k
--   origin_of, unreachable_of  the two fixed marks, (1, 0) and (4, 0)
--   extension k c p    the pair that a neighbour with pair p offers over a link of type k and cost c
--   same_as p q        the same type and length
--   beats_of p q       p wins against q: smaller type, then smaller length
--   kind_from_a l      the type of link l seen from a; kind_from_b l seen from b
use Rattle.std.specs.Prelude.{ℕ, ◌+◌, Bool, cond, ◌&&◌, ◌||◌, ltb, leb, eqb}
use Rattle.rules.specs.declared.TypeLength.{TypeLength}
use Rattle.rules.specs.declared.Link.{Link}

-- 'The twelve-cell extension table': over a provider link every reachable type goes on, as type 3; over a customer or peer link
-- type 1 alone, as the link's own type
unfoldable pub extended_type : ℕ → ℕ → ℕ
extended_type kind typ =
    cond (eqb kind 3) (cond (leb 1 typ && leb typ 3) 3 4)
    (cond ((eqb kind 1 || eqb kind 2) && eqb typ 1) kind 4)

-- 'The two fixed marks, origin (1,0) and unreachable (4,0)'
abbrev pub origin_of : TypeLength
origin_of = record { typ = 1; length = 0 }

abbrev pub unreachable_of : TypeLength
unreachable_of = record { typ = 4; length = 0 }

-- 'A reachable offer is one longer than the neighbour's length', by the link's cost, which is 1
unfoldable pub extension : ℕ → ℕ → TypeLength → TypeLength
extension kind cost p =
    cond (eqb (extended_type kind p.typ) 4) unreachable_of
    (record { typ = extended_type kind p.typ; length = p.length + cost })

unfoldable pub same_as : TypeLength → TypeLength → Bool
same_as p q = eqb p.typ q.typ && eqb p.length q.length

-- 'Smaller type wins, then smaller length'
unfoldable pub beats_of : TypeLength → TypeLength → Bool
beats_of p q = cond (eqb p.typ q.typ) (ltb p.length q.length) (ltb p.typ q.typ)

-- 'Seen from u, link uv has type 1 if v is u's customer, 2 if peer, 3 if v is u's provider'
unfoldable pub kind_from_a : Link → ℕ
kind_from_a l = cond (eqb l.relation 1) 1 2

unfoldable pub kind_from_b : Link → ℕ
kind_from_b l = cond (eqb l.relation 1) 3 2
