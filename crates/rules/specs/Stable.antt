-- Lines, routings, and the stable ones.
--
--   Line               a pair and a next hop; Routing   a line for every AS number
--   own d              the destination's line; lost u   the line of an AS that is unreachable
--   due net d R u      the line that is due at u where the others are R's
--   Stable net d R     every line is the one that is due
--   table_of R us       the words of a table: number, type, length, next hop for each AS of us
use Rattle.std.specs.Prelude.{ℕ, ◌≡◌, cond, List, [], ◌∷◌, eqb}
use Rattle.rules.specs.declared.TypeLength.{TypeLength}
use Rattle.rules.specs.Pairs.{origin_of, unreachable_of}
use Rattle.rules.specs.Offers.{Arc, Offer, best}

pub record Line : Type 0 where
  pub pair : TypeLength
  pub next : ℕ

abbrev pub Routing : Type 0
Routing = ℕ → Line

-- 'The two fixed marks .. are the only ones whose next hop is the AS itself'
unfoldable pub own : ℕ → Line
own d = record { pair = origin_of; next = d }

unfoldable pub lost : ℕ → Line
lost u = record { pair = unreachable_of; next = u }

abbrev pub line_of : Offer → Line
line_of o = record { pair = o.pair; next = o.next }

-- what a neighbour tells is its line's pair
abbrev pub told : Routing → Arc → TypeLength
told R a = (R a.neighbour).pair

-- 'The destination's line is always origin. Any other line is the best reachable offer, or unreachable if there is none'
unfoldable pub due : List Arc → ℕ → Routing → ℕ → Line
due net d R u = cond (eqb u d) (own d) (line_of (best (told R) u net))

-- 'A table in which all lines obey this is stable'
abbrev pub Stable : List Arc → ℕ → Routing → Type 0
Stable net d R = (u : ℕ) → R u ≡ due net d R u

-- 'four per AS (number, type, length, next hop), ASes ascending'
unfoldable pub table_of : Routing → List ℕ → List ℕ
table_of R [] = []
table_of R (u ∷ us) = u ∷ (R u).pair.typ ∷ (R u).pair.length ∷ (R u).next ∷ table_of R us
