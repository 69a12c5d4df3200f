-- Tables and sheets as lists of lines, and what the judge says of them.
--
--   Entry              a line with the number of its AS
--   entries_of ws      the whole entries of table words, four per entry; words_of es   and back
--   entries_for R us   the lines of a routing for the ASes us
--   routing_of es      the routing that the lines print; unreachable for an AS that has none
--   standing bound us es   11: the lowest line that cannot stand among lines due for the ASes us
--   best_offers net d es   12: the lowest line that is not the one due, the others as printed
--   judge ls d bound es    what the judge says of the lines es for the links ls and the destination d, which is among their ASes
use Rattle.rules.specs.Replies.{Verdict}
use Rattle.std.specs.Prelude.{ℕ, suc, Bool, cond, not, ◌&&◌, List, [], ◌∷◌, ltb, leb, eqb, Err, Ok}
use Rattle.rules.specs.declared.Link.{Link}
use Rattle.rules.specs.declared.Refusal.TheVariants.{CannotStand, NotBest}
use Rattle.rules.specs.Pairs.{same_as}
use Rattle.rules.specs.Offers.{Arc}
use Rattle.rules.specs.Network.{ases_of, arcs_of}
use Rattle.rules.specs.Entry.{and_then}
use Rattle.rules.specs.Stable.{Line, Routing, lost, due}

pub record Entry : Type 0 where
  pub number : ℕ
  pub line : Line

abbrev pub entry : ℕ → ℕ → ℕ → ℕ → Entry
entry u t l h = record { number = u; line = record { pair = record { typ = t; length = l }; next = h } }

unfoldable pub entries_of : List ℕ → List Entry
entries_of [] = []
entries_of (u ∷ []) = []
entries_of (u ∷ t ∷ []) = []
entries_of (u ∷ t ∷ l ∷ []) = []
entries_of (u ∷ t ∷ l ∷ h ∷ ws) = entry u t l h ∷ entries_of ws

unfoldable pub words_of : List Entry → List ℕ
words_of [] = []
words_of (e ∷ es) = e.number ∷ e.line.pair.typ ∷ e.line.pair.length ∷ e.line.next ∷ words_of es

-- the lines of a routing for the ASes us
unfoldable pub entries_for : Routing → List ℕ → List Entry
entries_for R [] = []
entries_for R (u ∷ us) = record { number = u; line = R u } ∷ entries_for R us

unfoldable pub routing_of : List Entry → Routing
routing_of [] u = lost u
routing_of (e ∷ es) u = cond (eqb u e.number) e.line (routing_of es u)

-- 'A line cannot stand if its AS is not the one due at that line, its type is outside 1 to 4, it is type 4 with length above 0, or
-- its length exceeds 511', the bound
unfoldable pub stands : ℕ → ℕ → Entry → Bool
stands bound u e =
    eqb e.number u && leb 1 e.line.pair.typ && leb e.line.pair.typ 4
    && not (eqb e.line.pair.typ 4 && ltb 0 e.line.pair.length) && leb e.line.pair.length bound

-- 'Missing or surplus lines: place is the shorter count. Of several such faults the lowest line counts'
unfoldable pub standing_from : ℕ → ℕ → List ℕ → List Entry → Verdict
standing_from bound i [] [] = Ok tt
standing_from bound i [] (e ∷ es) = Err (CannotStand i)
standing_from bound i (u ∷ us) [] = Err (CannotStand i)
standing_from bound i (u ∷ us) (e ∷ es) =
    cond (stands bound u e) (standing_from bound (suc i) us es) (Err (CannotStand i))

abbrev pub standing : ℕ → List ℕ → List Entry → Verdict
standing bound us es = standing_from bound 0 us es

unfoldable pub is_same_line : Line → Line → Bool
is_same_line x y = same_as x.pair y.pair && eqb x.next y.next

-- 'a line is not the best offer, or the destination's not origin'. The judge 'works from the lines and the links': R is what they print
unfoldable pub best_from : List Arc → ℕ → Routing → ℕ → List Entry → Verdict
best_from net d R i [] = Ok tt
best_from net d R i (e ∷ es) =
    cond (is_same_line e.line (due net d R e.number)) (best_from net d R (suc i) es) (Err (NotBest i))

abbrev pub best_offers : List Arc → ℕ → List Entry → Verdict
best_offers net d es = best_from net d (routing_of es) 0 es

-- '11; 12': all lines stand, then all are best offers
unfoldable pub judge : List Link → ℕ → ℕ → List Entry → Verdict
judge ls d bound es = and_then (standing bound (ases_of ls) es) (best_offers (arcs_of ls) d es)
