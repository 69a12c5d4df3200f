-- A network from its list of links.
--
--   links_of ws        link words, three per link, as links; flat ls   and back; link_in_words ws i   one link
--   insert x l         an ascending list with x in it once
--   ases_of ls         the ASes that the links name, ascending, each once
--   arcs_of ls         two arcs per link, by direction: 2i from a to b, 2i + 1 from b to a
use Rattle.std.specs.Prelude.{ℕ, suc, ◌+◌, ◌*◌, cond, List, [], ◌∷◌, ltb, eqb, get_or}
use Rattle.rules.specs.declared.Link.{Link}
use Rattle.rules.specs.Pairs.{kind_from_a, kind_from_b}
use Rattle.rules.specs.Offers.{Arc}

-- 'The same list is also taken as words, three per link'
unfoldable pub links_of : List ℕ → List Link
links_of [] = []
links_of (a ∷ []) = []
links_of (a ∷ b ∷ []) = []
links_of (a ∷ b ∷ relation ∷ ws) = record { a = a; b = b; relation = relation } ∷ links_of ws

-- link i of the words, by index
abbrev pub link_in_words : List ℕ → ℕ → Link
link_in_words ws i = record { a = get_or ws (3 * i) 0; b = get_or ws (3 * i + 1) 0; relation = get_or ws (3 * i + 2) 0 }

unfoldable pub flat : List Link → List ℕ
flat [] = []
flat (l ∷ ls) = l.a ∷ l.b ∷ l.relation ∷ flat ls

unfoldable pub insert : ℕ → List ℕ → List ℕ
insert x [] = x ∷ []
insert x (y ∷ l) = cond (ltb x y) (x ∷ y ∷ l) (cond (eqb x y) (y ∷ l) (y ∷ insert x l))

-- 'The ASes are those named by links. No links means no ASes'
unfoldable pub with_ends : Link → List ℕ → List ℕ
with_ends l known = insert l.b (insert l.a known)

unfoldable pub ases_from : List ℕ → List Link → List ℕ
ases_from known [] = known
ases_from known (l ∷ ls) = ases_from (with_ends l known) ls

abbrev pub ases_of : List Link → List ℕ
ases_of ls = ases_from [] ls

-- 'Link i has direction 2i (a to b) and 2i+1 (b to a)'. A link costs 1, and of equal offers the smaller neighbour number wins
unfoldable pub a_to_b : ℕ → Link → Arc
a_to_b i l =
    record { direction = 2 * i; hearer = l.b; neighbour = l.a; kind = kind_from_b l; cost = 1; rank = l.a }

unfoldable pub b_to_a : ℕ → Link → Arc
b_to_a i l =
    record { direction = 2 * i + 1; hearer = l.a; neighbour = l.b; kind = kind_from_a l; cost = 1; rank = l.b }

unfoldable pub arcs_from : ℕ → List Link → List Arc
arcs_from i [] = []
arcs_from i (l ∷ ls) = a_to_b i l ∷ b_to_a i l ∷ arcs_from (suc i) ls

abbrev pub arcs_of : List Link → List Arc
arcs_of ls = arcs_from 0 ls
