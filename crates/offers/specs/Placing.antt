-- What the steps of a direction and of the places of the links' ends ask and say.
--
--   kind_of_direction l k  the kind of direction k, which is link l's, seen from its hearer
--   Placing ws l n ps  the first n words of l are the ASes of the links ws, and ps has a word for each end
--   put_ends us ps i l  the words ps with the places of the ends of link i, which is l
--   with_places ls ps  the words ps with the places of the ends of all links
use Rattle.std.specs.Prelude.{ℕ, ◌+◌, ◌*◌, ◌%◌, ◌≤◌, ◌<◌, ◌≡◌, cond, List, ◌++◌, eqb, length, take, drop, set}
use Rattle.rules.specs.declared.Link.{Link}
use Rattle.rules.specs.Pairs.{kind_from_a, kind_from_b}
use Rattle.rules.specs.Network.{links_of, ases_of}
use Rattle.offers.specs.Ways.{index_in, places_of}

abbrev pub kind_of_direction : Link → ℕ → ℕ
kind_of_direction l k = cond (eqb (k % 2) 0) (kind_from_b l) (kind_from_a l)

pub record Placing (ws l : List ℕ) (n : ℕ) (ps : List ℕ) : Type 0 where
  pub list : take n l ≡ ases_of (links_of ws)
  pub count : n ≡ length (ases_of (links_of ws))
  pub few : n < 4294967296
  pub room : 2 * length (links_of ws) ≤ length ps

abbrev pub put_ends : List ℕ → List ℕ → ℕ → Link → List ℕ
put_ends us ps i l = set (set ps (2 * i) (index_in us l.a)) (2 * i + 1) (index_in us l.b)

abbrev pub with_places : List Link → List ℕ → List ℕ
with_places ls ps = places_of (ases_of ls) ls ++ drop (2 * length ls) ps
