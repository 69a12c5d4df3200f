-- What scratch memory tells a guess.
--
--   links_indexed ws   how many links of the words ws an index has words for
--   earlier_noted x k  what the index x has noted before k, under the same head: only a smaller one counts
use Rattle.std.specs.Prelude.{ℕ, ◌-◌, ◌/◌, min, cond, List, ltb, length, get_or}

abbrev pub links_indexed : List ℕ → ℕ
links_indexed ws = min (length ws / 3) 1536

abbrev pub earlier_noted : List ℕ → ℕ → ℕ
earlier_noted x k = cond (ltb (get_or x (k - 1) 0) k) (get_or x (k - 1) 0) 0
