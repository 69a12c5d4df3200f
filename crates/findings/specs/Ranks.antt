-- Ranks of ASes, by place: rk has a word for each. Who has rank 0 has none.
--
--   rank ws rk x       the rank of the AS x
--   may_fall a b       if a is a rank then so is b, and a lower one
--   falls_at ws rk i   the ranks fall along link i, if it is one from provider to customer
--   Falls ws rk n      they fall along each of the first n links
--   Spared rk t u      u is t for those who have no rank
use Rattle.std.specs.Prelude.{ℕ, ◌<◌, ◌≡◌, Bool, true, not, ◌&&◌, ◌||◌, List, eqb, ltb, get_or}
use Rattle.rules.specs.Network.{link_in_words}
use Rattle.findings.specs.Flags.{place}

abbrev pub rank : List ℕ → List ℕ → ℕ → ℕ
rank ws rk x = get_or rk (place ws x) 0

abbrev pub may_fall : ℕ → ℕ → Bool
may_fall a b = eqb a 0 || ltb 0 b && ltb b a

abbrev pub falls_at : List ℕ → List ℕ → ℕ → Bool
falls_at ws rk i =
    not (eqb (link_in_words ws i).relation 1) || may_fall (rank ws rk (link_in_words ws i).a) (rank ws rk (link_in_words ws i).b)

abbrev pub Falls : List ℕ → List ℕ → ℕ → Type 0
Falls ws rk n = (i : ℕ) → i < n → falls_at ws rk i ≡ true

pub record Spared (rk t u : List ℕ) : Type 0 where
  pub unranked : (k : ℕ) → get_or rk k 0 ≡ 0 → get_or u k 0 ≡ get_or t k 0
