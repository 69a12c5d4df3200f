-- The test `joined` is 'every two different tops are peers', read off pair by pair.
use Prim.Native.Nat.{ℕ}
use mathlib.Core.Path.{◌≡◌, refl}
use mathlib.Core.Logic.{◌↔◌, ◌≢◌}
use mathlib.Core.Bool.{Bool, true, false, not, ◌&&◌, ◌||◌}
use mathlib.Core.List.{List}
use lib.Dec.{eqb}
use borrow.Author.Tests.{eqb-false, ne_eqb}
use Rattle.rules.specs.declared.Link.{Link}
use Rattle.rules.specs.Lists.{all_of}
use Rattle.rules.specs.Network.{ases_of}
use Rattle.rules.specs.Findings.{is_top, are_peers, Joined, joined}
use Rattle.rules.proofs.ListLaws.{all_of_each, all_of-true}
use Rattle.findings.specs.Joinings.{pair_joined, meets}

-- one pair
pair_yes : (s t : Bool) (u v : ℕ) (p : Bool) → (not (s && t) || eqb u v || p) ≡ true → s ≡ true → t ≡ true → u ≢ v → p ≡ true
pair_yes s t u v p e f g ne = cc (ne_eqb u v ne)

pair_from : (s t : Bool) (u v : ℕ) (q p : Bool) → eqb u v ≡ q → (s ≡ true → t ≡ true → u ≢ v → p ≡ true) → (not (s && t) || q || p) ≡ true
pair_from true true u v true p d h = refl
pair_from true true u v false p d h = h refl refl (eqb-false u v d)
pair_from true false u v q p d h = refl
pair_from false t u v q p d h = refl

pub joined_is : (ls : List Link) → (joined ls ≡ true) ↔ Joined ls
unfolding joined
joined_is ls = (to, from)
  where
    to : all_of (meets ls) (ases_of ls) ≡ true → Joined ls
    to e u v m n s t ne =
        pair_yes (is_top ls u) (is_top ls v) u v (are_peers ls u v)
        (all_of_each (pair_joined ls u) (ases_of ls) (all_of_each (meets ls) (ases_of ls) e u m) v n) s t ne

    from : Joined ls → all_of (meets ls) (ases_of ls) ≡ true
    from h =
        all_of-true (meets ls) (ases_of ls)
        (λ u m. all_of-true (pair_joined ls u) (ases_of ls)
        (λ v n. pair_from (is_top ls u) (is_top ls v) u v (eqb u v) (are_peers ls u v) refl (h u v m n)))
