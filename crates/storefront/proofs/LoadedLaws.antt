-- What is said of the loaded links' words is said of the links'.
use Prim.Native.Nat.{ℕ, ◌*◌, ◌≤◌}
use mathlib.Core.Path.{◌≡◌, refl, ◌∙◌, ap, subst}
use mathlib.Core.Bool.{Bool, true, false, cond}
use mathlib.Core.List.{List, ◌++◌}
use lib.Dec.{leb}
use lib.ListN.{length, take, drop}
use lib.Seq.{take_at}
use borrow.Author.Tests.{le-leb, leb-true, leb-false}
use Rattle.rules.specs.declared.Link.{Link}
use Rattle.rules.specs.Network.{flat}
use Rattle.rules.proofs.NetworkLaws.{flat-length}
use Rattle.records.specs.Entries.{zeros, loaded, Holding}

-- few links, loaded: their words come first
words_are : (ys : List Link) → length ys ≤ 1536 → take (3 * length ys) (loaded ys).words ≡ flat ys
words_are ys l = ap (λ (t : Bool). take (3 * length ys) (cond t (flat ys ++ drop (3 * length ys) zeros) zeros)) (le-leb (length ys) 1536 l) ∙ take_at (flat ys) (drop (3 * length ys) zeros) (3 * length ys) (flat-length ys)

pub Holding-loaded : (ls : List Link) (P : List ℕ → Type 0) → Holding (loaded ls) P → P (flat ls)
Holding-loaded ls P h = by_size (leb (length ls) 1536) refl
  where
    by_size : (t : Bool) → leb (length ls) 1536 ≡ t → P (flat ls)
    by_size true e = subst P (words_are ls (leb-true (length ls) 1536 e)) (h.few (leb-true (length ls) 1536 e))
    by_size false e = h.many (leb-false (length ls) 1536 e) ls (leb-false (length ls) 1536 e)
