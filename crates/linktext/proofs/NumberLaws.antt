-- Laws of a field as a number, one byte further.
--
--   value_next, value_grows   a value, one digit further; it never falls
--   too_large, value_whole   a value that passes 32 bits stays there; one that does not is whole at the end
use mathlib.Core.Path.{◌≡◌, refl, sym, ap, ◌∙◌}
use mathlib.Core.List.{List, [], ◌∷◌}
use Prim.Native.Nat.{ℕ, ◌+◌, ◌-◌, ◌*◌, ◌≤◌, ◌<◌}
use native.Mathlib.Numerals.{add-one}
use native.Mathlib.Omega.{arith}
use lib.ListN.{length, get_or, drop, drop_of_length-le}
use lib.Seq.{drop-cons}
use borrow.Author.Tests.{le-leb, lt-leb}
use Rattle.std.specs.Prelude.{None, Some}
use Rattle.linktext.specs.Lines.{digit0, value_from}
use Rattle.linktext.specs.Fields.{within_32_bits}

pub value_next : (l : List ℕ) (v i d w : ℕ) → i < length l → d ≡ get_or l i 0 - digit0 → value_from v (drop i l) ≡ w
    → value_from (10 * v + d) (drop (i + 1) l) ≡ w
unfolding value_from
value_next l v i d w h e p = rw (e, add-one) (sym (ap (value_from v) (drop-cons l i 0 h)) ∙ p)

pub value_grows : (l : List ℕ) (v : ℕ) → v ≤ value_from v l
unfolding value_from
value_grows [] v = omega arith
value_grows (x ∷ l) v = omega (arith, value_grows l (10 * v + (x - digit0)))

-- a value that passes 32 bits stays there
pub too_large : (l : List ℕ) (v i : ℕ) → i < length l → 4294967295 < 10 * v + (get_or l i 0 - digit0) → value_from v (drop i l) ≡ value_from 0 l
    → None ≡ within_32_bits (value_from 0 l)
too_large l v i h k e =
    let d = get_or l i 0 - digit0 in
    let whole = value_next l v i d (value_from 0 l) h refl e in
    simp (lt-leb (value_from 0 l) 4294967295 (omega (arith, value_grows (drop (i + 1) l) (10 * v + d))))

pub value_whole : (l : List ℕ) (v i : ℕ) → length l ≤ i → v ≤ 4294967295 → value_from v (drop i l) ≡ value_from 0 l → Some v ≡ within_32_bits (value_from 0 l)
unfolding value_from
value_whole l v i h k e =
    let whole : v ≡ value_from 0 l = ap (value_from v) (sym (drop_of_length-le l h)) ∙ e in
    rw (← whole) (simp (le-leb v 4294967295 k))
