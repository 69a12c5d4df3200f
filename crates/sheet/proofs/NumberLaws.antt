-- Numbers as bytes, high byte first, and back, wherever they stand in a list. Division by 256 carries all of it; a place in a list is
-- moved to the front by dropping what is before it.
use Prim.Native.Nat.{ℕ, ◌+◌, ◌*◌, ◌/◌, ◌%◌, ◌<◌}
use mathlib.Core.Path.{◌≡◌}
use mathlib.Core.List.{List, [], ◌∷◌, ◌++◌}
use native.Mathlib.Nat.{add_assoc}
use native.Mathlib.Omega.{arith}
use lib.ListN.{get_or, drop}
use lib.Seq.{get_or-drop}
use Rattle.sheet.specs.Form.{bytes2, bytes4, word2, word4}
use Rattle.sheet.specs.Sizes.{Below}

-- a number past the first k of a list
pub word2-drop : (k : ℕ) (s : List ℕ) (i : ℕ) → word2 (drop k s) i ≡ word2 s (k + i)
word2-drop k s i = rw (get_or-drop k s i 0, get_or-drop k s (i + 1) 0, add_assoc)

pub word4-drop : (k : ℕ) (s : List ℕ) (i : ℕ) → word4 (drop k s) i ≡ word4 s (k + i)
word4-drop k s i = rw (word2-drop k s i, word2-drop k s (i + 2), add_assoc k i 2)

pub Below-drop : (k : ℕ) (bound : ℕ) (s : List ℕ) → Below bound s → Below bound (drop k s)
Below-drop k bound s b i = rw (get_or-drop k s i 0) (b (k + i))

-- the number of its own bytes, at the front
pub word2-bytes2 : (x : ℕ) (r : List ℕ) → x < 65536 → word2 (bytes2 x ++ r) 0 ≡ x
word2-bytes2 x r h = omega arith

pub word4-bytes4 : (x : ℕ) (r : List ℕ) → x < 4294967296 → word4 (bytes4 x ++ r) 0 ≡ x
word4-bytes4 x r h =
    let q : x / 16777216 ≡ x / 65536 / 256 = omega arith in
    let high : 256 * (x / 16777216 % 256) + x / 65536 % 256 ≡ x / 65536 = omega arith in
    let low : 256 * (x / 256 % 256) + x % 256 ≡ x % 65536 = omega arith in
    omega arith

-- the bytes of the number that bytes say
pub bytes2-word2 : (s : List ℕ) (i : ℕ) → Below 256 s → bytes2 (word2 s i) ≡ get_or s i 0 ∷ get_or s (i + 1) 0 ∷ []
bytes2-word2 s i b =
    let x = word2 s i in
    let high : x / 256 % 256 ≡ get_or s i 0 = omega (arith, b i, b (i + 1)) in
    let low : x % 256 ≡ get_or s (i + 1) 0 = omega (arith, b i, b (i + 1)) in
    rw (high, low)

pub bytes4-word4 : (s : List ℕ) (i : ℕ) → Below 256 s → bytes4 (word4 s i) ≡ get_or s i 0 ∷ get_or s (i + 1) 0 ∷ get_or s (i + 2) 0 ∷ get_or s (i + 2 + 1) 0 ∷ []
bytes4-word4 s i b = four (get_or s i 0) (get_or s (i + 1) 0) (get_or s (i + 2) 0) (get_or s (i + 2 + 1) 0) (b i) (b (i + 1)) (b (i + 2)) (b (i + 2 + 1))
  where
    four : (p q u v : ℕ) → p < 256 → q < 256 → u < 256 → v < 256 → bytes4 (65536 * (256 * p + q) + (256 * u + v)) ≡ p ∷ q ∷ u ∷ v ∷ []
    four p q u v hp hq hu hv =
        let x = 65536 * (256 * p + q) + (256 * u + v) in
        let e1 : x / 16777216 % 256 ≡ p = omega arith in
        let e2 : x / 65536 % 256 ≡ q = omega arith in
        let e3 : x / 256 % 256 ≡ u = omega arith in
        let e4 : x % 256 ≡ v = omega arith in
        rw (e1, e2, e3, e4)
