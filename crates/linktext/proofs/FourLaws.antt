-- Laws of four bytes in one number: how it is tested that all are digits, and how their value is made of them.
--
--   quotient, remainder   a division whose result is known
--   parts, Parts, Parts-of   a number of its four bytes; the bytes of a number made of four
--   Low-bytes, higher  bytes below 16: the lowest of two numbers; the same for those from a higher bit on
--   are_Digits         where neither the bytes nor six more reach 16, they are digits
--   four_value         the values of two pairs, and of these that of all four
--   Bytes, digit_Bytes the bytes of a text in which four digits stand
use mathlib.Core.Path.{◌≡◌, refl, sym, ap, ap₂, ◌∙◌}
use mathlib.Core.List.{List}
use Prim.Native.Nat.{ℕ, ◌+◌, ◌*◌, ◌/◌, ◌%◌, ◌^◌, ◌≤◌, ◌<◌}
use native.Mathlib.Nat.{mod-eq_of_lt}
use native.Mathlib.Omega.{arith}
use lib.Arith.{digits_div, digits_mod}
use lib.Bits.{bit_and, bit_or, and_le_l, and_le_r, and_mask, and_block, and_high, and_shr, and_mod, or_add_and, or_shr, or_mod, or_lt}
use lib.ListN.{get_or}
use borrow.Author.Tests.{eqb-true}
use Rattle.std.specs.Prelude.{true, ◌==◌}
use Rattle.linktext.specs.Lines.{digit0}
use Rattle.linktext.specs.Usual.{word, Four, Digits, spelled}

quotient : (n m q r : ℕ) → n ≡ q * m + r → r < m → n / m ≡ q
quotient n m q r e h = ap (λ (x : ℕ). x / m) e ∙ digits_div q h

remainder : (n m q r : ℕ) → n ≡ q * m + r → r < m → n % m ≡ r
remainder n m q r e h = ap (λ (x : ℕ). x % m) e ∙ digits_mod q h

parts : (n : ℕ) → n ≡ word (n % 256) (n / 256 % 256) (n / 65536 % 256) (n / 16777216)
parts n = omega arith

record Parts (n a b c d : ℕ) : Type 0 where
  first : n % 256 ≡ a
  second : n / 256 % 256 ≡ b
  third : n / 65536 % 256 ≡ c
  fourth : n / 16777216 ≡ d

Parts-of : (n a b c d : ℕ) → n ≡ word a b c d → a < 256 → b < 256 → c < 256 → Parts n a b c d
Parts-of n a b c d w h i j =
    let two = quotient n 256 (b + 256 * c + 65536 * d) a (omega arith) h in
    let three = quotient n 65536 (c + 256 * d) (a + 256 * b) (omega arith) (omega arith) in
    record {
      first = remainder n 256 (b + 256 * c + 65536 * d) a (omega arith) h;
      second = remainder (n / 256) 256 (c + 256 * d) b (omega arith) i;
      third = remainder (n / 65536) 256 d c (omega arith) j;
      fourth = quotient n 16777216 d (a + 256 * b + 65536 * c) (omega arith) (omega arith);
    }

-- ---- the test

-- a byte with none of its four upper bits
low_byte : (n : ℕ) → n < 256 → bit_and n 0xf0 ≡ 0 → n < 16
low_byte n h e =
    let small : n / 16 < 16 = omega arith in
    let none : n / 16 % 16 * 16 ≡ 0 = sym (and_high n 4 4) ∙ e in
    omega (arith, mod-eq_of_lt small)

record Low (a b : ℕ) : Type 0 where
  one : a < 16
  other : b < 16

Low-bytes : (a b m : ℕ) → bit_and (bit_or a b) m ≡ 0 → m % 2 ^ 8 ≡ 0xf0 → Low (a % 2 ^ 8) (b % 2 ^ 8)
Low-bytes a b m e f =
    let x = a % 2 ^ 8 in
    let y = b % 2 ^ 8 in
    let both : bit_and (bit_or x y) 0xf0 ≡ 0 =
    sym (ap₂ bit_and (or_mod a b 8) f) ∙ sym (and_mod (bit_or a b) m 8) ∙ ap (λ (n : ℕ). n % 2 ^ 8) e in
    let low = low_byte (bit_or x y) (or_lt 8 x y (omega arith) (omega arith)) both in
    record { one = omega (arith, or_add_and x y, and_le_r x y); other = omega (arith, or_add_and x y, and_le_l x y) }

higher : (a b m k : ℕ) → bit_and (bit_or a b) m ≡ 0 → bit_and (bit_or (a / 2 ^ k) (b / 2 ^ k)) (m / 2 ^ k) ≡ 0 / 2 ^ k
higher a b m k e =
    ap (λ (n : ℕ). bit_and n (m / 2 ^ k)) (sym (or_shr a b k)) ∙ sym (and_shr (bit_or a b) m k) ∙ ap (λ (n : ℕ). n / 2 ^ k) e

pub are_Digits : (n : ℕ) → n < 4294967296 → (bit_and (bit_or n (n + 0x06060606)) 0xf0f0f0f0 == 0) ≡ true → Digits n
are_Digits n h t =
    let e = eqb-true (bit_and (bit_or n (n + 0x06060606)) 0xf0f0f0f0) 0 t in
    let more = n + 0x06060606 in
    let first = Low-bytes n more 0xf0f0f0f0 e refl in
    let second = Low-bytes (n / 256) (more / 256) 0xf0f0f0 (higher n more 0xf0f0f0f0 8 e) refl in
    let third = Low-bytes (n / 65536) (more / 65536) 0xf0f0 (higher n more 0xf0f0f0f0 16 e) refl in
    let fourth = Low-bytes (n / 16777216) (more / 16777216) 0xf0 (higher n more 0xf0f0f0f0 24 e) refl in
    let whole : more ≡ word (n % 256 + 6) (n / 256 % 256 + 6) (n / 65536 % 256 + 6) (n / 16777216 + 6) = omega (arith, parts n) in
    let sum = Parts-of more _ _ _ _ whole (omega (arith, first.one)) (omega (arith, second.one)) (omega (arith, third.one)) in
    let top : n / 16777216 < 16 = let small : n / 16777216 < 256 = omega arith in omega (arith, fourth.one, mod-eq_of_lt small) in
    let above : more / 16777216 < 256 = omega (arith, sum.fourth) in
    record {
      first = omega (arith, first.other, sum.first);
      second = omega (arith, second.other, sum.second);
      third = omega (arith, third.other, sum.third);
      fourth = omega (arith, fourth.other, sum.fourth, mod-eq_of_lt above);
    }

-- ---- the value

-- of each half the lower byte
lower : (n x y : ℕ) → n ≡ y * 256 + x → x < 256 → bit_and n 0xff ≡ x
lower n x y e h = and_mask n 8 ∙ remainder n 256 y x e h

halves : (x y u v : ℕ) → x < 256 → y < 256 → v < 256 → bit_and ((x + 256 * u) * 65536 + (y + 256 * v)) 0x00ff00ff ≡ x * 65536 + y
halves x y u v h i j =
    and_block 16 (x + 256 * u) 0xff (y + 256 * v) 0xff (omega arith) (omega arith)
    ∙ ap₂ (λ (p q : ℕ). p * 65536 + q) (lower (x + 256 * u) x u (omega arith) h) (lower (y + 256 * v) y v (omega arith) i)

value_of : (n a b c d : ℕ) → n ≡ word a b c d → a ≤ 9 → b ≤ 9 → c ≤ 9 → d ≤ 9
    → 6553601 * bit_and (2561 * n / 256) 0x00ff00ff / 65536 % 65536 ≡ 1000 * a + 100 * b + 10 * c + d
value_of n a b c d w h i j k =
    let first = 10 * a + b in
    let last = 10 * c + d in
    let all = (last + 256 * (10 * d)) * 65536 + (first + 256 * (10 * b + c)) in
    let pairs = bit_and (2561 * n / 256) 0x00ff00ff in
    let both : pairs ≡ last * 65536 + first =
    ap (λ (x : ℕ). bit_and x 0x00ff00ff) (quotient (2561 * n) 256 all a (omega arith) (omega arith))
    ∙ halves last first (10 * d) (10 * b + c) (omega arith) (omega arith) (omega arith) in
    let whole = quotient (6553601 * pairs) 65536 (100 * last * 65536 + (100 * first + last)) first (omega arith) (omega arith) in
    remainder (6553601 * pairs / 65536) 65536 (100 * last) (1000 * a + 100 * b + 10 * c + d) (omega arith) (omega arith)

pub four_value : (n : ℕ) → Digits n → 6553601 * bit_and (2561 * n / 256) 0x00ff00ff / 65536 % 65536 ≡ spelled n
four_value n p = value_of n _ _ _ _ (parts n) p.first p.second p.third p.fourth

-- ---- the bytes

pub record Bytes (t : List ℕ) (at a b c d : ℕ) : Type 0 where
  pub first : get_or t at 0 ≡ digit0 + a
  pub second : get_or t (at + 1) 0 ≡ digit0 + b
  pub third : get_or t (at + 2) 0 ≡ digit0 + c
  pub fourth : get_or t (at + 3) 0 ≡ digit0 + d

bytes_of : (t : List ℕ) (at n a b c d : ℕ) → Four t at n → n ≡ word a b c d → a ≤ 9 → b ≤ 9 → c ≤ 9 → d ≤ 9 → Bytes t at a b c d
bytes_of t at n a b c d f w h i j k =
    record {
      first = omega (arith, f.whole, f.first, f.second, f.third, f.fourth);
      second = omega (arith, f.whole, f.first, f.second, f.third, f.fourth);
      third = omega (arith, f.whole, f.first, f.second, f.third, f.fourth);
      fourth = omega (arith, f.whole, f.first, f.second, f.third, f.fourth);
    }

pub digit_Bytes : (t : List ℕ) (at n : ℕ) → Four t at n → Digits n → Bytes t at (n % 256) (n / 256 % 256) (n / 65536 % 256) (n / 16777216)
digit_Bytes t at n f p = bytes_of t at n _ _ _ _ f (parts n) p.first p.second p.third p.fourth
