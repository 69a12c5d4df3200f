-- What the quick reader has found where it is sure.
--
--   Stands t at f end  the bytes of t from place `at` to place `end` are f
--   Found t at room most written v end   v, at most `most`, is written there; within `room` bytes
--   Begun t at k v     k bytes from `at` on, ten at most, are the digits of v, which is no zero; ten bytes are there
--   Four t at n        n holds the four bytes from `at` on, the first lowest, each less `0`
--   Digits n           the four bytes of n are digits less `0`; spelled n   the number that they spell
--   FourDigits t at v  the four bytes from `at` on are digits, which spell v
--   Written t at l end a link has its line there, with its LF at `end`
--   Gives t at end r   the line that begins at `at` ends at `end` and gives r
use Rattle.std.specs.Prelude.{ℕ, ◌+◌, ◌-◌, ◌*◌, ◌/◌, ◌%◌, ◌^◌, ◌≤◌, ◌<◌, ◌≡◌, List, [], ◌∷◌, ◌++◌, length, get_or, take, drop}
use Rattle.rules.specs.declared.Link.{Link}
use Rattle.linktext.specs.declared.LineRead.{LineRead}
use Rattle.linktext.specs.Lines.{lf, bar, read_of_line}
use Rattle.linktext.specs.Texts.{decimal, relation_text, line_text}
use Rattle.linktext.specs.Fields.{place_of}
use Rattle.linktext.specs.Plain.{Plain}

pub record Stands (t : List ℕ) (at : ℕ) (f : List ℕ) (end : ℕ) : Type 0 where
  pub bytes : drop at t ≡ f ++ drop end t
  pub after : end ≡ at + length f

pub record Found (t : List ℕ) (at room most : ℕ) (written : ℕ → List ℕ) (v end : ℕ) : Type 0 where
  pub within : end ≤ at + room
  pub small : v ≤ most
  pub stands : Stands t at (written v) end

pub record Begun (t : List ℕ) (at k v : ℕ) : Type 0 where
  pub room : at + 10 ≤ length t
  pub most : k ≤ 10
  pub some : 1 ≤ v
  pub small : v < 10 ^ k
  pub stands : Stands t at (decimal v) (at + k)

-- four bytes in one number, the first lowest
abbrev pub word : ℕ → ℕ → ℕ → ℕ → ℕ
word a b c d = a + 256 * b + 65536 * c + 16777216 * d

pub record Four (t : List ℕ) (at n : ℕ) : Type 0 where
  pub whole : n ≡ (word (get_or t at 0) (get_or t (at + 1) 0) (get_or t (at + 2) 0) (get_or t (at + 3) 0) + 0xcfcfcfd0) % 4294967296
  pub first : get_or t at 0 < 256
  pub second : get_or t (at + 1) 0 < 256
  pub third : get_or t (at + 2) 0 < 256
  pub fourth : get_or t (at + 3) 0 < 256

pub record Digits (n : ℕ) : Type 0 where
  pub first : n % 256 ≤ 9
  pub second : n / 256 % 256 ≤ 9
  pub third : n / 65536 % 256 ≤ 9
  pub fourth : n / 16777216 ≤ 9

abbrev pub spelled : ℕ → ℕ
spelled n = 1000 * (n % 256) + 100 * (n / 256 % 256) + 10 * (n / 65536 % 256) + n / 16777216

pub record FourDigits (t : List ℕ) (at v : ℕ) : Type 0 where
  pub four : ℕ
  pub bytes : Four t at four
  pub digits : Digits four
  pub value : v ≡ spelled four

-- a number with its bar, a relation with its line's end
abbrev pub field_text : ℕ → List ℕ
field_text n = decimal n ++ (bar ∷ [])

abbrev pub end_text : ℕ → List ℕ
end_text r = relation_text r ++ (lf ∷ [])

pub record Written (t : List ℕ) (at : ℕ) (l : Link) (end : ℕ) : Type 0 where
  pub plain : Plain l
  pub stands : Stands t at (line_text l) (end + 1)

pub record Gives (t : List ℕ) (at end : ℕ) (r : LineRead) : Type 0 where
  pub stop : end ≡ at + place_of lf (drop at t)
  pub gave : r ≡ read_of_line (take (end - at) (drop at t))
