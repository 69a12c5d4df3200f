-- The bytes of a sheet: 'Tagged fields: one-byte tag, two-byte length, high byte first'.
--
--   bytes2 x, bytes4 x     a number as bytes, high byte first; word2 s i, word4 s i   and back, at byte i
--   sheet_of d es      the sheet of the destination d and the lines es
--   fault_of_form s    10: the first byte where the form is broken
--   destination_of s, lines_of s  what a sheet of right form says
use Rattle.rules.specs.Replies.{Verdict}
use Rattle.std.specs.Prelude.{ℕ, zero, suc, ◌+◌, ◌-◌, ◌*◌, ◌/◌, ◌%◌, cond, ◌&&◌, List, [], ◌∷◌, ◌++◌, leb, eqb, length, get_or, drop, Err}
use Rattle.rules.specs.declared.Refusal.TheVariants.{BrokenForm}
use Rattle.rules.specs.Entry.{unless}
use Rattle.rules.specs.Judge.{Entry, entry}

abbrev pub bytes2 : ℕ → List ℕ
bytes2 x = x / 256 % 256 ∷ x % 256 ∷ []

abbrev pub bytes4 : ℕ → List ℕ
bytes4 x = x / 16777216 % 256 ∷ x / 65536 % 256 ∷ x / 256 % 256 ∷ x % 256 ∷ []

abbrev pub word2 : List ℕ → ℕ → ℕ
word2 s i = 256 * get_or s i 0 + get_or s (i + 1) 0

abbrev pub word4 : List ℕ → ℕ → ℕ
word4 s i = 65536 * word2 s i + word2 s (i + 2)

-- 'Tag 2: lines of 11 bytes: AS (4), type (1), length (2), next hop (4)'
unfoldable pub line_bytes : Entry → List ℕ
line_bytes e =
    bytes4 e.number ++ ((e.line.pair.typ % 256 ∷ []) ++ (bytes2 e.line.pair.length ++ bytes4 e.line.next))

unfoldable pub lines_bytes : List Entry → List ℕ
lines_bytes [] = []
lines_bytes (e ∷ es) = line_bytes e ++ lines_bytes es

-- 'Tag 1: length 4, destination. Both, in this order, nothing after. So n lines take 10 + 11n bytes'
unfoldable pub sheet_of : ℕ → List Entry → List ℕ
sheet_of d es = (1 ∷ 0 ∷ 4 ∷ []) ++ (bytes4 d ++ ((2 ∷ []) ++ (bytes2 (11 * length es) ++ lines_bytes es)))

-- 'A wrong byte is its own place, the first one found. A sheet that ends before a needed tag or length byte has its own length as place'
abbrev pub needs : List ℕ → ℕ → ℕ → Verdict → Verdict
needs s i value next =
    cond (leb (length s) i) (Err (BrokenForm (length s)))
    (cond (eqb (get_or s i 0) value) next (Err (BrokenForm i)))

-- 'bytes 8 and 9 are a multiple of 11 and equal the bytes left (place 8)'
unfoldable pub fault_of_length : List ℕ → Verdict
fault_of_length s =
    cond (leb (length s) 9) (Err (BrokenForm (length s)))
    (unless (eqb (word2 s 8 % 11) 0 && eqb (word2 s 8) (length s - 10)) (BrokenForm 8))

-- 'byte 0 is 1; bytes 1 and 2 say 4; byte 7 is 2'
unfoldable pub fault_of_form : List ℕ → Verdict
fault_of_form s = needs s 0 1 (needs s 1 0 (needs s 2 4 (needs s 7 2 (fault_of_length s))))

abbrev pub destination_of : List ℕ → ℕ
destination_of s = word4 s 3

abbrev pub count_of_lines : List ℕ → ℕ
count_of_lines s = word2 s 8 / 11

unfoldable pub lines_from : ℕ → List ℕ → List Entry
lines_from zero s = []
lines_from (suc n) s = entry (word4 s 0) (get_or s 4 0) (word2 s 5) (word4 s 7) ∷ lines_from n (drop 11 s)

abbrev pub lines_of : List ℕ → List Entry
lines_of s = lines_from (count_of_lines s) (drop 10 s)
