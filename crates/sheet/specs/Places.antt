-- What stands at a place of table words and of a sheet, and what is written over the front of a list.
--
--   entry_of r          a row of the code as a line
--   entry_at ws i       entry i of table words, by index
--   line_from s at     the line in the eleven bytes from byte at on; entry_line s i   line i of a sheet
--   head_of d size      the ten bytes before lines of so many bytes
--   over out old       the list out, written over the front of old
use Rattle.std.specs.Prelude.{ℕ, ◌+◌, ◌*◌, List, [], ◌∷◌, ◌++◌, length, get_or, drop}
use Rattle.rules.specs.Judge.{Entry, entry}
use Rattle.sheet.specs.declared.rows.Row.{Row}
use Rattle.sheet.specs.Form.{bytes2, bytes4, word2, word4}

abbrev pub entry_of : Row → Entry
entry_of r = entry r.number r.typ r.length r.next

abbrev pub entry_at : List ℕ → ℕ → Entry
entry_at ws i = entry (get_or ws (4 * i) 0) (get_or ws (4 * i + 1) 0) (get_or ws (4 * i + 2) 0) (get_or ws (4 * i + 3) 0)

abbrev pub line_from : List ℕ → ℕ → Entry
line_from s at = entry (word4 s at) (get_or s (at + 4) 0) (word2 s (at + 5)) (word4 s (at + 7))

abbrev pub entry_line : List ℕ → ℕ → Entry
entry_line s i = line_from s (10 + 11 * i)

abbrev pub head_of : ℕ → ℕ → List ℕ
head_of d size = (1 ∷ 0 ∷ 4 ∷ []) ++ bytes4 d ++ (2 ∷ []) ++ bytes2 size

-- 'output bytes or words beyond the result stay as they were'
abbrev pub over : List ℕ → List ℕ → List ℕ
over out old = out ++ drop (length out) old
