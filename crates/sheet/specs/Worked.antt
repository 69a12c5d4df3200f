-- Sheets worked by hand, on the definitions: the bytes of P1's sheet, P10, and where a cut or damaged sheet is broken.
use Rattle.std.specs.Prelude.{ℕ, List, [], ◌∷◌, ◌++◌, take, set}
use Rattle.rules.specs.Checks.{base_limits}
use Rattle.rules.specs.Judge.{entries_of, words_of}
use Rattle.rules.specs.Worked.{Example, row, said, lines_p1, table_p1}
use Rattle.sheet.specs.Form.{sheet_of, fault_of_form, destination_of, lines_of}
use Rattle.sheet.specs.Entries.{judge_reply, fault_of_table}

abbrev pub words_a : List ℕ
words_a = 10 ∷ 20 ∷ 1 ∷ 20 ∷ 30 ∷ 1 ∷ 30 ∷ 40 ∷ 1 ∷ 10 ∷ 40 ∷ 0 ∷ 10 ∷ 50 ∷ 1 ∷ []

-- the sheet to 40 of table words
unfoldable pub sheet_to_40 : List ℕ → List ℕ
sheet_to_40 table = sheet_of 40 (entries_of table)

-- what the judge says of a sheet for network A, in a room of so many words
unfoldable pub judged_a : ℕ → List ℕ → List ℕ
judged_a room s = said (judge_reply base_limits 511 words_a s room)

unfoldable pub examples : List Example
examples =
    -- the bytes of P1's sheet: 10 + 11 * 5
    row (sheet_to_40 table_p1)
    ((1 ∷ 0 ∷ 4 ∷ 0 ∷ 0 ∷ 0 ∷ 40 ∷ 2 ∷ 0 ∷ 55 ∷ [])
    ++ ((0 ∷ 0 ∷ 0 ∷ 10 ∷ 1 ∷ 0 ∷ 3 ∷ 0 ∷ 0 ∷ 0 ∷ 20 ∷ [])
    ++ ((0 ∷ 0 ∷ 0 ∷ 20 ∷ 1 ∷ 0 ∷ 2 ∷ 0 ∷ 0 ∷ 0 ∷ 30 ∷ [])
    ++ ((0 ∷ 0 ∷ 0 ∷ 30 ∷ 1 ∷ 0 ∷ 1 ∷ 0 ∷ 0 ∷ 0 ∷ 40 ∷ [])
    ++ ((0 ∷ 0 ∷ 0 ∷ 40 ∷ 1 ∷ 0 ∷ 0 ∷ 0 ∷ 0 ∷ 0 ∷ 40 ∷ []) ++ (0 ∷ 0 ∷ 0 ∷ 50 ∷ 3 ∷ 0 ∷ 4 ∷ 0 ∷ 0 ∷ 0 ∷ 10 ∷ []))))))
    -- read back
    ∷ row (destination_of (sheet_to_40 table_p1) ∷ words_of (lines_of (sheet_to_40 table_p1))) (40 ∷ table_p1)
    -- it passes in a room of 8 * 5 + 8 * 5 words; one word less is refusal 8, place 1
    ∷ row (judged_a 80 (sheet_to_40 table_p1)) (0 ∷ [])
    ∷ row (judged_a 79 (sheet_to_40 table_p1)) (8 ∷ 1 ∷ [])
    -- P10 'sheet P1 with 50's length 2: refusal 12, line 4'
    ∷ row (judged_a 80 (sheet_to_40 (lines_p1 (50 ∷ 3 ∷ 2 ∷ 10 ∷ [])))) (12 ∷ 4 ∷ [])
    -- 30's length 5: 20's line is then not the best offer of its neighbours' lines as printed
    ∷ row (judged_a 80 (set (sheet_to_40 table_p1) 38 5)) (12 ∷ 1 ∷ [])
    -- a destination that is not in the network; a line that is not due; a type 5; a line too few
    ∷ row (judged_a 80 (set (sheet_to_40 table_p1) 6 41)) (7 ∷ 0 ∷ [])
    ∷ row (judged_a 80 (set (sheet_to_40 table_p1) 46 41)) (11 ∷ 3 ∷ [])
    ∷ row (judged_a 80 (set (sheet_to_40 table_p1) 58 5)) (11 ∷ 4 ∷ [])
    ∷ row (judged_a 80 (sheet_to_40 (lines_p1 []))) (11 ∷ 4 ∷ [])
    -- 'A sheet that ends before a needed tag or length byte has its own length as place'; cut later, bytes 8 and 9 are wrong
    ∷ row (said (fault_of_form [])) (10 ∷ 0 ∷ [])
    ∷ row (said (fault_of_form (take 5 (sheet_to_40 table_p1)))) (10 ∷ 5 ∷ [])
    ∷ row (said (fault_of_form (take 9 (sheet_to_40 table_p1)))) (10 ∷ 9 ∷ [])
    ∷ row (said (fault_of_form (take 64 (sheet_to_40 table_p1)))) (10 ∷ 8 ∷ [])
    -- 'A wrong byte is its own place, the first one found'
    ∷ row (said (fault_of_form (set (set (sheet_to_40 table_p1) 1 7) 7 7))) (10 ∷ 1 ∷ [])
    ∷ row (said (fault_of_form (set (sheet_to_40 table_p1) 7 1))) (10 ∷ 7 ∷ [])
    ∷ row (said (fault_of_form (set (sheet_to_40 table_p1) 9 54))) (10 ∷ 8 ∷ [])
    -- a table of five entries and a word more, and of four
    ∷ row (said (fault_of_table 511 (10 ∷ 20 ∷ 30 ∷ 40 ∷ 50 ∷ []) (table_p1 ++ (7 ∷ [])))) (11 ∷ 5 ∷ [])
    ∷ row (said (fault_of_table 511 (10 ∷ 20 ∷ 30 ∷ 40 ∷ 50 ∷ []) (lines_p1 []))) (11 ∷ 4 ∷ [])
    ∷ []
