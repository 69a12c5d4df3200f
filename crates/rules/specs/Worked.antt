-- The worked example of five ASes, and small networks beside it, on the definitions: a row for each reply, with what the definitions give
-- and what is expected. Lines are words: number, type, length, next hop.
--
--   examples           the rows; agrees row   both sides are the same numbers
use Rattle.rules.specs.Replies.{Verdict}
use Rattle.std.specs.Prelude.{ℕ, Bool, true, false, ◌&&◌, List, [], ◌∷◌, ◌++◌, eqb, Err, Ok}
use Rattle.rules.specs.declared.Link.{Link}
use Rattle.rules.specs.Pairs.{extended_type}
use Rattle.rules.specs.Refusals.{refusal_number, refusal_place}
use Rattle.rules.specs.Network.{links_of, ases_of, arcs_of}
use Rattle.rules.specs.Stable.{table_of}
use Rattle.rules.specs.Solve.{stable_of}
use Rattle.rules.specs.Judge.{entries_of, judge}
use Rattle.rules.specs.Findings.{ringed, joined}
use Rattle.rules.specs.Machine.{Run, run_of, is_quiet, lowest}

pub record Example : Type 0 where
  pub found : List ℕ
  pub expected : List ℕ

-- 'Network A', of five ASes: '`10|20|-1`, `20|30|-1`, `30|40|-1`, `10|40|0`, `10|50|-1`'
unfoldable pub network_a : List Link
network_a = links_of (10 ∷ 20 ∷ 1 ∷ 20 ∷ 30 ∷ 1 ∷ 30 ∷ 40 ∷ 1 ∷ 10 ∷ 40 ∷ 0 ∷ 10 ∷ 50 ∷ 1 ∷ [])

-- `1|2|0`, `2|3|0`
unfoldable pub two_peerings : List Link
two_peerings = links_of (1 ∷ 2 ∷ 0 ∷ 2 ∷ 3 ∷ 0 ∷ [])

-- `1|2|-1`, `2|3|-1`, `3|1|-1`
unfoldable pub ring_of_three : List Link
ring_of_three = links_of (1 ∷ 2 ∷ 1 ∷ 2 ∷ 3 ∷ 1 ∷ 3 ∷ 1 ∷ 1 ∷ [])

-- the same ring beside `9|8|-1`, and lines to 8 that lead round it
unfoldable pub ring_aside : List Link
ring_aside = links_of (1 ∷ 2 ∷ 1 ∷ 2 ∷ 3 ∷ 1 ∷ 3 ∷ 1 ∷ 1 ∷ 9 ∷ 8 ∷ 1 ∷ [])

abbrev pub loop_round : List ℕ
loop_round = 1 ∷ 1 ∷ 5 ∷ 2 ∷ 2 ∷ 1 ∷ 5 ∷ 3 ∷ 3 ∷ 1 ∷ 5 ∷ 1 ∷ 8 ∷ 1 ∷ 0 ∷ 8 ∷ 9 ∷ 1 ∷ 1 ∷ 8 ∷ []

unfoldable pub table_to : List Link → ℕ → List ℕ
table_to ls d = table_of (stable_of (arcs_of ls) d) (ases_of ls)

abbrev pub yes_no : Bool → ℕ
yes_no true = 1
yes_no false = 0

unfoldable pub findings : List Link → List ℕ
findings ls = yes_no (ringed ls) ∷ yes_no (joined ls) ∷ []

-- deliveries, idle choices, quiet or not; and lines of that moment
abbrev pub counts : List Link → Run → List ℕ
counts ls r = r.made ∷ r.idle ∷ yes_no (is_quiet (lowest (arcs_of ls) r.state.waiting)) ∷ []

unfoldable pub run_to : List Link → ℕ → List ℕ → ℕ → List ℕ → List ℕ
run_to ls d choices n us =
    let r = run_of (arcs_of ls) d choices n in
    counts ls r ++ table_of r.state.lines us

-- number and place of a refusal, or 0
abbrev pub said : Verdict → List ℕ
said (Ok tt) = 0 ∷ []
said (Err r) = refusal_number r ∷ refusal_place r ∷ []

unfoldable pub judged_to : List Link → ℕ → List ℕ → List ℕ
judged_to ls d words = said (judge ls d 511 (entries_of words))

abbrev pub row : List ℕ → List ℕ → Example
row found expected = record { found = found; expected = expected }

-- the lines of A to 40 but for 50's, which follows
abbrev pub lines_p1 : List ℕ → List ℕ
lines_p1 last = 10 ∷ 1 ∷ 3 ∷ 20 ∷ 20 ∷ 1 ∷ 2 ∷ 30 ∷ 30 ∷ 1 ∷ 1 ∷ 40 ∷ 40 ∷ 1 ∷ 0 ∷ 40 ∷ last

abbrev pub table_p1 : List ℕ
table_p1 = lines_p1 (50 ∷ 3 ∷ 4 ∷ 10 ∷ [])

unfoldable pub examples : List Example
examples =
    -- A: 'to 40: 10 is (1,3) by 20; 20 (1,2) by 30; 30 (1,1) by 40; 50 (3,4) by 10'
    row (table_to network_a 40) table_p1
    -- A: 'to 50: 10 (1,1) by 50; 20 (3,2) by 10; 30 (3,3) by 20; 40 (2,2) by 10'
    ∷ row (table_to network_a 50) (10 ∷ 1 ∷ 1 ∷ 50 ∷ 20 ∷ 3 ∷ 2 ∷ 10 ∷ 30 ∷ 3 ∷ 3 ∷ 20 ∷ 40 ∷ 2 ∷ 2 ∷ 10 ∷ 50 ∷ 1 ∷ 0 ∷ 50 ∷ [])
    -- two peerings: 'to 3: 1 is (4,0) by 1; 2 is (2,1) by 3; not joined'
    ∷ row (table_to two_peerings 3) (1 ∷ 4 ∷ 0 ∷ 1 ∷ 2 ∷ 2 ∷ 1 ∷ 3 ∷ 3 ∷ 1 ∷ 0 ∷ 3 ∷ [])
    ∷ row (findings two_peerings) (0 ∷ 0 ∷ [])
    -- the extension table: 'type 1 over 3, and 2 over 2, give 4; 3 over 2 gives 3'
    ∷ row (extended_type 1 3 ∷ extended_type 2 2 ∷ extended_type 3 2 ∷ []) (4 ∷ 4 ∷ 3 ∷ [])
    -- a run: 'A to 40, no choices: quiet after 10'
    ∷ row (run_to network_a 40 [] 65536 (ases_of network_a)) (10 ∷ 0 ∷ 1 ∷ table_p1)
    -- the same with choices: 'choices 7, 8: quiet after 16, same table; after only these two 50 is (3,2)'
    ∷ row (run_to network_a 40 (7 ∷ 8 ∷ []) 65536 (ases_of network_a)) (16 ∷ 0 ∷ 1 ∷ table_p1)
    ∷ row (run_to network_a 40 (7 ∷ 8 ∷ []) 0 (50 ∷ [])) (2 ∷ 0 ∷ 0 ∷ 50 ∷ 3 ∷ 2 ∷ 10 ∷ [])
    -- a choice again: 'choices 7, 8, 7: one idle'
    ∷ row (run_to network_a 40 (7 ∷ 8 ∷ 7 ∷ []) 0 []) (2 ∷ 1 ∷ 0 ∷ [])
    -- findings: 'A has no ring and is joined', '`1|2|-1`, `2|3|-1`, `3|1|-1` has one'; with no top it is joined
    ∷ row (findings network_a) (0 ∷ 1 ∷ [])
    ∷ row (findings ring_of_three) (1 ∷ 1 ∷ [])
    -- judging: A's sheet to 40 with 50's length 2 has 'refusal 12, line 4'; as it is, it passes
    ∷ row (judged_to network_a 40 (lines_p1 (50 ∷ 3 ∷ 2 ∷ 10 ∷ []))) (12 ∷ 4 ∷ [])
    ∷ row (judged_to network_a 40 table_p1) (0 ∷ [])
    -- 'Letting an older update arrive after a newer one on its direction': 10's (2,1) waits for 50 and is replaced by (1,3)
    ∷ row (run_to network_a 40 (7 ∷ 5 ∷ 3 ∷ 1 ∷ 8 ∷ []) 0 (50 ∷ [])) (5 ∷ 0 ∷ 0 ∷ 50 ∷ 3 ∷ 4 ∷ 10 ∷ [])
    -- 'Judging a sheet by kinds and next hops alone: a loop round a customer ring would pass'
    ∷ row (judged_to ring_aside 8 loop_round) (12 ∷ 0 ∷ [])
    ∷ []

unfoldable pub same_numbers : List ℕ → List ℕ → Bool
same_numbers [] [] = true
same_numbers [] (y ∷ l) = false
same_numbers (x ∷ k) [] = false
same_numbers (x ∷ k) (y ∷ l) = eqb x y && same_numbers k l

unfoldable pub agrees : Example → Bool
agrees e = same_numbers e.found e.expected
