-- What a run replies, and what it leaves in lent memory, for every input.
--
--   fault_of_choices most cs  13: the first choice that is no direction
--   fault_of_run       1; 2 to 6; 7; 8 (table, room); 13
--   run_reply          deliveries, idle choices, quiet or not; or the refusal
--   final_table, final_room  the lent table, with the lines of that moment, and the lent room
use Rattle.rules.specs.Replies.{Verdict}
use Rattle.std.specs.Prelude.{ℕ, suc, ◌*◌, cond, ◌&&◌, List, [], ◌∷◌, leb, ltb, length, Err, Ok, Result}
use Rattle.rules.specs.declared.Limits.{Limits}
use Rattle.rules.specs.declared.Refusal.TheVariants.{OverLimit, NoDirection}
use Rattle.rules.specs.Network.{links_of, ases_of, arcs_of}
use Rattle.rules.specs.Checks.{needed_room}
use Rattle.rules.specs.Entry.{and_then, unless, fault_of_links, fault_of_destination, fault_of_output, fault_of_room, cleared, filled}
use Rattle.rules.specs.Stable.{table_of}
use Rattle.rules.specs.Machine.{Run, run_of, lowest, is_quiet}
use Rattle.rules.specs.declared.Refusal.{Refusal}
use Rattle.machine.specs.declared.Ran.{Ran}

-- 'choice is no direction', place 'choice index'
unfoldable pub choice_from : ℕ → ℕ → List ℕ → Verdict
choice_from directions i [] = Ok tt
choice_from directions i (c ∷ cs) = cond (ltb c directions) (choice_from directions (suc i) cs) (Err (NoDirection i))

abbrev pub fault_of_choices : ℕ → List ℕ → Verdict
fault_of_choices directions cs = choice_from directions 0 cs

-- 'Order: 1; then links in list order, within a link 2 to 6; then 7, 8, 13'. 65,536 choices, 65,536 further deliveries
unfoldable pub fault_of_run : Limits → List ℕ → ℕ → List ℕ → ℕ → ℕ → ℕ → Verdict
fault_of_run limits ws d choices further table room =
    let ls = links_of ws in
    let n = length (ases_of ls) in
    and_then (unless (leb (length choices) 65536 && leb further 65536) OverLimit)
    (and_then (fault_of_links limits ws)
    (and_then (fault_of_destination d (ases_of ls))
    (and_then (fault_of_output (4 * n) table)
    (and_then (fault_of_room (needed_room (length ls) n) room)
    (fault_of_choices (2 * length ls) choices)))))

-- the definition's steps
abbrev pub run_on : List ℕ → ℕ → List ℕ → ℕ → Run
run_on ws d choices further = run_of (arcs_of (links_of ws)) d choices further

abbrev pub reply_run : List ℕ → Run → Verdict → Result Ran Refusal
reply_run ws r (Ok tt) =
    Ok (record { made = r.made; idle = r.idle; quiet = is_quiet (lowest (arcs_of (links_of ws)) r.state.waiting) })
reply_run ws r (Err why) = Err why

unfoldable pub run_reply : Limits → List ℕ → ℕ → List ℕ → ℕ → ℕ → ℕ → Result Ran Refusal
run_reply limits ws d choices further table room =
    reply_run ws (run_on ws d choices further) (fault_of_run limits ws d choices further table room)

unfoldable pub final_table : Limits → List ℕ → ℕ → List ℕ → ℕ → List ℕ → ℕ → List ℕ
final_table limits ws d choices further table room =
    filled (fault_of_run limits ws d choices further (length table) room)
    (table_of (run_on ws d choices further).state.lines (ases_of (links_of ws))) table

unfoldable pub final_room : Limits → List ℕ → ℕ → List ℕ → ℕ → ℕ → List ℕ → List ℕ
final_room limits ws d choices further table room =
    cleared (fault_of_run limits ws d choices further table (length room)) room
