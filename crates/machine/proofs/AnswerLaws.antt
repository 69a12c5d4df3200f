-- The answers: what a refusal leaves, what a run that passes leaves, and the verdict test by test.
use Prim.Native.Nat.{ℕ, zero, suc, ◌+◌, ◌*◌, ◌≤◌, ◌<◌}
use mathlib.Core.Path.{◌≡◌, refl, sym, ◌∙◌, ap, subst}
use mathlib.Core.Bool.{Bool, true, false, cond, not}
use mathlib.Core.List.{List, [], ◌∷◌, ◌++◌}
use native.Mathlib.Omega.{arith}
use lib.Dec.{ltb, leb}
use lib.ListN.{length, get_or, take, drop, replicate}
use lib.Seq.{get_or-take, length-take-le}
use borrow.Author.Tests.{lt-ltb, le-ltb, ltb-true, leb-true, le-leb, lt-leb}
use Rattle.rules.specs.Replies.{Verdict}
use Rattle.std.specs.Prelude.{Err, Ok, Result}
use Rattle.rules.specs.declared.Refusal.{Refusal}
use Rattle.rules.specs.declared.Refusal.TheVariants.{OverLimit, NoDestination, OutputShort, RoomShort, NoDirection}
use Rattle.rules.specs.Network.{links_of, ases_of}
use Rattle.rules.specs.Checks.{base_limits, check_words, needed_room}
use Rattle.rules.specs.Entry.{and_then, fault_of_output, fault_of_room, verdict_of}
use Rattle.rules.specs.Stable.{table_of}
use Rattle.rules.specs.Machine.{Run, run_of, started, lowest, is_quiet}
use Rattle.rules.specs.Ascending.{Ascending}
use Rattle.rules.proofs.ListLaws.{member_yes, member_no}
use Rattle.rules.proofs.AcceptedLinks.{check_words-Accepted}
use Rattle.rules.proofs.NetworkLaws.{ases_Ascending}
use Rattle.rules.proofs.LineLaws.{table_length}
use Rattle.rules.proofs.VerdictLaws.{not_passes, both_pass, test_passes}
use Rattle.std.specs.Prelude.{Option, Some, None, is_some, is_none}
use Rattle.network.specs.Promises.{count_of, Listed, Stands}
use Rattle.network.proofs.ListedLaws.{listed_front, listed_ascends, placed, unplaced}
use Rattle.network.proofs.PrefixLaws.{count as count_links}
use Rattle.machine.specs.declared.Ran.{Ran}
use Rattle.machine.specs.declared.Counts.{Counts}
use Rattle.machine.specs.Entries.{choice_from, fault_of_choices, fault_of_run, run_on, run_reply, final_table, final_room}
use Rattle.machine.specs.Room.{net_of, ases_in, as_at, Laid}
use Rattle.machine.specs.Steps.{FirstBetween}
use Rattle.machine.specs.Runs.{no_counts, Reached, ChoseAll, WentOn}
use Rattle.machine.specs.Answers.{Answered, Outcome, NetworkAnswer, MemoryAnswer, RunAnswer, fault_of_memory, fault_of_network, Looking, Located, Driving, Driven}
use Rattle.machine.proofs.RunLaws.{quiet_here, lowest_here}

-- Choices -------------------------------------------------------------------------------------------------------------------------

-- the first fault, where it is known
pub choices_first : (directions j : ℕ) (cs : List ℕ) (i p : ℕ) → p ≡ j + i → i < length cs → directions ≤ get_or cs i 0
    → ((k : ℕ) → k < i → get_or cs k 0 < directions) → Err (NoDirection p) ≡ choice_from directions j cs
unfolding choice_from
choices_first directions j [] i p e h bad good = absurd (omega arith)
choices_first directions j (c ∷ cs) zero p e h bad good = (let f : p ≡ j = omega arith in rw (f, le-ltb c directions bad) refl)
choices_first directions j (c ∷ cs) (suc i) p e h bad good =
    rw (lt-ltb c directions (good 0 (omega arith)))
    (choices_first directions (suc j) cs i p (omega arith) (omega arith) bad (λ k l. good (suc k) (omega arith)))

pub choices_none_bad : (directions j : ℕ) (cs : List ℕ) → ((k : ℕ) → k < length cs → get_or cs k 0 < directions) → Ok tt ≡ choice_from directions j cs
unfolding choice_from
choices_none_bad directions j [] good = refl
choices_none_bad directions j (c ∷ cs) good =
    rw (lt-ltb c directions (good 0 (omega arith))) (choices_none_bad directions (suc j) cs (λ k l. good (suc k) (omega arith)))

choices_good : (directions j : ℕ) (cs : List ℕ) → choice_from directions j cs ≡ Ok tt → (i : ℕ) → i < length cs → get_or cs i 0 < directions
unfolding choice_from
choices_good directions j [] e i h = absurd (omega arith)
choices_good directions j (c ∷ cs) e i h = go (ltb c directions) refl e (choices_good directions (suc j) cs) i h
  where
    go : (b : Bool) → ltb c directions ≡ b → cond b (choice_from directions (suc j) cs) (Err (NoDirection j)) ≡ Ok tt
        → (choice_from directions (suc j) cs ≡ Ok tt → (i : ℕ) → i < length cs → get_or cs i 0 < directions)
        → (i : ℕ) → i < suc (length cs) → get_or (c ∷ cs) i 0 < directions
    go false t f rest i h = absurd (not_passes (NoDirection j) f)
    go true t f rest zero h = ltb-true c directions t
    go true t f rest (suc i) h = rest f i (omega arith)

-- A run that passes -----------------------------------------------------------------------------------------------------------------

quiet_is : {ws : List ℕ} {m d : ℕ} {rest : List ℕ} {run : Run} {c : Counts} {t r : List ℕ} → Laid ws m t r → Reached ws m d rest run c t r
    → (o : Option ℕ) → FirstBetween m r 0 (2 * m) o → is_none o ≡ is_quiet (lowest (net_of ws) run.state.waiting)
quiet_is l h None f = sym (ap is_quiet (quiet_here l h.holds f))
quiet_is l h (Some k) f = sym (ap is_quiet (lowest_here l h.holds k f))

none_is : (o : Option ℕ) (b : Bool) → is_some o ≡ not b → b ≡ is_none o
none_is o true e = sym (ap not e)
none_is o false e = sym (ap not e)

module _ {ws : List ℕ} {m place : ℕ} {cs : List ℕ} {n : ℕ} {t : List ℕ} {c : Counts} {t' r' : List ℕ} where
  -- p, q: the table and the room as the machine has them at its end
  pub driven : {b : Counts} {u v x y p q : List ℕ} → Reached ws m place (drop (4 * ases_in ws) t) (started (net_of ws) (as_at ws place)) no_counts u v
      → ChoseAll ws m place cs u v b x y → WentOn ws m place n b x y c p q → Laid ws m p q → (o : Option ℕ) → FirstBetween m q 0 (2 * m) o
      → {quiet : Bool} → is_some o ≡ not quiet
      → t' ≡ p → r' ≡ q → Driven ws m place cs n t (record { made = c.made; idle = c.idle; quiet = quiet }) t' r'
  unfolding run_of
  driven s a w l o f {quiet} z e g =
      let reached = w.after _ _ (a.after _ _ s) in
      rw (e, g) (record { reached = reached; waits_not = none_is o quiet z ∙ quiet_is l reached o f })

pub answered : {ws : List ℕ} {m place : ℕ} {cs : List ℕ} {n : ℕ} {t : List ℕ} {out : Ran} {t' r' : List ℕ} → Driven ws m place cs n t out t' r'
    → {r r'' : List ℕ} → length r' ≡ length r → r'' ≡ replicate (length r') 0 → RunAnswer ws place cs n t r (Ok out) t' r''
answered {ws} {m} {place} {cs} {n} {t} {out} d long z =
    let h = d.reached in
    let us = ases_of (links_of ws) in
    let lines = (run_on ws (as_at ws place) cs n).state.lines in
    record {
      replies = rw (h.made, h.idle, ← d.waits_not) refl;
      tabled = h.holds.lines ∙ ap (λ (j : ℕ). table_of lines us ++ drop j t) (sym (table_length lines us));
      zeroed = rw (← long) z;
    }

-- Refusals, one after the other -----------------------------------------------------------------------------------------------------

-- a refusal leaves all lent memory as it was
pub refused : (ws : List ℕ) (d : ℕ) (cs : List ℕ) (n : ℕ) {v : Verdict} (t r : List ℕ) {why : Refusal} → v ≡ Err why
    → Outcome ws d cs n v t r (Err why) t r
refused ws d cs n t r e = rw e (record { replies = refl; tabled = refl; zeroed = refl })

pub all_pass : {ws : List ℕ} {d : ℕ} {cs : List ℕ} {n : ℕ} {v : Verdict} {t r : List ℕ} {out : Result Ran Refusal} {t' r' : List ℕ} → v ≡ Ok tt
    → Outcome ws d cs n (Ok tt) t r out t' r' → Outcome ws d cs n v t r out t' r'
all_pass e o = rw e o

-- 8 and 13
module _ {ws ases : List ℕ} {place : ℕ} {cs : List ℕ} {n : ℕ} (g : Located ws ases place cs n) where
  count : length ases ≡ ases_in ws
  count = ap length g.listed

  links_are : length (links_of ws) ≡ count_of ws
  links_are = omega (arith, g.looking.words)

  pub few_parts : (count_of ws ≤ 1536) × (length ases ≤ 512)
  few_parts = (omega (arith, links_are, g.looking.few_links), omega (arith, count, g.looking.few_ases))

  -- the verdict, by the numbers that the code has
  pub memory_tests : (table room : ℕ) {m need : ℕ} → m ≡ count_of ws → need ≡ needed_room m (length ases)
      → and_then (fault_of_output (4 * length ases) table) (and_then (fault_of_room need room) (fault_of_choices (2 * m) cs)) ≡ fault_of_memory ws cs table room
  memory_tests table room links needs = rw (needs, links, ← links_are, count) refl

  pub may_drive : {t r : List ℕ} → fault_of_memory ws cs (length t) (length r) ≡ Ok tt → Driving ws (count_of ws) ases place cs n t r
  may_drive {t} {r} e =
      let entries = 4 * ases_in ws in
      let need = needed_room (length (links_of ws)) (ases_in ws) in
      let choices = fault_of_choices (2 * length (links_of ws)) cs in
      let all = both_pass (fault_of_output entries (length t)) (and_then (fault_of_room need (length r)) choices) e in
      let rest = both_pass (fault_of_room need (length r)) choices all.1 in
      let long : entries ≤ length t = leb-true entries (length t) (test_passes (leb entries (length t)) (Ok tt) OutputShort all.0).0 in
      let enough : need ≤ length r = leb-true need (length r) (test_passes (leb need (length r)) (Ok tt) RoomShort rest.0).0 in
      record {
        starting =
            record {
              links = links_are;
              few_links = few_parts.0;
              words = omega (arith, links_are, g.looking.words);
              listed = g.listed;
              few = omega (arith, few_parts.1);
              destination = g.destination;
              table = omega (arith, count, long);
              room = omega (arith, count, links_are, enough);
            };
        directions = choices_good (2 * count_of ws) 0 cs (rw (← links_are) rest.1);
        few_choices = g.looking.few_choices;
        deliveries = g.looking.deliveries;
      }

-- an accepted network, and so many choices and deliveries
pub may_look : {ws cs : List ℕ} {n known : ℕ} → length cs ≤ 65536 → n ≤ 65536 → check_words base_limits ws ≡ Ok known → Looking ws cs n
may_look {ws} {cs} {n} {known} few deliveries check =
    let (whole, ok) = check_words-Accepted base_limits ws known check in
    record {
      words = omega (arith, count_links ws, whole);
      few_links = ok.few_links;
      few_ases = omega (arith, ok.count, ok.few_ases);
      few_choices = few;
      deliveries = deliveries;
    }

-- 7
module _ {ws cs : List ℕ} {n : ℕ} (g : Looking ws cs n) {l u : List ℕ} {k : ℕ} (long : length l ≡ 512)
    (listed : Listed (ases_of (links_of ws)) l u k) where
  pub fits : length (ases_of (links_of ws)) ≤ length l
  fits = omega (arith, g.few_ases)

  pub may_search : (k ≤ length u) × Ascending (take k u)
  may_search = listed_ascends fits listed (ases_Ascending (links_of ws))

  module _ (d : ℕ) (p : Option ℕ) (stands : Stands u k d p) where
    pub no_destination : p ≡ None → {why : Refusal} → (let v : Result ℕ Refusal = Err why in v ≡ Err NoDestination) → (t r : List ℕ)
        → {out : Result Ran Refusal} → out ≡ Err why → NetworkAnswer ws d cs n t r out t r
    no_destination e {why} v t r o =
        let is : why ≡ NoDestination = cc in
        rw (o, is) (refused ws d cs n t r (rw (member_no d (ases_of (links_of ws)) (unplaced fits listed d (subst (Stands u k d) e stands)))))

    module _ {i : ℕ} (e : p ≡ Some i) where
      here : Stands u k d (Some i)
      here = subst (Stands u k d) e stands

      pub located : Located ws (take k u) i cs n
      located =
          record { looking = g; listed = listed_front listed; destination = omega (arith, here.0, length-take-le k u may_search.0) }

      its_number : as_at ws i ≡ d
      its_number = ap (λ (us : List ℕ). get_or us i 0) (sym (listed_front listed)) ∙ get_or-take k u i 0 here.0 ∙ here.1

      pub at_destination : (t r : List ℕ) {out : Result Ran Refusal} {t' r' : List ℕ}
          → MemoryAnswer ws i cs n t r out t' r'
          → NetworkAnswer ws d cs n t r out t' r'
      at_destination t r o =
          rw (member_yes d (ases_of (links_of ws)) (placed fits listed d i here)) (rw its_number at o)

-- 1 to 6
module _ (ws : List ℕ) (d : ℕ) (cs : List ℕ) (n : ℕ) (t r : List ℕ) where
  from_Outcome : {v : Verdict} {out : Result Ran Refusal} {t' r' : List ℕ} → fault_of_run base_limits ws d cs n (length t) (length r) ≡ v
      → Outcome ws d cs n v t r out t' r' → Answered base_limits ws d cs n t r out t' r'
  unfolding run_reply final_table final_room
  from_Outcome e o = record { replies = rw e o.replies; tabled = rw e o.tabled; zeroed = rw e o.zeroed }

  pub many_choices : 65536 < length cs → Answered base_limits ws d cs n t r (Err OverLimit) t r
  unfolding fault_of_run
  many_choices h = from_Outcome (rw (lt-leb (length cs) 65536 h)) (refused ws d cs n t r refl)

  module _ (few : length cs ≤ 65536) where
    pub many_deliveries : 65536 < n → Answered base_limits ws d cs n t r (Err OverLimit) t r
    unfolding fault_of_run
    many_deliveries h = from_Outcome (rw (le-leb (length cs) 65536 few, lt-leb n 65536 h)) (refused ws d cs n t r refl)

    module _ (deliveries : n ≤ 65536) {c : Result ℕ Refusal} (check : c ≡ check_words base_limits ws) where
      fault_is : fault_of_run base_limits ws d cs n (length t) (length r) ≡ and_then (verdict_of c) (fault_of_network ws d cs (length t) (length r))
      unfolding fault_of_run
      fault_is = rw (le-leb (length cs) 65536 few, le-leb n 65536 deliveries, check)

      pub bad_links : {why : Refusal} → c ≡ Err why → {out : Result Ran Refusal} → out ≡ Err why → Answered base_limits ws d cs n t r out t r
      bad_links e o =
          rw o
          (from_Outcome (fault_is ∙ ap (λ (x : Result ℕ Refusal). and_then (verdict_of x) (fault_of_network ws d cs (length t) (length r))) e)
          (refused ws d cs n t r refl))

      pub good_links : {known : ℕ} → c ≡ Ok known → {out : Result Ran Refusal} {t' r' : List ℕ}
          → NetworkAnswer ws d cs n t r out t' r' → Answered base_limits ws d cs n t r out t' r'
      good_links e o =
          from_Outcome (fault_is ∙ ap (λ (x : Result ℕ Refusal). and_then (verdict_of x) (fault_of_network ws d cs (length t) (length r))) e) o
