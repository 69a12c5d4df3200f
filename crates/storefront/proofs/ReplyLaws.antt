-- What is replied to a text is what the entries on link words reply where the words are those of the text's links; and what is replied to a
-- text that is refused. By the order of the refusals.
use Prim.Native.Nat.{ℕ, ◌+◌, ◌*◌, ◌≤◌, ◌<◌}
use mathlib.Core.Path.{◌≡◌, refl, sym, ◌∙◌, ap, ap₂, subst}
use mathlib.Core.Bool.{Bool, true, false, ◌&&◌, and_assoc}
use mathlib.Core.List.{List}
use native.Mathlib.Omega.{arith}
use lib.Dec.{leb}
use lib.ListN.{length}
use borrow.Author.Tests.{le-leb, lt-leb, leb-false, lt-ltb}
use Rattle.std.specs.Prelude.{Err, Ok, Result}
use Rattle.std.proofs.Common.{◌⊎◌, inl, inr}
use Rattle.std.specs.Result.{ForErr}
use Rattle.rules.specs.Replies.{Verdict}
use Rattle.rules.specs.declared.Link.{Link}
use Rattle.rules.specs.declared.Refusal.{Refusal}
use Rattle.rules.specs.declared.Refusal.TheVariants.{OverLimit}
use Rattle.rules.specs.Network.{links_of, ases_of, arcs_of}
use Rattle.rules.specs.Checks.{base_limits}
use Rattle.rules.specs.Entry.{and_then, unless, fault_of_links, fault_of_destination, fault_of_output, filled}
use Rattle.rules.specs.Stable.{table_of}
use Rattle.rules.specs.Solve.{stable_of}
use Rattle.rules.specs.Machine.{Run, run_of}
use Rattle.rules.specs.Judge.{entries_for, judge}
use Rattle.rules.specs.Findings.{ringed, joined}
use Rattle.rules.proofs.MachineCounts.{run_counts}
use Rattle.rules.proofs.VerdictLaws.{then_same, then_passes, test_holds, test_fails}
use Rattle.linktext.specs.Texts.{text_in}
use Rattle.linktext.specs.TextNetworks.{links_of_text, fault_of_network}
use Rattle.findings.specs.declared.Found.{Found}
use Rattle.findings.specs.Entries.{fault_of_findings, reply_findings, findings_reply}
use Rattle.sheet.specs.Form.{sheet_of, fault_of_form, destination_of, lines_of}
use Rattle.sheet.specs.Entries as sheet
use Rattle.machine.specs.declared.Ran.{Ran}
use Rattle.machine.specs.Entries.{fault_of_choices, run_on}
use Rattle.machine.specs.Entries as machine
use Rattle.machine.proofs.ReplyLaws.{Ended, reply_Ended, reply_refused}
use Rattle.storefront.specs.Page.{packed, findings_value, quiet_bit, run_value, fault_of_sheet, final_sheet, fault_of_judging, fault_of_run, final_table}
use Rattle.storefront.specs.Steps.{Placed, packed_reply, valued, told_sheet, told_judging, told_findings, told_run, Given, room_words, fault_of_lines, told_lines, final_lines}
use Rattle.storefront.proofs.PlaceLaws.{Fits}
use Rattle.storefront.proofs.OrderLaws.{room_suffices}

-- Sizes --------------------------------------------------------------------------------------------------------------------

-- the text's byte limit is the first test of its network
long_text : (t : List ℕ) → leb (length t) 65536 ≡ false → fault_of_network base_limits t ≡ Err OverLimit
unfolding fault_of_network text_in
long_text t e = rw (lt-ltb 65536 (length t) (leb-false (length t) 65536 e))

-- other limits that hold add nothing to it
sizes_first : (t : List ℕ) (others : Bool) (rest : Verdict) → others ≡ true
    → and_then (unless (leb (length t) 65536 && others) OverLimit) (and_then (fault_of_network base_limits t) rest) ≡ and_then (fault_of_network base_limits t) rest
sizes_first t others rest e = go (leb (length t) 65536) refl
  where
    go : (b : Bool) → leb (length t) 65536 ≡ b
        → and_then (unless (b && others) OverLimit) (and_then (fault_of_network base_limits t) rest) ≡ and_then (fault_of_network base_limits t) rest
    go true f = rw e
    go false f = rw (long_text t f)

and_no : (a b : Bool) → b ≡ false → (a && b) ≡ false
and_no true b e = e
and_no false b e = refl

-- A reply is packed --------------------------------------------------------------------------------------------------------

pub packs : (v : Verdict) (n : ℕ) → packed_reply (valued v n) ≡ packed v n
packs (Ok tt) n = refl
packs (Err why) n = refl

pub valued_Placed : (v : Verdict) (n : ℕ) {r : Result ℕ Refusal} → r ≡ valued v n → Fits v → ForErr r Placed
valued_Placed (Ok tt) n e f = λ why g. absurd (clash_lem e g)
  where
    clash_lem : {r : Result ℕ Refusal} {n : ℕ} {why : Refusal} → r ≡ Ok n → r ≡ Err why → ⊥
    clash_lem e g = cc
valued_Placed (Err other) n e f = λ why g. (let same : other ≡ why = cc in subst Placed same f)

pub valued-refused : {v : Verdict} (n : ℕ) {why : Refusal} {r : Result ℕ Refusal} → v ≡ Err why → r ≡ Err why → r ≡ valued v n
valued-refused n e p = p ∙ rw e

-- The text is refused ------------------------------------------------------------------------------------------------------

module _ (t : List ℕ) {why : Refusal} (e : fault_of_network base_limits t ≡ Err why) {r : Result ℕ Refusal} (p : r ≡ Err why) where
  pub sheet_unread : (d : ℕ) (bytes : List ℕ) → (r ≡ told_sheet t d (length bytes)) × (bytes ≡ final_sheet base_limits t d bytes)
  unfolding final_sheet fault_of_sheet
  sheet_unread d bytes = (p ∙ rw e, rw e)

  pub judged_unread : (s : List ℕ) → length s ≤ 65536 → r ≡ told_judging t s
  unfolding fault_of_judging
  judged_unread s h = p ∙ rw (sizes_first t (leb (length s) 65536) _ (le-leb (length s) 65536 h), e)

-- Its links are words ------------------------------------------------------------------------------------------------------

-- findings, by the verdict
found_by : (ws : List ℕ) (v : Verdict) (f : Found) → Ok f ≡ reply_findings ws v
    → Ok (findings_value f.ring f.joined) ≡ valued v (findings_value (ringed (links_of ws)) (joined (links_of ws)))
found_by ws (Ok tt) f e =
    let same : f ≡ record { ring = ringed (links_of ws); joined = joined (links_of ws) } = cc in
    ap (λ (x : Found). Ok (findings_value x.ring x.joined)) same
found_by ws (Err why) f e = cc

found_stop : (ws : List ℕ) (v : Verdict) (n : ℕ) (why : Refusal) → Err why ≡ reply_findings ws v → Err why ≡ valued v n
found_stop ws (Ok tt) n why e = cc
found_stop ws (Err other) n why e = cc

module _ (t ws : List ℕ) (g : Given t ws) where
  found_fault : fault_of_findings base_limits ws room_words ≡ fault_of_network base_limits t
  unfolding fault_of_findings
  found_fault = then_passes (fault_of_links base_limits ws) _ (room_suffices ws) ∙ g.fault

  found_same : valued (fault_of_findings base_limits ws room_words) (findings_value (ringed (links_of ws)) (joined (links_of ws))) ≡ told_findings t
  found_same = ap₂ (λ (v : Verdict) (ls : List Link). valued v (findings_value (ringed ls) (joined ls))) found_fault g.links

  pub found_given : (f : Found) → Ok f ≡ findings_reply base_limits ws room_words → {n : ℕ} → n ≡ findings_value f.ring f.joined → Ok n ≡ told_findings t
  unfolding findings_reply
  found_given f e p = ap Ok p ∙ found_by ws (fault_of_findings base_limits ws room_words) f e ∙ found_same

  pub found_refused : {why : Refusal} → Err why ≡ findings_reply base_limits ws room_words → {r : Result ℕ Refusal} → r ≡ Err why → r ≡ told_findings t
  unfolding findings_reply
  found_refused {why} e p = p ∙ found_stop ws (fault_of_findings base_limits ws room_words) _ why e ∙ found_same

  sheet_fault : (d room : ℕ) → fault_of_lines ws d room ≡ fault_of_sheet base_limits t d room
  unfolding fault_of_lines fault_of_sheet
  sheet_fault d room =
      ap₂ (λ (v : Verdict) (ls : List Link). and_then v (and_then (fault_of_destination d (ases_of ls)) (fault_of_output (10 + 11 * length (ases_of ls)) room)))
      g.fault g.links

  pub sheet_given_lem : (d : ℕ) (bytes : List ℕ) {r : Result ℕ Refusal} {after : List ℕ} → (r ≡ told_lines ws d (length bytes)) × (after ≡ final_lines ws d bytes)
      → (r ≡ told_sheet t d (length bytes)) × (after ≡ final_sheet base_limits t d bytes)
  unfolding final_sheet
  sheet_given_lem d bytes (p, q) = (
    p ∙ ap₂ (λ (v : Verdict) (ls : List Link). valued v (10 + 11 * length (ases_of ls))) (sheet_fault d (length bytes)) g.links,
    q ∙ ap₂ (λ (v : Verdict) (ls : List Link). filled v (sheet_of d (entries_for (stable_of (arcs_of ls) d) (ases_of ls))) bytes) (sheet_fault d (length bytes)) g.links,
  )

  pub judged_given : (s : List ℕ) → length s ≤ 65536 → sheet.judge_reply base_limits 511 ws s room_words ≡ fault_of_judging base_limits 511 t s
  unfolding sheet.judge_reply fault_of_judging
  judged_given s h =
      let rest : List Link → Verdict =
      (λ ls. and_then (fault_of_form s) (and_then (fault_of_destination (destination_of s) (ases_of ls)) (judge ls (destination_of s) 511 (lines_of s)))) in
      test_holds (leb (length s) 65536) OverLimit _ (le-leb (length s) 65536 h)
      ∙ then_same (fault_of_links base_limits ws) _ (rest (links_of ws)) (λ e. ap (λ (v : Verdict). and_then v (rest (links_of ws))) (room_suffices ws e))
      ∙ ap₂ (λ (v : Verdict) (ls : List Link). and_then v (rest ls)) g.fault g.links
      ∙ sym (sizes_first t (leb (length s) 65536) _ (le-leb (length s) 65536 h))

-- A sheet that is too long -------------------------------------------------------------------------------------------------

pub judged_long : (t s : List ℕ) → 65536 < length s → Err OverLimit ≡ told_judging t s
unfolding fault_of_judging
judged_long t s h =
    sym (ap (λ (v : Verdict). valued v 0)
    (test_fails (leb (length t) 65536 && leb (length s) 65536) OverLimit _ (and_no (leb (length t) 65536) _ (lt-leb (length s) 65536 h))))

-- Runs ---------------------------------------------------------------------------------------------------------------------

-- what a run's verdict comes to after the text and its links
abbrev run_rest : List Link → ℕ → List ℕ → ℕ → Verdict
run_rest ls d cs table =
    and_then (fault_of_destination d (ases_of ls)) (and_then (fault_of_output (4 * length (ases_of ls)) table) (fault_of_choices (2 * length ls) cs))

module _ (t : List ℕ) (d : ℕ) (cs : List ℕ) (n : ℕ) (table : List ℕ) where
  -- the reply and the table afterwards
  abbrev Replied : Result ℕ Refusal → List ℕ → Type 0
  Replied r after = (r ≡ told_run t d cs n (length table)) × (after ≡ final_table base_limits t d cs n table)

  run_refused : (why : Refusal) → fault_of_run base_limits t d cs n (length table) ≡ Err why → {r : Result ℕ Refusal} → r ≡ Err why → Replied r table
  unfolding final_table
  run_refused why e p = (p ∙ rw e, rw e)

  run_limits : (leb (length cs) 65536 && leb n 65536) ≡ false → fault_of_run base_limits t d cs n (length table) ≡ Err OverLimit
  unfolding fault_of_run
  run_limits e =
      test_fails (leb (length t) 65536 && leb (length cs) 65536 && leb n 65536) OverLimit _
      (and_assoc (leb (length t) 65536) (leb (length cs) 65536) (leb n 65536) ∙ and_no (leb (length t) 65536) _ e)

  pub too_many : (65536 < length cs) ⊎ ((length cs ≤ 65536) × (65536 < n)) → {r : Result ℕ Refusal} → r ≡ Err OverLimit → Replied r table
  too_many (inl h) = run_refused OverLimit (run_limits (rw (lt-leb (length cs) 65536 h)))
  too_many (inr (few, h)) = run_refused OverLimit (run_limits (and_no (leb (length cs) 65536) _ (lt-leb n 65536 h)))

  module _ (few : length cs ≤ 65536) (some : n ≤ 65536) where
    within : (leb (length cs) 65536 && leb n 65536) ≡ true
    within = rw (le-leb (length cs) 65536 few, le-leb n 65536 some)

    run_network : fault_of_run base_limits t d cs n (length table)
        ≡ and_then (fault_of_network base_limits t) (run_rest (links_of_text base_limits t) d cs (length table))
    unfolding fault_of_run
    run_network =
        ap (λ (b : Bool). and_then (unless b OverLimit) (and_then (fault_of_network base_limits t) (run_rest (links_of_text base_limits t) d cs (length table))))
        (and_assoc (leb (length t) 65536) (leb (length cs) 65536) (leb n 65536))
        ∙ sizes_first t (leb (length cs) 65536 && leb n 65536) _ within

    pub run_unread : (why : Refusal) → fault_of_network base_limits t ≡ Err why → {r : Result ℕ Refusal} → r ≡ Err why → Replied r table
    run_unread why e = run_refused why (run_network ∙ rw e)

    module _ (ws : List ℕ) (g : Given t ws) where
      run_fault : machine.fault_of_run base_limits ws d cs n (length table) room_words ≡ fault_of_run base_limits t d cs n (length table)
      unfolding machine.fault_of_run
      run_fault =
          test_holds (leb (length cs) 65536 && leb n 65536) OverLimit _ within
          ∙ then_same (fault_of_links base_limits ws) _ (run_rest (links_of ws) d cs (length table))
          (λ e. ap (λ (v : Verdict). and_then (fault_of_destination d (ases_of (links_of ws))) (and_then (fault_of_output (4 * length (ases_of (links_of ws))) (length table))
          (and_then v (fault_of_choices (2 * length (links_of ws)) cs)))) (room_suffices ws e))
          ∙ ap₂ (λ (v : Verdict) (ls : List Link). and_then v (run_rest ls d cs (length table))) g.fault g.links
          ∙ sym run_network

      abbrev run : Run
      run = run_on ws d cs n

      abbrev fault : Verdict
      fault = machine.fault_of_run base_limits ws d cs n (length table) room_words

      run_same : valued fault (run_value (links_of ws) run) ≡ told_run t d cs n (length table)
      run_same = ap₂ (λ (v : Verdict) (ls : List Link). valued v (run_value ls (run_of (arcs_of ls) d cs n))) run_fault g.links

      pub run_table : machine.final_table base_limits ws d cs n table room_words ≡ final_table base_limits t d cs n table
      unfolding final_table machine.final_table
      run_table = ap₂ (λ (v : Verdict) (ls : List Link). filled v (table_of (run_of (arcs_of ls) d cs n).state.lines (ases_of ls)) table) run_fault g.links

      module _ (x : Ran) (e : Ok x ≡ machine.run_reply base_limits ws d cs n (length table) room_words) where
        says : Ended ws run fault x.made x.idle x.quiet
        unfolding machine.run_reply
        says = reply_Ended ws run fault x.made x.idle x.quiet (sym e)

        pub ran_few : (x.made ≤ 131072) × (x.idle ≤ 65536)
        ran_few = omega (arith, run_counts (arcs_of (links_of ws)) d cs n, says.deliveries, says.idles)

        pub ran_given : {m : ℕ} → m ≡ x.made + 1048576 * x.idle + quiet_bit x.quiet → Ok m ≡ told_run t d cs n (length table)
        ran_given p = ap Ok p ∙ rw (says.deliveries, says.idles, says.waits_not) (ap (λ (v : Verdict). valued v (run_value (links_of ws) run)) (sym says.passes)) ∙ run_same

      pub ran_refused : {why : Refusal} → Err why ≡ machine.run_reply base_limits ws d cs n (length table) room_words → {r : Result ℕ Refusal} → r ≡ Err why
          → r ≡ told_run t d cs n (length table)
      unfolding machine.run_reply
      ran_refused {why} e p = valued-refused _ (reply_refused ws run fault why (sym e)) p ∙ run_same
