-- From what was worked out to what is printed: the text of what is told is the report, a refusal's place has few digits, and all fits.
--
--   report_Below       how far a refusal's place goes
--   Printing           what a verdict that passes says of what is told and of the table
use Prim.Native.Nat.{ℕ, suc, ◌+◌, ◌≤◌, ◌<◌}
use mathlib.Core.Path.{◌≡◌, refl, sym, ◌∙◌, ap, subst}
use mathlib.Core.List.{List, [], ◌∷◌, ◌++◌, append_assoc}
use native.Mathlib.Omega.{arith}
use lib.Dec.{leb, eqb}
use lib.ListN.{length, get_or, drop}
use Rattle.rules.specs.Replies.{Verdict}
use Rattle.std.specs.Prelude.{Err, Ok, Result}
use Rattle.rules.specs.declared.Link.{Link}
use Rattle.rules.specs.declared.Refusal.{Refusal}
use Rattle.rules.specs.declared.Refusal.TheVariants.{OverLimit, NoDestination}
use Rattle.rules.specs.Lists.{any_of}
use Rattle.rules.specs.Refusals.{refusal_place}
use Rattle.rules.specs.Network.{ases_of, arcs_of}
use Rattle.rules.specs.Checks.{base_limits, check_links}
use Rattle.rules.specs.Entry.{unless, verdict_of}
use Rattle.rules.specs.Findings.{ringed, joined}
use Rattle.rules.specs.Stable.{Routing, table_of}
use Rattle.rules.specs.Machine.{Run, lowest, is_quiet}
use Rattle.rules.proofs.AcceptedLinks.{check_links-Accepted}
use Rattle.rules.proofs.RefusalPlaces.{Below, then_Below, unless-Below}
use Rattle.rules.proofs.VerdictLaws.{both_pass}
use Rattle.rules.proofs.Tests.{clash}
use Rattle.linktext.specs.declared.NumeralFault.{NumeralFault}
use Rattle.linktext.specs.declared.NumeralFault.TheVariants.{NoForm, OverLarge}
use Rattle.linktext.specs.Lines.{numeral_of}
use Rattle.linktext.specs.Texts.{decimal, text_in}
use Rattle.linktext.specs.TextNetworks.{fault_of_text, fault_of_network}
use Rattle.linktext.proofs.RefusalPlaces.{network_Below}
use Rattle.offers.specs.Lines.{number_word, entry_line}
use Rattle.offers.proofs.TableLaws.{table_number, table_line}
use Rattle.report.specs.declared.Told.{Told}
use Rattle.report.specs.Report.{word_destination, word_ring, word_joined, yes_no, quiet_or, spaced, first_line, after_first, fault_of_number, destination_in, links_behind, fault_of_report, refusal_line, lines_text, report_lines, report_of}
use Rattle.report.specs.Printing.{Printed, entries_text, head_text, told_text}
use Rattle.report.specs.Answers.{run_from, ending_of, told_of, answer_of, Worked}
use Rattle.report.specs.Entries.{Reported}

-- places --------------------------------------------------------------------------------------------------------------------

number_Below : (n : Result ℕ NumeralFault) → Below 65537 (fault_of_number n)
number_Below (Ok d) = tt
number_Below (Err NoForm) = omega arith
number_Below (Err OverLarge) = omega arith

pub report_Below : (t : List ℕ) → Below 65537 (fault_of_report base_limits t)
unfolding fault_of_report
report_Below t =
    then_Below 65537 (unless (leb (length t) 65536) OverLimit) _ (unless-Below 65537 (leb (length t) 65536) OverLimit (omega arith))
    (λ e. then_Below 65537 (fault_of_number (numeral_of (first_line t))) _ (number_Below (numeral_of (first_line t)))
    (λ e. then_Below 65537 (fault_of_network base_limits (after_first t)) _ (network_Below 65537 base_limits (after_first t) (omega arith) (omega arith))
    (λ e. unless-Below 65537 (any_of (eqb (destination_in t)) (ases_of (links_behind base_limits t))) NoDestination (omega arith))))

-- how many ASes ---------------------------------------------------------------------------------------------------------------

checked_few : (ls : List Link) (c : Result ℕ Refusal) → check_links base_limits ls ≡ c → verdict_of c ≡ Ok tt → length (ases_of ls) ≤ 512
checked_few ls (Ok n) e p = (let a = check_links-Accepted base_limits ls n e in omega (arith, a.count, a.few_ases))
checked_few ls (Err why) e p = clash (cc)

few_ases : (t : List ℕ) → fault_of_report base_limits t ≡ Ok tt → length (ases_of (links_behind base_limits t)) ≤ 512
unfolding fault_of_report fault_of_network
few_ases t e =
    let (_, e₁) = both_pass (unless (leb (length t) 65536) OverLimit) _ e in
    let (_, e₂) = both_pass (fault_of_number (numeral_of (first_line t))) _ e₁ in
    let (e₃, _) = both_pass (fault_of_network base_limits (after_first t)) _ e₂ in
    let (_, e₄) = both_pass (fault_of_text (text_in base_limits (after_first t))) _ e₃ in
    checked_few (links_behind base_limits t) (check_links base_limits (links_behind base_limits t)) refl e₄

-- lines ---------------------------------------------------------------------------------------------------------------------

entries_lines : (R : Routing) (t : List ℕ) (i : ℕ) (us : List ℕ)
    → ((j : ℕ) → j < length us → (number_word t (i + j) ≡ get_or us j 0) × (entry_line t (i + j) ≡ R (get_or us j 0)))
    → entries_text t i (length us) ≡ lines_text R us
unfolding entries_text lines_text
entries_lines R t i [] same = refl
entries_lines R t i (u ∷ us) same =
    let z : i + 0 ≡ i = omega arith in
    let (p, q) = rw z at (same 0 (omega arith)) in
    let later = entries_lines R t (suc i) us (λ j h. (let e : i + suc j ≡ suc i + j = omega arith in rw e at (same (suc j) (omega arith)))) in
    rw (p, q, later)

table_lines : (R : Routing) (us rest : List ℕ) → entries_text (table_of R us ++ rest) 0 (length us) ≡ lines_text R us
table_lines R us rest =
    entries_lines R (table_of R us ++ rest) 0 us
    (λ j h. (let z : 0 + j ≡ j = omega arith in rw z (table_number R rest us j h, table_line R rest us j h)))

-- the text of what is told of a run is its report
told_report : (ls : List Link) (d : ℕ) (run : Run) (rest : List ℕ)
    → told_text (told_of ls (ending_of ls d run)) (table_of run.state.lines (ases_of ls) ++ rest) ≡ report_lines ls d run
unfolding head_text told_text report_lines
told_report ls d run rest =
    let end = spaced (quiet_or (is_quiet (lowest (arcs_of ls) run.state.waiting))) (decimal run.made) in
    ap (λ (l : List ℕ). head_text (told_of ls (ending_of ls d run)) ++ (l ++ end)) (table_lines run.state.lines (ases_of ls) rest)
    ∙ regroup (spaced word_destination (decimal d)) (spaced word_ring (yes_no (ringed ls))) (spaced word_joined (yes_no (joined ls)))
    (lines_text run.state.lines (ases_of ls) ++ end)
  where
    regroup : (a b c l : List ℕ) → (a ++ (b ++ c)) ++ l ≡ a ++ (b ++ (c ++ l))
    regroup a b c l = simp append_assoc

-- answers -------------------------------------------------------------------------------------------------------------------

answer_refused : (ls : List Link) (d : ℕ) (v : Verdict) (why : Refusal) → answer_of ls d v ≡ Err why → v ≡ Err why
answer_refused ls d (Ok tt) why e = cc
answer_refused ls d (Err r) why e = cc

answer_tells : (ls : List Link) (d : ℕ) (v : Verdict) (x : Told) → answer_of ls d v ≡ Ok x
    → (v ≡ Ok tt) × (x ≡ told_of ls (ending_of ls d (run_from ls d)))
answer_tells ls d (Ok tt) x e = (refl, cc)
answer_tells ls d (Err r) x e = (cc, clash (cc))

module _ (t : List ℕ) {u room : List ℕ} {a : Result Told Refusal} {u' room' : List ℕ}
    (w : Worked (links_behind base_limits t) (destination_in t) (fault_of_report base_limits t) u room a u' room') where
  -- a text that is printed and is the report
  reported : {out out' text : List ℕ} {r : ℕ} → text ≡ report_of base_limits t → Printed text out out' r → Reported base_limits t room out r room' out'
  reported e p = record { replies = rw (← e) p.count; written = rw (← e) p.bytes; fits = p.fits; zeroed = w.zeroed }

  module _ {why : Refusal} (refuses : a ≡ Err why) where
    verdict_refused : fault_of_report base_limits t ≡ Err why
    verdict_refused = answer_refused (links_behind base_limits t) (destination_in t) (fault_of_report base_limits t) why (sym w.replies ∙ refuses)

    pub refused_place : refusal_place why < 4294967296
    refused_place = (let h : refusal_place why < 65537 = subst (Below 65537) verdict_refused (report_Below t) in omega arith)

    pub refused_report : {out out' : List ℕ} {r : ℕ} → Printed (refusal_line why) out out' r → Reported base_limits t room out r room' out'
    unfolding report_of
    refused_report p = reported (rw verdict_refused) p

  module _ {x : Told} (tells : a ≡ Ok x) where
    passes : (fault_of_report base_limits t ≡ Ok tt)
        × (x ≡ told_of (links_behind base_limits t) (ending_of (links_behind base_limits t) (destination_in t) (run_from (links_behind base_limits t) (destination_in t))))
    passes = answer_tells (links_behind base_limits t) (destination_in t) (fault_of_report base_limits t) x (sym w.replies ∙ tells)

    pub told_few : x.end.count ≤ 512
    told_few = rw passes.1 (few_ases t passes.0)

    -- the table's first words are the run's lines
    text_is : told_text x u' ≡ report_of base_limits t
    unfolding report_of
    text_is =
        let ls = links_behind base_limits t in
        let d = destination_in t in
        let run = run_from ls d in
        let words = table_of run.state.lines (ases_of ls) in
        let table : u' ≡ words ++ drop (length words) u = w.tabled ∙ rw passes.0 in
        rw (passes.1, table, passes.0) (told_report ls d run (drop (length words) u))

    pub told_Reported : {out out' : List ℕ} {r : ℕ} → Printed (told_text x u') out out' r → Reported base_limits t room out r room' out'
    told_Reported p = reported text_is p
