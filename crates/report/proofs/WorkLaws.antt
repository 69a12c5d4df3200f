-- An accepted list of link words with a table of 2,048 and a room of 16,384 words: memory suffices, so findings, table and machine refuse
-- nothing but a destination that is not there, and the lines that are printed are the run's, also where they are the stable table's.
use Prim.Native.Nat.{ℕ, ◌*◌, ◌≤◌}
use mathlib.Core.Path.{◌≡◌, refl, sym, ◌∙◌, ap}
use mathlib.Core.Bool.{Bool, true, false}
use mathlib.Core.List.{List, [], ◌++◌}
use native.Mathlib.Omega.{arith}
use lib.Dec.{leb}
use lib.ListN.{length, drop, replicate, length-replicate}
use lib.Seq.{drop-append_seam}
use borrow.Author.Tests.{le-leb}
use Rattle.std.specs.Prelude.{Err, Ok, Result}
use Rattle.rules.specs.Replies.{Verdict}
use Rattle.rules.specs.declared.Link.{Link}
use Rattle.rules.specs.declared.Refusal.{Refusal}
use Rattle.rules.specs.Network.{links_of, ases_of, arcs_of}
use Rattle.rules.specs.Checks.{base_limits, needed_room}
use Rattle.rules.specs.Entry.{fault_of_destination, cleared, filled}
use Rattle.rules.specs.Findings.{ringed, joined}
use Rattle.rules.specs.Stable.{table_of}
use Rattle.rules.specs.Machine.{lowest, is_quiet}
use Rattle.rules.proofs.ArcLaws.{arcs_positive, direction_unique}
use Rattle.rules.proofs.AcceptedLinks.{AcceptedLinks, check_words-Accepted}
use Rattle.rules.proofs.MachineRuns.{run_quiet}
use Rattle.rules.proofs.MachineCounts.{run_counts}
use Rattle.rules.proofs.Tests.{clash}
use Rattle.rules.proofs.VerdictLaws.{then_passes}
use Rattle.findings.specs.declared.Found.{Found}
use Rattle.findings.specs.Entries.{fault_of_findings, findings_reply, final_room}
use Rattle.table.specs.Entries.{fault_of_table, Tabled}
use Rattle.table.proofs.StableLaws.{filled_words}
use Rattle.machine.specs.declared.Ran.{Ran}
use Rattle.machine.specs.Entries.{choice_from, fault_of_run, reply_run, run_reply, final_table, final_room as run_room}
use Rattle.machine.specs.Answers.{Answered}
use Rattle.machine.proofs.ReplyLaws.{reply_refused, Ended, reply_Ended}
use Rattle.report.specs.declared.Ending.{Ending}
use Rattle.report.specs.declared.Told.{Told}
use Rattle.report.specs.Answers.{run_from, told_of, settled, Counted, Accepted, Worked}

-- memory -------------------------------------------------------------------------------------------------------------------

module _ {ws : List ℕ} {n : ℕ} (ok : Counted ws n) where
  accepted : AcceptedLinks base_limits (links_of ws) n
  accepted = (check_words-Accepted base_limits ws n ok.accepted).1

  room_enough : (r : List ℕ) → length r ≡ 16384 → leb (needed_room (length (links_of ws)) (length (ases_of (links_of ws)))) (length r) ≡ true
  room_enough r long =
      le-leb (needed_room (length (links_of ws)) (length (ases_of (links_of ws)))) (length r)
      (omega (arith, accepted.count, accepted.few_ases, accepted.few_links))

  table_enough : (t : List ℕ) → length t ≡ 2048 → leb (4 * length (ases_of (links_of ws))) (length t) ≡ true
  table_enough t long = le-leb (4 * length (ases_of (links_of ws))) (length t) (omega (arith, accepted.count, accepted.few_ases))

-- findings -----------------------------------------------------------------------------------------------------------------

module _ {ws : List ℕ} {n : ℕ} (ok : Counted ws n) (r : List ℕ) (long : length r ≡ 16384) where
  findings_pass : fault_of_findings base_limits ws (length r) ≡ Ok tt
  unfolding fault_of_findings
  findings_pass = rw (ok.accepted, room_enough ok r long)

  found_both : findings_reply base_limits ws (length r) ≡ Ok (record { ring = (ringed (links_of ws)); joined = (joined (links_of ws)) })
  unfolding findings_reply
  found_both = rw findings_pass

  pub findings_room : final_room base_limits ws r ≡ replicate (length r) 0
  unfolding final_room
  findings_room = rw findings_pass

  module _ {f : Result Found Refusal} (reply : f ≡ findings_reply base_limits ws (length r)) where
    pub none_found : {why : Refusal} {A : Type 0} → f ≡ Err why → A
    none_found g = (let h = found_both in clash (cc))

    pub tells_both : (end : Ending) {x : Found} → f ≡ Ok x → (let told : Result Told Refusal = Ok (record { end = end; found = x }) in told ≡ Ok (told_of (links_of ws) end))
    tells_both end {x} g =
        let h = found_both in
        let same : x ≡ record { ring = ringed (links_of ws); joined = joined (links_of ws) } = cc in
        ap (λ (y : Found). Ok (record { end = end; found = y })) same

-- the stable table ----------------------------------------------------------------------------------------------------------

cleared-length : (v : Verdict) (r : List ℕ) → length (cleared v r) ≡ length r
cleared-length (Ok tt) r = length-replicate (length r) 0
cleared-length (Err why) r = refl

module _ {ws : List ℕ} {n d : ℕ} (ok : Accepted ws n d) {t r : List ℕ} {out : Verdict} {t' r' : List ℕ}
    (a : Tabled base_limits ws d t r out t' r') (table : length t ≡ 2048) (room : length r ≡ 16384) where
  table_pass : fault_of_table base_limits ws d (length t) (length r) ≡ Ok tt
  unfolding fault_of_table
  table_pass = rw (ok.counted.accepted, ok.destination, table_enough ok.counted t table, room_enough ok.counted r room)

  pub settles_surely : {why : Refusal} {A : Type 0} → out ≡ Err why → A
  settles_surely g = (let passes : out ≡ Ok tt = a.replies ∙ table_pass in clash (cc))

  pub settles : t' ≡ settled (links_of ws) d true t
  settles = filled_words (links_of ws) d t t' (rw table_pass at a.tabled)

-- the run -------------------------------------------------------------------------------------------------------------------

-- the lines that are printed are the run's: where it is quiet they are stable, and the stable table is one
printed_lines : (ls : List Link) (d : ℕ) (t : List ℕ) (quiet : Bool)
    → quiet ≡ is_quiet (lowest (arcs_of ls) (run_from ls d).state.waiting)
    → settled ls d quiet (filled (Ok tt) (table_of (run_from ls d).state.lines (ases_of ls)) t)
    ≡ filled (Ok tt) (table_of (run_from ls d).state.lines (ases_of ls)) t
printed_lines ls d t false q = refl
printed_lines ls d t true q =
    let lines = table_of (run_from ls d).state.lines (ases_of ls) in
    rw (← run_quiet (arcs_of ls) (direction_unique ls) (arcs_positive ls) d [] 65536 (sym q))
    (ap (λ (l : List ℕ). lines ++ l) (drop-append_seam lines (drop (length lines) t)))

module _ {ws : List ℕ} {n : ℕ} (ok : Counted ws n) {d : ℕ} {t r : List ℕ} {out : Result Ran Refusal} {t' r' : List ℕ}
    (a : Answered base_limits ws d [] 65536 t r out t' r') (table : length t ≡ 2048) (room : length r ≡ 16384) where
  ls : List Link
  ls = links_of ws

  verdict : Verdict
  verdict = fault_of_destination d (ases_of ls)

  -- with no choices there is none that is no direction
  fault_is : fault_of_run base_limits ws d [] 65536 (length t) (length r) ≡ verdict
  unfolding fault_of_run choice_from ls verdict
  fault_is = rw (ok.accepted, table_enough ok t table, room_enough ok r room) (then_passes verdict (Ok tt) (λ _. refl))

  reply_is : out ≡ reply_run ws (run_from ls d) verdict
  unfolding run_reply ls
  reply_is = a.replies ∙ rw fault_is

  pub run_refused : {why : Refusal} → out ≡ Err why → Worked (links_of ws) d (fault_of_destination d (ases_of (links_of ws))) t r (Err why) t' r'
  unfolding final_table run_room ls verdict
  run_refused {why} e =
      let v = reply_refused ws (run_from ls d) verdict why (sym reply_is ∙ e) in
      record { replies = rw v; tabled = a.tabled ∙ rw fault_is; zeroed = a.zeroed ∙ rw fault_is }

  module _ {ran : Ran} (e : out ≡ Ok ran) where
    ended : Ended ws (run_from ls d) verdict ran.made ran.idle ran.quiet
    ended = reply_Ended ws (run_from ls d) verdict ran.made ran.idle ran.quiet (sym reply_is ∙ e)

    pub run_Accepted : Accepted ws n d
    unfolding ls verdict
    run_Accepted = record { counted = ok; destination = ended.passes }

    pub run_made : ran.made ≤ 65536
    run_made = omega (arith, ended.deliveries, run_counts (arcs_of ls) d [] 65536)

    pub run_told : {x : Result Told Refusal} {t'' r'' : List ℕ}
        → x ≡ Ok (told_of (links_of ws) (record { destination = d; count = n; quiet = ran.quiet; made = ran.made }))
        → t'' ≡ settled (links_of ws) d ran.quiet t' → r'' ≡ replicate (length r') 0
        → Worked (links_of ws) d (fault_of_destination d (ases_of (links_of ws))) t r x t'' r''
    unfolding final_table run_room ls verdict
    run_told {x} {t''} {r''} f g h =
        let v = ended.passes in
        let lines : t' ≡ filled (Ok tt) (table_of (run_from ls d).state.lines (ases_of ls)) t = a.tabled ∙ rw (fault_is, v) in
        let zeros : r' ≡ cleared (Ok tt) r = a.zeroed ∙ rw (fault_is, v) in
        let count = (accepted ok).count in
        let long : length r' ≡ length r = ap length zeros ∙ cleared-length (Ok tt) r in
        rw v
        (record {
          replies = f ∙ rw (count, ended.waits_not, ended.deliveries);
          tabled = g ∙ ap (settled ls d ran.quiet) lines ∙ printed_lines ls d t ran.quiet ended.waits_not;
          zeroed = h ∙ ap (λ (k : ℕ). replicate k 0) long;
        })
