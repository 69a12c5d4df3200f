-- What is worked out before anything is printed.
--
--   fault_of_link_words ws d, fault_of_text t d, fault_of_lines t  what is left of the verdict: 1 to 7 of link words; of a link text; of an input
--                      that is not too long
--   BehindFirst t i    from place i on, the input t is the link text
--   run_from ls d       the machine's run: no choices, 65,536 deliveries
--   ending_of ls d r   what is known where the run r has ended; told_of ls e   the same with the two findings
--   answer_of ls d v    what is told, or the refusal, where the verdict is v
--   settled            the table's words once the lines are chosen: the stable table's where the run is quiet
--   Counted ws n       an accepted list of link words with n ASes; Accepted ws n d   where d is one of them
--   Worked ls d v t r a t' r'   answer, table and room where the verdict is v
use Rattle.rules.specs.Replies.{Verdict}
use Rattle.std.specs.Prelude.{ℕ, ◌≤◌, ◌≡◌, Bool, true, false, List, [], length, drop, Err, Ok, Result}
use Rattle.rules.specs.declared.Link.{Link}
use Rattle.rules.specs.declared.Refusal.{Refusal}
use Rattle.rules.specs.Network.{links_of, ases_of, arcs_of}
use Rattle.rules.specs.Checks.{base_limits, check_words}
use Rattle.rules.specs.Entry.{and_then, fault_of_links, fault_of_destination, cleared, filled}
use Rattle.rules.specs.Findings.{ringed, joined}
use Rattle.rules.specs.Stable.{table_of}
use Rattle.rules.specs.Solve.{stable_of}
use Rattle.rules.specs.Machine.{Run, run_of, lowest, is_quiet}
use Rattle.linktext.specs.Lines.{numeral_of}
use Rattle.linktext.specs.TextNetworks.{links_of_text, fault_of_network}
use Rattle.report.specs.Report.{first_line, after_first, fault_of_number, destination_in}
use Rattle.report.specs.declared.Ending.{Ending}
use Rattle.report.specs.declared.Told.{Told}

-- within the base limits
abbrev pub fault_of_link_words : List ℕ → ℕ → Verdict
fault_of_link_words ws d = and_then (fault_of_links base_limits ws) (fault_of_destination d (ases_of (links_of ws)))

abbrev pub fault_of_text : List ℕ → ℕ → Verdict
fault_of_text t d = and_then (fault_of_network base_limits t) (fault_of_destination d (ases_of (links_of_text base_limits t)))

abbrev pub fault_of_lines : List ℕ → Verdict
fault_of_lines t = and_then (fault_of_number (numeral_of (first_line t))) (fault_of_text (after_first t) (destination_in t))

pub record BehindFirst (t : List ℕ) (i : ℕ) : Type 0 where
  pub within : i ≤ length t
  pub text : drop i t ≡ after_first t

abbrev pub run_from : List Link → ℕ → Run
run_from ls d = run_of (arcs_of ls) d [] 65536

abbrev pub ending_of : List Link → ℕ → Run → Ending
ending_of ls d r =
    record {
      destination = d;
      count = length (ases_of ls);
      quiet = is_quiet (lowest (arcs_of ls) r.state.waiting);
      made = r.made;
    }

abbrev pub told_of : List Link → Ending → Told
told_of ls e = record { end = e; found = record { ring = ringed ls; joined = joined ls } }

abbrev pub answer_of : List Link → ℕ → Verdict → Result Told Refusal
answer_of ls d (Ok tt) = Ok (told_of ls (ending_of ls d (run_from ls d)))
answer_of ls d (Err r) = Err r

abbrev pub settled : List Link → ℕ → Bool → List ℕ → List ℕ
settled ls d true t = filled (Ok tt) (table_of (stable_of (arcs_of ls) d) (ases_of ls)) t
settled ls d false t = t

pub record Counted (ws : List ℕ) (n : ℕ) : Type 0 where
  pub accepted : check_words base_limits ws ≡ Ok n

pub record Accepted (ws : List ℕ) (n d : ℕ) : Type 0 where
  pub counted : Counted ws n
  pub destination : fault_of_destination d (ases_of (links_of ws)) ≡ Ok tt

pub record Worked (ls : List Link) (d : ℕ) (v : Verdict) (t r : List ℕ) (a : Result Told Refusal) (t' r' : List ℕ) : Type 0 where
  pub replies : a ≡ answer_of ls d v
  pub tabled : t' ≡ filled v (table_of (run_from ls d).state.lines (ases_of ls)) t
  pub zeroed : r' ≡ cleared v r
