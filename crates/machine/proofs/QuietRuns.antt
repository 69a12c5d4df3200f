-- Whenever a run reports quiet, the lent table holds the stable routing, whatever the choices: the definition's run ends on it
-- (`run_quiet`), and the table has the run's lines. And the promise leaves nothing open: two answers to one input agree.
use Prim.Native.Nat.{ℕ, ◌*◌}
use mathlib.Core.Path.{◌≡◌, sym, ◌∙◌, ap}
use mathlib.Core.Bool.{true}
use mathlib.Core.List.{List}
use lib.ListN.{length, take, drop}
use lib.Seq.{take_at}
use Rattle.std.specs.Prelude.{Ok, Result}
use Rattle.rules.specs.declared.Limits.{Limits}
use Rattle.rules.specs.Network.{links_of, ases_of, arcs_of}
use Rattle.rules.specs.Stable.{Routing, table_of}
use Rattle.rules.specs.Solve.{stable_of}
use Rattle.rules.proofs.ArcLaws.{direction_unique, arcs_positive}
use Rattle.rules.proofs.MachineRuns.{run_quiet}
use Rattle.rules.proofs.LineLaws.{table_length}
use Rattle.rules.specs.declared.Refusal.{Refusal}
use Rattle.machine.specs.declared.Ran.{Ran}
use Rattle.machine.specs.Entries.{fault_of_run, run_on, run_reply, final_table}
use Rattle.machine.specs.Answers.{Answered}
use Rattle.machine.proofs.ReplyLaws.{reply_Ended}

module _ (limits : Limits) (ws : List ℕ) (d : ℕ) (cs : List ℕ) (n : ℕ) (t r : List ℕ) where
  -- the first four words per AS are the stable table's
  pub quiet_stable_table : (made idle : ℕ) → run_reply limits ws d cs n (length t) (length r) ≡ Ok (record { made = made; idle = idle; quiet = true })
      → take (4 * length (ases_of (links_of ws))) (final_table limits ws d cs n t (length r)) ≡ table_of (stable_of (arcs_of (links_of ws)) d) (ases_of (links_of ws))
  unfolding run_reply final_table
  quiet_stable_table made idle e =
      let net = arcs_of (links_of ws) in
      let us = ases_of (links_of ws) in
      let lines = (run_on ws d cs n).state.lines in
      let ended = reply_Ended ws (run_on ws d cs n) (fault_of_run limits ws d cs n (length t) (length r)) made idle true e in
      rw ended.passes (take_at (table_of lines us) (drop (length (table_of lines us)) t) (4 * length us) (table_length lines us))
      ∙ ap (λ (R : Routing). table_of R us) (run_quiet net (direction_unique (links_of ws)) (arcs_positive (links_of ws)) d cs n (sym ended.waits_not))

  module _ {out : Result Ran Refusal} {t' r' : List ℕ} (a : Answered limits ws d cs n t r out t' r') where
    -- the same of what the code answers
    pub answered_quiet : (made idle : ℕ) → out ≡ Ok (record { made = made; idle = idle; quiet = true })
        → take (4 * length (ases_of (links_of ws))) t' ≡ table_of (stable_of (arcs_of (links_of ws)) d) (ases_of (links_of ws))
    answered_quiet made idle e =
        ap (take (4 * length (ases_of (links_of ws)))) a.tabled ∙ quiet_stable_table made idle (sym a.replies ∙ e)

    pub Answered-once : {out₂ : Result Ran Refusal} {t₂ r₂ : List ℕ} → Answered limits ws d cs n t r out₂ t₂ r₂ → (out ≡ out₂) × (t' ≡ t₂) × (r' ≡ r₂)
    Answered-once b = (a.replies ∙ sym b.replies, a.tabled ∙ sym b.tabled, a.zeroed ∙ sym b.zeroed)
