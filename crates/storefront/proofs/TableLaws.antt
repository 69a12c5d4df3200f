-- The stable table of link words: a room of 16,384 words suffices, so that links, destination and the lent table alone are refused.
use Prim.Native.Nat.{ℕ, ◌*◌}
use mathlib.Core.Path.{◌≡◌, refl, ◌∙◌, ap, subst}
use mathlib.Core.List.{List}
use lib.ListN.{length}
use Rattle.std.specs.Prelude.{Err, Ok, Result}
use Rattle.rules.specs.Replies.{Verdict}
use Rattle.rules.specs.declared.Refusal.{Refusal}
use Rattle.rules.specs.Network.{links_of, ases_of}
use Rattle.rules.specs.Checks.{base_limits, check_words}
use Rattle.rules.specs.Entry.{and_then, verdict_of, fault_of_links, fault_of_destination, fault_of_output}
use Rattle.rules.proofs.AcceptedLinks.{AcceptedLinks, check_words-Accepted}
use Rattle.rules.proofs.VerdictLaws.{then_same, then_passes}
use Rattle.findings.specs.declared.Found.{Found}
use Rattle.findings.specs.Entries.{fault_of_findings, findings_reply}
use Rattle.table.specs.Entries.{fault_of_table, TableAfter}
use Rattle.storefront.specs.Page.{fault_of_page}
use Rattle.storefront.specs.Steps.{valued, room_words, Stably, Tabulated}
use Rattle.storefront.proofs.OrderLaws.{room_suffices}

module _ (ws : List ℕ) where
  abbrev us : List ℕ
  us = ases_of (links_of ws)

  pub accepted_ases : {n : ℕ} → check_words base_limits ws ≡ Ok n → AcceptedLinks base_limits (links_of ws) n
  accepted_ases {n} e = (check_words-Accepted base_limits ws n e).1

  -- the check, packed: the number of ASes, or the refusal
  pub check_told : {r : Result ℕ Refusal} → r ≡ check_words base_limits ws → r ≡ valued (fault_of_links base_limits ws) (length us)
  check_told e = e ∙ by_reply (check_words base_limits ws) (λ n f. (accepted_ases f).count)
    where
      by_reply : (c : Result ℕ Refusal) → ((n : ℕ) → c ≡ Ok n → n ≡ length us) → c ≡ valued (verdict_of c) (length us)
      by_reply (Ok n) f = ap Ok (f n refl)
      by_reply (Err why) f = refl

  pub not_found : {why : Refusal} → check_words base_limits ws ≡ Err why → {r : Result Found Refusal} → r ≡ Err why → r ≡ findings_reply base_limits ws room_words
  unfolding findings_reply fault_of_findings
  not_found e p = p ∙ rw (ap verdict_of e)

  pub no_page : (d : ℕ) (table : List ℕ) {why : Refusal} → check_words base_limits ws ≡ Err why → {r : Result ℕ Refusal} → r ≡ Err why
      → Tabulated ws d table r table
  unfolding fault_of_page
  no_page d table e p = (let links = ap verdict_of e in record { replies = p ∙ rw links; tabled = rw links })

  module _ {d : ℕ} {old table : List ℕ} {v : Verdict} (s : Stably ws d old v table) where
    -- the room suffices
    same_fault : fault_of_table base_limits ws d (length old) room_words ≡ fault_of_page base_limits ws d (length old)
    unfolding fault_of_table fault_of_page
    same_fault =
        then_same (fault_of_links base_limits ws) _ _
        (λ e. ap (and_then (fault_of_destination d us)) (then_passes (fault_of_output (4 * length us) (length old)) _ (λ _. room_suffices ws e)))

    paged : {r : Result ℕ Refusal} → r ≡ valued v (4 * length us) → Tabulated ws d old r table
    paged e = record {
      replies = e ∙ ap (λ (f : Verdict). valued f (4 * length us)) (s.replies ∙ same_fault);
      tabled = subst (λ (f : Verdict). TableAfter f (links_of ws) d old table) same_fault s.tabled;
    }

    pub page_passes : {n : ℕ} → check_words base_limits ws ≡ Ok n → v ≡ Ok tt → Tabulated ws d old (Ok (4 * n)) table
    page_passes a e = paged (ap (λ (k : ℕ). Ok (4 * k)) (accepted_ases a).count ∙ rw e)

    pub page_refuses : {why : Refusal} → v ≡ Err why → {r : Result ℕ Refusal} → r ≡ Err why → Tabulated ws d old r table
    page_refuses e p = paged (p ∙ rw e)
