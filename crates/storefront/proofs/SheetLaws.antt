-- A sheet from link words: the table's refusals come first, its lines are those of the one stable routing, and what is left is whether
-- the sheet fits.
use Prim.Native.Nat.{ℕ, ◌+◌, ◌*◌, ◌/◌}
use mathlib.Core.Path.{◌≡◌, sym, ◌∙◌, ap, subst}
use mathlib.Core.List.{List}
use native.Mathlib.Omega.{arith}
use lib.ListN.{length, take}
use lib.Seq.{take_at}
use borrow.Author.Tests.{le-leb}
use Rattle.rules.specs.Replies.{Verdict}
use Rattle.std.specs.Prelude.{Err, Ok, Result}
use Rattle.rules.specs.declared.Refusal.{Refusal}
use Rattle.rules.specs.Network.{links_of, ases_of, arcs_of}
use Rattle.rules.specs.Checks.{base_limits, check_words}
use Rattle.rules.specs.Entry.{and_then, verdict_of, fault_of_links, fault_of_destination, fault_of_output, filled}
use Rattle.rules.specs.Stable.{Routing, table_of}
use Rattle.rules.specs.Solve.{stable_of}
use Rattle.rules.specs.Judge.{entries_of, entries_for}
use Rattle.rules.proofs.LineLaws.{table_length, table_entries}
use Rattle.rules.proofs.VerdictLaws.{then_assoc, then_same, then_passes}
use Rattle.table.specs.Entries.{fault_of_table, Filled, TableAfter}
use Rattle.table.proofs.StableLaws.{filled_words}
use Rattle.sheet.specs.Form.{sheet_of}
use Rattle.storefront.specs.Steps.{valued, room_words, Stably, fault_of_lines, told_lines, final_lines}
use Rattle.storefront.proofs.OrderLaws.{few_ases, room_suffices}
use Rattle.storefront.proofs.TableLaws.{accepted_ases}

module _ (ws : List ℕ) (d : ℕ) where
  abbrev us : List ℕ
  us = ases_of (links_of ws)

  -- a table of 2,048 words and the room suffice, so the table refuses links and destination alone
  table_first : fault_of_table base_limits ws d 2048 room_words ≡ and_then (fault_of_links base_limits ws) (fault_of_destination d us)
  unfolding fault_of_table
  table_first =
      then_same (fault_of_links base_limits ws) _ (fault_of_destination d us)
      (λ e. then_passes (fault_of_destination d us) _
      (λ f. (let few = few_ases ws e in rw (le-leb (4 * length us) 2048 (omega arith)) (room_suffices ws e))))

  lines_second : (room : ℕ) → fault_of_lines ws d room ≡ and_then (fault_of_table base_limits ws d 2048 room_words) (fault_of_output (10 + 11 * length us) room)
  unfolding fault_of_lines
  lines_second room =
      sym (ap (λ (v : Verdict). and_then v (fault_of_output (10 + 11 * length us) room)) table_first
      ∙ then_assoc (fault_of_links base_limits ws) (fault_of_destination d us) (fault_of_output (10 + 11 * length us) room))

  -- Refusals ----------------------------------------------------------------------------------------------------------------

  -- the lines are refused, and nothing is written
  lines_refused : (bytes : List ℕ) (why : Refusal) → fault_of_lines ws d (length bytes) ≡ Err why → {r : Result ℕ Refusal} → r ≡ Err why
      → (r ≡ told_lines ws d (length bytes)) × (bytes ≡ final_lines ws d bytes)
  lines_refused bytes why e p = (p ∙ rw e, rw e)

  pub no_lines : (bytes : List ℕ) {why : Refusal} → check_words base_limits ws ≡ Err why → {r : Result ℕ Refusal} → r ≡ Err why
      → (r ≡ told_lines ws d (length bytes)) × (bytes ≡ final_lines ws d bytes)
  unfolding fault_of_lines
  no_lines bytes {why} refuses = lines_refused bytes why (rw (ap verdict_of refuses))

  module _ {old table : List ℕ} {r : Verdict} (long : length old ≡ 2048) (s : Stably ws d old r table) where
    verdict : {v : Verdict} → r ≡ v → fault_of_table base_limits ws d 2048 room_words ≡ v
    verdict e = ap (λ (k : ℕ). fault_of_table base_limits ws d k room_words) (sym long) ∙ sym s.replies ∙ e

    pub no_table : (bytes : List ℕ) (why : Refusal) → r ≡ Err why → {reply : Result ℕ Refusal} → reply ≡ Err why
        → (reply ≡ told_lines ws d (length bytes)) × (bytes ≡ final_lines ws d bytes)
    no_table bytes why e =
        lines_refused bytes why (lines_second (length bytes) ∙ ap (λ (v : Verdict). and_then v (fault_of_output (10 + 11 * length us) (length bytes))) (verdict e))

    -- The table -------------------------------------------------------------------------------------------------------------

    module _ {n : ℕ} (links : check_words base_limits ws ≡ Ok n) (passes : r ≡ Ok tt) where
      abbrev S : Routing
      S = stable_of (arcs_of (links_of ws)) d

      abbrev lines : List ℕ
      lines = take (4 * n) table

      -- the first four words per AS are the stable table's
      stable_words : lines ≡ table_of S us
      stable_words =
          let f : Filled (links_of ws) d old table = subst (λ (v : Verdict). TableAfter v (links_of ws) d old table) (sym s.replies ∙ passes) s.tabled in
          let count : length (table_of S us) ≡ 4 * n = omega (arith, table_length S us, (accepted_ases ws links).count) in
          ap (take (4 * n)) (filled_words (links_of ws) d old table f) ∙ take_at (table_of S us) _ (4 * n) count

      -- written as far as it fits, it is the sheet
      pub sheet_made : (bytes : List ℕ) {reply : Result ℕ Refusal} {after : List ℕ}
          → (reply ≡ valued (fault_of_output (10 + 11 * (length lines / 4)) (length bytes)) (10 + 11 * (length lines / 4)))
          × (after ≡ filled (fault_of_output (10 + 11 * (length lines / 4)) (length bytes)) (sheet_of d (entries_of lines)) bytes)
          → (reply ≡ told_lines ws d (length bytes)) × (after ≡ final_lines ws d bytes)
      sheet_made bytes (p, q) =
          let fault = lines_second (length bytes) ∙ ap (λ (v : Verdict). and_then v (fault_of_output (10 + 11 * length us) (length bytes))) (verdict passes) in
          let count : length lines / 4 ≡ length us = omega (arith, ap length stable_words, table_length S us) in
          let printed : entries_of lines ≡ entries_for S us = ap entries_of stable_words ∙ table_entries S us in
          (p ∙ rw (fault, count), q ∙ rw (fault, count, printed))
