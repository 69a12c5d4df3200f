-- The look at the input, refusal by refusal: what each test says of the reply, and what an input that passes has.
use Prim.Native.Nat.{ℕ, ◌≤◌}
use mathlib.Core.Path.{◌≡◌, refl, sym, ◌∙◌, ap}
use mathlib.Core.Bool.{true, false}
use mathlib.Core.List.{List}
use native.Mathlib.Omega.{arith}
use lib.Dec.{eqb}
use lib.ListN.{length, take, replicate}
use Rattle.std.proofs.Math.Seq.{take-length}
use Rattle.std.specs.Prelude.{Err, Ok, Option, Some, None, is_some}
use Rattle.rules.specs.Replies.{Verdict}
use Rattle.rules.specs.declared.Limits.{Limits}
use Rattle.rules.specs.declared.Refusal.{Refusal}
use Rattle.rules.specs.Ascending.{Ascending}
use Rattle.rules.specs.Lists.{any_of}
use Rattle.rules.specs.Network.{links_of, ases_of}
use Rattle.rules.specs.Checks.{base_limits, check_words}
use Rattle.rules.specs.Entry.{fault_of_links, fault_of_destination}
use Rattle.rules.proofs.ListLaws.{member_no}
use Rattle.rules.proofs.NetworkLaws.{ases_Ascending}
use Rattle.rules.proofs.AcceptedLinks.{check_words-Accepted}
use Rattle.rules.proofs.VerdictLaws.{accepted}
use Rattle.network.specs.Promises.{count_of, Stands}
use Rattle.network.proofs.PrefixLaws.{count}
use Rattle.network.proofs.ListedLaws.{Stands-nowhere}
use Rattle.table.specs.declared.asked.Question.{Question}
use Rattle.table.specs.Entries.{fault_of_table, Filled, Tabled}
use Rattle.table.specs.Steps.{fault_of_sizes}

-- The links and the ASes ------------------------------------------------------------------------------------------------------------------

pub few_links : (ws : List ℕ) (n : ℕ) → check_words base_limits ws ≡ Ok n → count_of ws ≤ 1536
few_links ws n a = omega (arith, count ws, (check_words-Accepted base_limits ws n a).1.few_links)

-- accepted links whose ASes are counted
pub counted_accepted : (ws : List ℕ) (n : ℕ) → fault_of_links base_limits ws ≡ Ok tt → n ≡ length (ases_of (links_of ws)) → check_words base_limits ws ≡ Ok n
counted_accepted ws n e count =
    let (m, a) = accepted (check_words base_limits ws) e in
    let same : m ≡ n = (check_words-Accepted base_limits ws m a).1.count ∙ sym count in
    a ∙ ap (λ (k : ℕ). Ok k) same

pub listed_Ascending : (ws us : List ℕ) → us ≡ ases_of (links_of ws) → Ascending (take (length us) us)
listed_Ascending ws us e = rw (take-length us, e) (ases_Ascending (links_of ws))

-- a destination that has no place among them
pub missing : (us : List ℕ) (d : ℕ) (p : Option ℕ) → Stands us (length us) d p → is_some p ≡ false → any_of (eqb d) us ≡ false
missing us d (Some i) stands e = cc
missing us d None stands e = rw (take-length us) at (member_no d (take (length us) us) (Stands-nowhere us (length us) (omega arith) d stands))

-- The reply -----------------------------------------------------------------------------------------------------------------

module _ (limits : Limits) (ws : List ℕ) (d table room : ℕ) where
  pub fault-links : {x : Refusal} → check_words limits ws ≡ Err x → fault_of_table limits ws d table room ≡ Err x
  unfolding fault_of_table
  fault-links e = rw e

  module _ {us : List ℕ} (links : fault_of_links limits ws ≡ Ok tt) (listed : us ≡ ases_of (links_of ws)) where
    pub fault-destination : {x : Refusal} → fault_of_destination d us ≡ Err x → fault_of_table limits ws d table room ≡ Err x
    unfolding fault_of_table
    fault-destination e = rw (links, ← listed, e)

    pub fault-sizes : {v : Verdict} → any_of (eqb d) us ≡ true → v ≡ fault_of_sizes ws us table room → fault_of_table limits ws d table room ≡ v
    unfolding fault_of_table
    fault-sizes m e = rw (links, ← listed, m) (sym e)

-- of a question
pub question_sizes : (q : Question) (ws : List ℕ) (d table room : ℕ) {v : Verdict} → fault_of_links base_limits ws ≡ Ok tt → q.network.words.now ≡ ws
    → q.destination ≡ d → v ≡ fault_of_sizes q.network.words.now q.ases.now table room → fault_of_table base_limits ws d table room ≡ v
question_sizes q ws d table room links words same e =
    fault-sizes base_limits ws d table room links (rw words at q.listed) (rw same at q.member) (rw words at e)

-- The whole promise, from the reply -------------------------------------------------------------------------------------------

module _ (limits : Limits) (ws : List ℕ) (d : ℕ) (table room : List ℕ) where
  pub Tabled-refused : {x : Refusal} → fault_of_table limits ws d (length table) (length room) ≡ Err x → Tabled limits ws d table room (Err x) table room
  Tabled-refused f = record { replies = sym f; tabled = rw f refl; zeroed = rw f refl }

  pub Tabled-passes : {table' room' : List ℕ} → fault_of_table limits ws d (length table) (length room) ≡ Ok tt → Filled (links_of ws) d table table'
      → room' ≡ replicate (length room) 0 → Tabled limits ws d table room (Ok tt) table' room'
  Tabled-passes f filled zeroed = record { replies = sym f; tabled = rw f filled; zeroed = rw f zeroed }
