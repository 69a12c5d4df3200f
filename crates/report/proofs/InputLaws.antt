-- The verdict on an input, part by part: what is left of it behind each test, and how a refusal leaves table and room.
--
--   refuses            a refusal leaves all as it was; left-over   what is left of a verdict
--   no_text, some_text the text's lines
--   first_line_lem, behind-first  the first line and what is behind it, by the place of the first LF
--   no_number, a_number     the destination's line
use Prim.Native.Nat.{ℕ, suc, ◌+◌, ◌-◌, ◌*◌, ◌≤◌, ◌<◌}
use mathlib.Core.Path.{◌≡◌, refl, sym, ◌∙◌, ap}
use mathlib.Core.List.{List, [], ◌∷◌}
use native.Mathlib.Omega.{arith}
use native.Mathlib.Numerals.{add-one}
use lib.Dec.{eqb}
use lib.ListN.{length, take, drop, length-drop, drop_of_length-le}
use lib.Seq.{take-length}
use Rattle.rules.specs.Replies.{Verdict}
use Rattle.std.specs.Prelude.{Err, Ok, Result}
use Rattle.rules.specs.declared.Link.{Link}
use Rattle.rules.specs.declared.Refusal.{Refusal}
use Rattle.rules.specs.declared.Refusal.TheVariants.{Unreadable}
use Rattle.rules.specs.Network.{links_of}
use Rattle.rules.specs.Checks.{base_limits}
use Rattle.rules.specs.Entry.{and_then}
use Rattle.rules.proofs.Tests.{by_cond}
use Rattle.linktext.specs.declared.NumeralFault.{NumeralFault}
use Rattle.linktext.specs.declared.NumeralFault.TheVariants.{NoForm, OverLarge}
use Rattle.linktext.specs.Lines.{lf, numeral_of}
use Rattle.linktext.specs.Fields.{place_of}
use Rattle.linktext.specs.Texts.{text_in}
use Rattle.linktext.specs.TextNetworks.{links_of_text}
use Rattle.linktext.proofs.PlaceLaws.{place_le}
use Rattle.linktext.proofs.ScratchLaws.{Got}
use Rattle.linktext.proofs.WordNetworks.{got_links, got_fault, lost_fault}
use Rattle.report.specs.declared.Told.{Told}
use Rattle.report.specs.Report.{first_line, after_first, fault_of_number, value_of, destination_in, links_behind}
use Rattle.report.specs.Answers.{fault_of_link_words, fault_of_text, fault_of_lines, BehindFirst, Worked}

pub refuses : {ls : List Link} {d : ℕ} {t r : List ℕ} {v : Verdict} {why : Refusal} → v ≡ Err why → Worked ls d v t r (Err why) t r
refuses e = rw e (record { replies = refl; tabled = refl; zeroed = refl })

-- the text's lines ----------------------------------------------------------------------------------------------------------

pub no_text : (t : List ℕ) (d : ℕ) {why : Refusal} → text_in base_limits t ≡ Err why → fault_of_text t d ≡ Err why
no_text t d e = rw (lost_fault base_limits t e)

pub some_text : (t : List ℕ) (d : ℕ) {m : ℕ} {ws : List ℕ} → Got (text_in base_limits t) m ws → {u r : List ℕ} {a : Result Told Refusal} {u' r' : List ℕ}
    → Worked (links_of (take (3 * m) ws)) d (fault_of_link_words (take (3 * m) ws) d) u r a u' r'
    → Worked (links_of_text base_limits t) d (fault_of_text t d) u r a u' r'
some_text t d g w = rw (← got_fault base_limits t g, ← got_links base_limits t g) w

-- first line and text behind it -----------------------------------------------------------------------------------------------

pub first_line_lem : (t : List ℕ) → take (place_of lf t) t ≡ first_line t
unfolding place_of first_line
first_line_lem [] = refl
first_line_lem (c ∷ t) =
    by_cond (λ (k : ℕ). take k (c ∷ t) ≡ first_line (c ∷ t)) (eqb c lf) 0 (suc (place_of lf t)) (λ e. rw e) (λ e. rw e (ap (λ (l : List ℕ). c ∷ l) (first_line_lem t)))

text_behind : (t : List ℕ) → drop (suc (place_of lf t)) t ≡ after_first t
unfolding place_of after_first
text_behind [] = refl
text_behind (c ∷ t) =
    by_cond (λ (k : ℕ). drop (suc k) (c ∷ t) ≡ after_first (c ∷ t)) (eqb c lf) 0 (suc (place_of lf t)) (λ e. rw e) (λ e. rw e (text_behind t))

module _ (t : List ℕ) (end : ℕ) (here : end ≡ place_of lf t) where
  pub behind_lf : end < length t → BehindFirst t (end + 1)
  behind_lf h = record { within = omega arith; text = rw (add-one, here) (text_behind t) }

  pub behind_all : length t ≤ end → BehindFirst t end
  behind_all h =
      let all = place_le lf t in
      let last : length t ≤ suc end = omega arith in
      let later = ap (λ (k : ℕ). drop (suc k) t) here ∙ text_behind t in
      record { within = omega arith; text = drop_of_length-le t h ∙ sym (drop_of_length-le t last) ∙ later }

-- the slice that begins there
abbrev behind : List ℕ → ℕ → List ℕ
behind t i = take (length t - i) (drop i t)

behind_is : {t : List ℕ} {i : ℕ} → BehindFirst t i → behind t i ≡ after_first t
behind_is {t} {i} b = ap (λ (k : ℕ). take k (drop i t)) (sym (length-drop i t)) ∙ take-length (drop i t) ∙ b.text

-- the destination's line ------------------------------------------------------------------------------------------------------

-- a numeral that is no value
abbrev NoValue : Result ℕ NumeralFault → Type 0
NoValue n = (fault : NumeralFault) × (n ≡ Err fault)

no_value : (n : Result ℕ NumeralFault) (v : Verdict) → NoValue n → and_then (fault_of_number n) v ≡ Err (Unreadable 0)
no_value (Ok d) v (fault, e) = cc
no_value (Err NoForm) v h = refl
no_value (Err OverLarge) v h = refl

module _ (t : List ℕ) {end : ℕ} (here : end ≡ place_of lf t) {x : Result ℕ NumeralFault} (reads : x ≡ numeral_of (take end t)) where
  line_number : x ≡ numeral_of (first_line t)
  line_number = reads ∙ rw here (ap numeral_of (first_line_lem t))

  pub no_number : NoValue x → fault_of_lines t ≡ Err (Unreadable 0)
  no_number h = rw (← line_number) (no_value x (fault_of_text (after_first t) (value_of x)) h)

  module _ {d start : ℕ} (value : x ≡ Ok d) (b : BehindFirst t start) {u r : List ℕ} {a : Result Told Refusal} {u' r' : List ℕ} where
    pub a_number : Worked (links_of_text base_limits (behind t start)) d (fault_of_text (behind t start) d) u r a u' r'
        → Worked (links_behind base_limits t) (destination_in t) (fault_of_lines t) u r a u' r'
    a_number w = rw (← line_number, value) (rw (behind_is b) at w)
