-- The places of refusals fit their 28 bits: a link, a byte, a line or a choice stands within an input that is within its limit. For links
-- by `check_Below` of the crate rules, for the rest by induction along each list that is looked through.
--
--   Fits v             what a verdict refuses at has a place that fits
use Prim.Native.Nat.{ℕ, suc, ◌+◌, ◌-◌, ◌%◌, ◌≤◌, ◌<◌}
use mathlib.Core.Bool.{Bool, ◌&&◌}
use mathlib.Core.List.{List, [], ◌∷◌}
use native.Mathlib.Omega.{arith}
use lib.Dec.{ltb, leb, eqb}
use lib.ListN.{length, get_or}
use Rattle.rules.specs.Replies.{Verdict}
use Rattle.std.specs.Prelude.{Result}
use Rattle.rules.specs.declared.Link.{Link}
use Rattle.rules.specs.declared.Refusal.{Refusal}
use Rattle.rules.specs.declared.Refusal.TheVariants.{OverLimit, ZeroAs, NoRelation, EqualEnds, PairAgain, TooManyAses, NoDestination, OutputShort, RoomShort, Unreadable, BrokenForm, CannotStand, NotBest, NoDirection}
use Rattle.rules.specs.Refusals.{refusal_number}
use Rattle.rules.specs.Offers.{Arc}
use Rattle.rules.specs.Network.{links_of, ases_of, arcs_of}
use Rattle.rules.specs.Checks.{base_limits, check_words}
use Rattle.rules.specs.Entry.{unless, verdict_of, fault_of_links}
use Rattle.rules.specs.Stable.{Routing, due}
use Rattle.rules.specs.Judge.{Entry, routing_of, stands, standing_from, standing, is_same_line, best_from, judge}
use Rattle.rules.proofs.Tests.{tests, by_cond}
use Rattle.rules.proofs.RefusalPlaces.{Below, unless-Below, check_Below, then_Below}
use Rattle.sheet.specs.Form.{needs, fault_of_length, fault_of_form, word2}
use Rattle.sheet.proofs.StandingLaws.{same_count}
use Rattle.machine.specs.Entries.{choice_from}
use Rattle.storefront.specs.Steps.{Placed}

pub number_range : (why : Refusal) → (1 ≤ refusal_number why) × (refusal_number why ≤ 13)
number_range OverLimit = omega arith
number_range (ZeroAs link) = omega arith
number_range (NoRelation link) = omega arith
number_range (EqualEnds link) = omega arith
number_range (PairAgain link) = omega arith
number_range (TooManyAses link) = omega arith
number_range NoDestination = omega arith
number_range OutputShort = omega arith
number_range RoomShort = omega arith
number_range (Unreadable line) = omega arith
number_range (BrokenForm byte) = omega arith
number_range (CannotStand line) = omega arith
number_range (NotBest line) = omega arith
number_range (NoDirection choice) = omega arith

-- Verdicts ------------------------------------------------------------------------------------------------------------------

abbrev pub Fits : Verdict → Type 0
Fits = Below 268435456

pub unless-Fits : (test : Bool) (why : Refusal) → Placed why → Fits (unless test why)
unless-Fits = unless-Below 268435456

-- Links ---------------------------------------------------------------------------------------------------------------------

pub links_fit : (ws : List ℕ) → Fits (fault_of_links base_limits ws)
unfolding check_words
links_fit ws =
    by_cond (λ (c : Result ℕ Refusal). Fits (verdict_of c)) (eqb (length ws % 3) 0) _ _
    (λ e. check_Below 268435456 base_limits (links_of ws) (omega arith) (omega arith)) (λ e. omega arith)

-- Sheets --------------------------------------------------------------------------------------------------------------------

module _ (s : List ℕ) (small : length s ≤ 65536) where
  needs_fit : (i value : ℕ) (next : Verdict) → Fits next → Fits (needs s i value next)
  needs_fit i value next f =
      by_cond Fits (leb (length s) i) _ _ (λ e. omega arith) (λ e. by_cond Fits (eqb (get_or s i 0) value) next _ (λ _. f) (λ _. omega tests))

  pub form_Fits : Fits (fault_of_form s)
  unfolding fault_of_form fault_of_length
  form_Fits =
      needs_fit 0 1 _
      (needs_fit 1 0 _
      (needs_fit 2 4 _
      (needs_fit 7 2 _
      (by_cond Fits (leb (length s) 9) _ _ (λ e. omega arith)
      (λ e. unless-Fits (eqb (word2 s 8 % 11) 0 && eqb (word2 s 8) (length s - 10)) (BrokenForm 8) (omega arith))))))

standing_Fits : (bound i : ℕ) (us : List ℕ) (es : List Entry) → i + length us < 268435456 → Fits (standing_from bound i us es)
unfolding standing_from
standing_Fits bound i [] [] h = tt
standing_Fits bound i [] (e ∷ es) h = omega arith
standing_Fits bound i (u ∷ us) [] h = omega arith
standing_Fits bound i (u ∷ us) (e ∷ es) h =
    by_cond Fits (stands bound u e) _ _ (λ t. standing_Fits bound (suc i) us es (omega arith)) (λ t. omega arith)

best_Fits : (net : List Arc) (d : ℕ) (R : Routing) (i : ℕ) (es : List Entry) → i + length es ≤ 268435456 → Fits (best_from net d R i es)
unfolding best_from
best_Fits net d R i [] h = tt
best_Fits net d R i (e ∷ es) h =
    by_cond Fits (is_same_line e.line (due net d R e.number)) _ _ (λ t. best_Fits net d R (suc i) es (omega arith)) (λ t. omega arith)

pub judge-Fits : (ls : List Link) (d bound : ℕ) (es : List Entry) → length (ases_of ls) ≤ 512 → Fits (judge ls d bound es)
unfolding judge
judge-Fits ls d bound es few =
    then_Below 268435456 (standing bound (ases_of ls) es) _ (standing_Fits bound 0 (ases_of ls) es (omega arith))
    (λ e. best_Fits (arcs_of ls) d (routing_of es) 0 es (omega (arith, same_count bound 0 (ases_of ls) es e)))

-- Choices -------------------------------------------------------------------------------------------------------------------

pub choices_fit : (directions i : ℕ) (cs : List ℕ) → i + length cs ≤ 268435456 → Fits (choice_from directions i cs)
unfolding choice_from
choices_fit directions i [] h = tt
choices_fit directions i (c ∷ cs) h =
    by_cond Fits (ltb c directions) _ _ (λ t. choices_fit directions (suc i) cs (omega arith)) (λ t. omega arith)
