-- One top against all others, and all of them: what the flags say at every place is what the tests say of every AS.
use Prim.Native.Nat.{ℕ, ◌<◌}
use mathlib.Core.Path.{◌≡◌, refl, sym, ◌∙◌, ap}
use mathlib.Core.Logic.{⊎_elim}
use mathlib.Core.Bool.{Bool, true, false, not, ◌&&◌, ◌||◌, false≢true}
use mathlib.Core.List.{List}
use native.Mathlib.Omega.{arith}
use lib.Dec.{eqb}
use lib.ListN.{length, get_or}
use borrow.Author.Tests.{eq-eqb, ne_eqb, not-false}
use Rattle.rules.specs.Lists.{In, all_of}
use Rattle.rules.specs.Network.{links_of}
use Rattle.rules.specs.Findings.{is_top, are_peers, joined}
use Rattle.rules.proofs.NetworkLaws.{ases_Distinct}
use Rattle.rules.proofs.ListLaws.{at_in, all_of_each, all_of-true}
use Rattle.rules.proofs.Tests.{untrue}
use Rattle.network.proofs.Numbers.{same?}
use Rattle.offers.specs.Ways.{index_in}
use Rattle.offers.proofs.PlaceLaws.{place-In, place_at}
use Rattle.findings.specs.declared.survey.Way.TheVariants.{Down, Up}
use Rattle.findings.specs.Flags.{ases_in, place, flag_at, flag}
use Rattle.findings.specs.Joinings.{Served, Chosen, met_after, Peered, Hinted, is_met_at, AllMet, pair_joined, meets, meets_at}
use Rattle.findings.proofs.TellerLaws.{place_below}
use Rattle.findings.proofs.TellLaws.{heard_same}
use Rattle.findings.proofs.TopLaws.{heard_peers}

-- Tests -------------------------------------------------------------------------------------------------------------------

-- of every AS, by places
all_of_yes : (f : ℕ → Bool) (us : List ℕ) → ((k : ℕ) → k < length us → f (get_or us k 0) ≡ true) → true ≡ all_of f us
all_of_yes f us h = sym (all_of-true f us (λ x m. ap f (sym (place-In us x m).1) ∙ h (index_in us x) (place-In us x m).0))

all_of_not : (f : ℕ → Bool) (us : List ℕ) (k : ℕ) → k < length us → f (get_or us k 0) ≡ false → false ≡ all_of f us
all_of_not f us k l e = untrue (all_of f us) (λ h. false≢true (sym e ∙ all_of_each f us h (get_or us k 0) (at_in 0 us k l)))

-- that hold together
eqb_same : (a b c d : ℕ) → (a ≡ b → c ≡ d) → (c ≡ d → a ≡ b) → eqb a b ≡ eqb c d
eqb_same a b c d f g = ⊎_elim (λ e. eq-eqb a b e ∙ sym (eq-eqb c d (f e))) (λ n. ne_eqb a b n ∙ sym (ne_eqb c d (λ e. n (g e)))) (same? a b)

gather : (f x y g z w p : Bool) → f ≡ g → x ≡ z → y ≡ w → (z || w) ≡ p → (f || x || y) ≡ (g || p)
gather f x y true z w p d e h i = cc
gather f x y false z w p d e h i = cc

pair : (o v e p s m : Bool) → o ≡ true → s ≡ not v → m ≡ (e || p) → (s || m) ≡ (not (o && v) || e || p)
pair o true e p s m i j k = cc
pair o false e p s m i j k = cc

hint : (o v e p s m : Bool) → s ≡ not v → (m ≡ true → (e || p) ≡ true) → (s || m) ≡ true → (not (o && v) || e || p) ≡ true
hint true true e p true m i j k = absurd (false≢true (sym i))
hint true true e p false m i j k = j k
hint true false e p s m i j k = refl
hint false v e p s m i j k = refl

-- One AS ------------------------------------------------------------------------------------------------------------------

module _ (ws s : List ℕ) (h : Served ws s) (p : ℕ) (l : p < length (ases_in ws)) where
  abbrev us : List ℕ
  us = ases_in ws

  abbrev one : ℕ
  one = get_or (ases_in ws) p 0

  one_place : index_in us one ≡ p
  one_place = place_at us (ases_Distinct (links_of ws)) p l

  served_one : flag_at s p ≡ not (is_top (links_of ws) one)
  served_one = ap (flag_at s) (sym one_place) ∙ h one (at_in 0 us p l)

  -- no top meets every top
  pub meets_served : get_or s p 0 ≡ 1 → true ≡ meets_at ws p
  meets_served e =
      sym (all_of-true (pair_joined (links_of ws) one) us
      (λ v m. held (is_top (links_of ws) one) (is_top (links_of ws) v) (eqb one v) (are_peers (links_of ws) one v) (sym served_one ∙ eq-eqb _ 1 e)))
    where
      held : (a b c d : Bool) → not a ≡ true → (not (a && b) || c || d) ≡ true
      held true b c d f = absurd (false≢true f)
      held false b c d f = refl

  -- with p alone chosen, and met
  module _ (c a : List ℕ) (chosen : Chosen p c) (met : Chosen p a) (n : length c ≡ length (ases_in ws)) (q : length a ≡ length (ases_in ws)) where
    is_one : (y : ℕ) → In y us → eqb (index_in us y) p ≡ eqb y one
    is_one y m =
        eqb_same (index_in us y) p y one (λ e. sym (place-In us y m).1 ∙ ap (λ (k : ℕ). get_or us k 0) e) (λ e. ap (index_in us) e ∙ one_place)

    chosen_one : (y : ℕ) → In y us → flag ws c y ≡ eqb y one
    chosen_one y m = chosen (place ws y) (omega (arith, place_below ws y m)) ∙ is_one y m

    -- whom the chosen one tells
    told_peers : (v : ℕ) → In v us → met_after ws c a v ≡ (eqb one v || are_peers (links_of ws) one v)
    told_peers v m =
        gather _ _ _ _ _ _ _ (met (place ws v) (omega (arith, place_below ws v m)) ∙ is_one v m ∙ eqb_same v one one v sym sym)
        (heard_same ws 0 Down (flag ws c) (λ y. eqb y one) v chosen_one)
        (heard_same ws 0 Up (flag ws c) (λ y. eqb y one) v chosen_one) (heard_peers (links_of ws) one v)

    -- a top meets whom the two passes tell
    module _ (b : List ℕ) (o : Peered ws c a b) (top : flag_at s p ≡ false) (z : length b ≡ length (ases_in ws)) where
      met_pair : (v : ℕ) → In v us → is_met_at s b (place ws v) ≡ pair_joined (links_of ws) one v
      met_pair v m = pair _ _ _ _ _ _ (not-false (is_top (links_of ws) one) (sym served_one ∙ top)) (h v m) (o.flags v m ∙ told_peers v m)

      met_at : (k : ℕ) → k < length us → is_met_at s b k ≡ pair_joined (links_of ws) one (get_or us k 0)
      met_at k i = ap (is_met_at s b) (sym (place_at us (ases_Distinct (links_of ws)) k i)) ∙ met_pair (get_or us k 0) (at_in 0 us k i)

      pub meets_top : (r : Bool) → AllMet s b r → r ≡ meets_at ws p
      meets_top true f = all_of_yes (pair_joined (links_of ws) one) us (λ k i. sym (met_at k i) ∙ f k (omega arith))
      meets_top false (k, i, e) =
          let j : k < length us = omega arith in
          all_of_not (pair_joined (links_of ws) one) us k j (sym (met_at k j) ∙ e)

    -- and where only peers are met and every top is, it meets every top
    pub meets_hinted : (b : List ℕ) (r : Bool) → Hinted ws c a b → length b ≡ length (ases_in ws) → AllMet s b r → r ≡ true → meets_at ws p ≡ true
    meets_hinted b false o z f e = absurd (false≢true e)
    meets_hinted b true o z f e =
        all_of-true (pair_joined (links_of ws) one) us
        (λ v m. hint (is_top (links_of ws) one) _ _ _ _ _ (h v m) (λ e. sym (told_peers v m) ∙ o.flags v m e)
        (f (place ws v) (omega (arith, place_below ws v m))))

-- All of them -------------------------------------------------------------------------------------------------------------

module _ (ws : List ℕ) where
  pub joined_yes : ((k : ℕ) → k < length (ases_in ws) → meets_at ws k ≡ true) → true ≡ joined (links_of ws)
  unfolding joined
  joined_yes e = all_of_yes (meets (links_of ws)) (ases_in ws) e

  pub joined_not : (p : ℕ) → p < length (ases_in ws) → false ≡ meets_at ws p → false ≡ joined (links_of ws)
  unfolding joined
  joined_not p l e = all_of_not (meets (links_of ws)) (ases_in ws) p l (sym e)

pub ruleset surely = (meets_top)

pub ruleset seemingly = (meets_hinted)

pub ruleset unserved = (meets_served)

pub ruleset joinings = (joined_yes, joined_not)
