-- The election's tests have no branches: an offer wins by one comparison, in which length and rank are one number that counts where the
-- types are equal, and what goes on is one interval of types for each kind.
use Prim.Native.Nat.{ℕ, zero, suc, ◌+◌, ◌*◌, ◌≤◌, ◌<◌}
use mathlib.Core.Path.{◌≡◌, refl, sym, ◌∙◌, ap}
use mathlib.Core.Logic.{◌≢◌}
use mathlib.Core.Bool.{Bool, true, false, cond, ◌&&◌, ◌||◌, and_assoc}
use native.Mathlib.Omega.{arith}
use native.Mathlib.Decide.{ℕ_discrete}
use lib.Dec.{ltb, leb, eqb}
use mir.Val.{bool_byte}
use borrow.Author.Tests.{ltb-true, ltb-false, lt-ltb, le-leb, lt-leb, eq-eqb, ne_eqb}
use Rattle.rules.specs.Pairs.{same_as, beats_of}
use Rattle.rules.specs.Offers.{Offer, better}
use Rattle.rules.proofs.Tests.{by_cond}
use Rattle.offers.specs.Steps.{is_passed_on}
use Rattle.offers.proofs.ConsiderLaws.{goes_provider, goes_other}

-- two comparisons that hold together
ltb_same : (a b c d : ℕ) → (a < b → c < d) → (c < d → a < b) → ltb a b ≡ ltb c d
ltb_same a b c d f g = go (ltb a b) refl
  where
    go : (r : Bool) → ltb a b ≡ r → r ≡ ltb c d
    go true e = sym (lt-ltb c d (f (ltb-true a b e)))
    go false e = sym (up (ltb c d) refl)
      where
        up : (r : Bool) → ltb c d ≡ r → r ≡ false
        up true h = absurd (omega (arith, g (ltb-true c d h), ltb-false a b e))
        up false h = refl

abbrev length_rank : Offer → ℕ
length_rank x = 4294967296 * x.pair.length + x.rank

-- what decides between two offers
module _ (x y : Offer) where
  by_type : x.pair.typ ≢ y.pair.typ → better x y ≡ ltb x.pair.typ y.pair.typ
  unfolding better same_as beats_of
  by_type n = cc (ne_eqb _ _ n)

  by_length : x.pair.typ ≡ y.pair.typ → x.pair.length ≢ y.pair.length → better x y ≡ ltb x.pair.length y.pair.length
  unfolding better same_as beats_of
  by_length e n = cc (eq-eqb _ _ e, ne_eqb _ _ n)

  by_rank : x.pair.typ ≡ y.pair.typ → x.pair.length ≡ y.pair.length → better x y ≡ ltb x.rank y.rank
  unfolding better same_as beats_of
  by_rank e l = cc (eq-eqb _ _ e, eq-eqb _ _ l)

  pub outdone : x.rank < 4294967296 → y.rank < 4294967296
      → ltb x.pair.typ (y.pair.typ + cond (ltb (length_rank x) (length_rank y)) 1 0) ≡ better x y
  outdone p q = go (ℕ_discrete x.pair.typ y.pair.typ) (ℕ_discrete x.pair.length y.pair.length)
    where
      -- against a comparison that the types decide, or length and rank where these are equal
      each : (a b : ℕ) → (length_rank x < length_rank y → ltb x.pair.typ (y.pair.typ + 1) ≡ ltb a b)
          → (length_rank y ≤ length_rank x → ltb x.pair.typ (y.pair.typ + 0) ≡ ltb a b)
          → ltb x.pair.typ (y.pair.typ + cond (ltb (length_rank x) (length_rank y)) 1 0) ≡ ltb a b
      each a b f g =
          by_cond (λ (n : ℕ). ltb x.pair.typ (y.pair.typ + n) ≡ ltb a b) (ltb (length_rank x) (length_rank y)) 1 0
          (λ h. f (ltb-true _ _ h)) (λ h. g (ltb-false _ _ h))

      go : Dec (x.pair.typ ≡ y.pair.typ) → Dec (x.pair.length ≡ y.pair.length)
          → ltb x.pair.typ (y.pair.typ + cond (ltb (length_rank x) (length_rank y)) 1 0) ≡ better x y
      go (no n) d =
          let a = x.pair.typ in
          let b = y.pair.typ in
          each a b (λ h. ltb_same a (b + 1) a b (λ l. omega arith) (λ l. omega arith))
          (λ h. ltb_same a (b + 0) a b (λ l. omega arith) (λ l. omega arith))
          ∙ sym (by_type n)
      go (yes e) (no n) =
          let a = x.pair.length in
          let b = y.pair.length in
          each a b (λ h. ltb_same x.pair.typ (y.pair.typ + 1) a b (λ l. omega arith) (λ l. omega arith))
          (λ h. ltb_same x.pair.typ (y.pair.typ + 0) a b (λ l. omega arith) (λ l. omega arith))
          ∙ sym (by_length e n)
      go (yes e) (yes f) =
          let a = x.rank in
          let b = y.rank in
          each a b (λ h. ltb_same x.pair.typ (y.pair.typ + 1) a b (λ l. omega arith) (λ l. omega arith))
          (λ h. ltb_same x.pair.typ (y.pair.typ + 0) a b (λ l. omega arith) (λ l. omega arith))
          ∙ sym (by_rank e f)

-- a test as a number
pub byte_is : (b : Bool) → bool_byte b ≡ cond b 1 0
byte_is true = refl
byte_is false = refl

-- what goes on
one_test : (t : ℕ) → (leb 1 t && leb t 1) ≡ eqb t 1
one_test zero = refl
one_test (suc zero) = refl
one_test (suc (suc t)) =
    let j = suc (suc t) in
    cc (le-leb 1 j (omega arith), lt-leb j 1 (omega arith), ne_eqb j 1 (λ e. omega arith))

kind_test : (k : ℕ) → k ≢ 3 → (leb 1 k && leb k 3) ≡ (eqb k 1 || eqb k 2)
kind_test zero n = refl
kind_test (suc zero) n = refl
kind_test (suc (suc zero)) n = refl
kind_test (suc (suc (suc zero))) n = absurd (n refl)
kind_test (suc (suc (suc (suc k)))) n =
    let j = suc (suc (suc (suc k))) in
    cc (le-leb 1 j (omega arith), lt-leb j 3 (omega arith), ne_eqb j 1 (λ e. omega arith), ne_eqb j 2 (λ e. omega arith))

pub goes_tests : (k t : ℕ) → (((leb 1 k && leb k 3) && leb 1 t) && leb t (cond (eqb k 3) 3 1)) ≡ is_passed_on k t
goes_tests k t = go (ℕ_discrete k 3)
  where
    go : Dec (k ≡ 3) → (((leb 1 k && leb k 3) && leb 1 t) && leb t (cond (eqb k 3) 3 1)) ≡ is_passed_on k t
    go (yes e) = rw e (goes_provider 3 t refl)
    go (no n) =
        rw (ne_eqb k 3 n)
        (and_assoc (leb 1 k && leb k 3) (leb 1 t) (leb t 1)
        ∙ ap (λ (b : Bool). b && (leb 1 t && leb t 1)) (kind_test k n)
        ∙ ap (λ (b : Bool). (eqb k 1 || eqb k 2) && b) (one_test t)
        ∙ goes_other k t n)
