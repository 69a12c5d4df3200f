-- Peeling place by place: who is left is who was left and is met, and each one taken away makes them fewer.
use Prim.Native.Nat.{ℕ, zero, suc, ◌+◌, ◌≤◌, ◌<◌}
use mathlib.Core.Path.{◌≡◌, refl, sym, ◌∙◌, ap, subst}
use mathlib.Core.Logic.{⊎_elim, ◌≢◌}
use mathlib.Core.Bool.{Bool, true, false, ◌&&◌, and-false}
use mathlib.Core.List.{List}
use native.Mathlib.Omega.{arith}
use native.Mathlib.Nat.{lt_trans}
use borrow.Author.Count.{below_none, below_more}
use borrow.Author.Tests.{eq-eqb, ne_eqb, eqb-true}
use lib.ListN.{length, get_or, set, length-set}
use Rattle.network.proofs.Numbers.{same?}
use Rattle.findings.specs.Flags.{flag_at}
use Rattle.findings.specs.Peelings.{one_if, ones_in, Fewer, Peeled}
use Rattle.findings.proofs.FlagLaws.{set_flag, set_other}

-- Counting ----------------------------------------------------------------------------------------------------------------

ones_same : (t u : List ℕ) (n : ℕ) → ((j : ℕ) → j < n → flag_at u j ≡ flag_at t j) → ones_in u n ≡ ones_in t n
unfolding ones_in
ones_same t u zero h = refl
ones_same t u (suc n) h =
    let e : one_if (flag_at u n) ≡ one_if (flag_at t n) = ap one_if (h n (omega arith)) in
    omega (arith, ones_same t u n (λ j l. h j (omega arith)))

-- one taken away
module _ (t : List ℕ) (k : ℕ) (e : flag_at t k ≡ true) where
  abbrev less : List ℕ
  less = set t k 0

  ones_fall : (n : ℕ) → k < n → n ≤ length t → ones_in less n < ones_in t n
  unfolding ones_in
  ones_fall zero l h = absurd (omega arith)
  ones_fall (suc n) l h = ⊎_elim here (λ q. there q (ones_fall n (omega arith) (omega arith))) (same? k n)
    where
      here : k ≡ n → one_if (flag_at less n) + ones_in less n < one_if (flag_at t n) + ones_in t n
      here q =
          let a : one_if (flag_at less n) ≡ 0 = rw (← q) (ap one_if (set_flag t k 0 (omega arith))) in
          let b : one_if (flag_at t n) ≡ 1 = rw (← q) (ap one_if e) in
          omega (arith, ones_same t less n (λ j m. set_other t k 0 j (λ d. omega arith)))

      there : k ≢ n → ones_in less n < ones_in t n → one_if (flag_at less n) + ones_in less n < one_if (flag_at t n) + ones_in t n
      there q f =
          let a : one_if (flag_at less n) ≡ one_if (flag_at t n) = ap one_if (set_other t k 0 n (λ d. omega arith)) in
          omega arith

-- Place by place ----------------------------------------------------------------------------------------------------------

pub Peeled-none : (m t : List ℕ) → Peeled 0 m t t false
Peeled-none m t = record { size = refl; done = below_none _; rest = λ k l. refl; fewer = refl }

module _ (p : ℕ) (m t u : List ℕ) (x : Bool) (l : p < length t) (h : Peeled p m t u x) where
  -- u with place p taken away
  abbrev v : List ℕ
  v = set u p 0

  fell : (y : Bool) → Fewer t u y → ones_in v (length u) < ones_in u (length u) → Fewer t v true
  fell true f g = lt_trans (subst (λ (n : ℕ). ones_in v n < ones_in u n) h.size g) f
  fell false f g = subst (λ (w : List ℕ). ones_in v (length w) < ones_in w (length w)) f g

  pub Peeled-taken : get_or u p 0 ≡ 1 → get_or m p 0 ≢ 1 → Peeled (p + 1) m t v true
  Peeled-taken e f =
      record {
        size = length-set u p 0 ∙ h.size;
        done =
            below_more (λ (k : ℕ). flag_at v k ≡ (flag_at t k && flag_at m k)) p
            (λ k n. set_other u p 0 k (λ d. omega arith) ∙ h.done k n)
            (set_flag u p 0 (omega (arith, h.size)) ∙ sym (and-false (flag_at t p)) ∙ ap (λ (b : Bool). flag_at t p && b) (sym (ne_eqb (get_or m p 0) 1 f)));
        rest = λ k n. set_other u p 0 k (λ d. omega arith) ∙ h.rest k (omega arith);
        fewer = fell x h.fewer (ones_fall u p (eq-eqb (get_or u p 0) 1 e) (length u) (omega (arith, h.size)) (omega arith));
      }

  kept : (flag_at u p ≡ true → flag_at m p ≡ true) → Peeled (p + 1) m t u x
  kept f =
      record {
        size = h.size;
        done =
            below_more (λ (k : ℕ). flag_at u k ≡ (flag_at t k && flag_at m k)) p h.done
            (both (flag_at u p) (flag_at t p) (flag_at m p) (h.rest p (omega arith)) f);
        rest = λ k n. h.rest k (omega arith);
        fewer = h.fewer;
      }
    where
      both : (a b d : Bool) → a ≡ b → (a ≡ true → d ≡ true) → a ≡ (b && d)
      both a true d e g = e ∙ sym (g e)
      both a false d e g = e

  pub Peeled-gone : get_or u p 0 ≢ 1 → Peeled (p + 1) m t u x
  Peeled-gone ne = kept (λ e. absurd (ne (eqb-true _ _ e)))

  pub Peeled-met : get_or m p 0 ≡ 1 → Peeled (p + 1) m t u x
  Peeled-met e = kept (λ _. eq-eqb (get_or m p 0) 1 e)

pub ruleset peelings = (Peeled-none, Peeled-taken, Peeled-gone, Peeled-met)
