-- Stores one after the other: a run whose last store is made first, runs with their places, and the digits of a number.
use Prim.Native.Nat.{ℕ, suc, ◌+◌, ◌-◌, ◌/◌, ◌%◌, ◌≤◌, ◌<◌}
use mathlib.Core.Path.{◌≡◌, ◌∙◌, refl, sym, ap}
use mathlib.Core.List.{List, [], ◌∷◌, ◌++◌}
use native.Mathlib.Omega.{arith}
use lib.ListN.{length, set, length-append}
use lib.Seq.{sets, length-sets, set_comm}
use Rattle.rules.proofs.StoreLaws.{sets-append}
use Rattle.linktext.specs.Stored.{Stored}
use Rattle.linktext.specs.Lines.{digit0}
use Rattle.linktext.proofs.DigitLaws.{last_digits, length-last_digits}

-- a store beyond a run can be made before it
set_past : (l : List ℕ) (i : ℕ) (xs : List ℕ) (p y : ℕ) → i + length xs ≤ p → set (sets l i xs) p y ≡ sets (set l p y) i xs
set_past l i [] p y h = refl
set_past l i (x ∷ xs) p y h = set_past (set l i x) (suc i) xs p y (omega arith) ∙ ap (λ (m : List ℕ). sets m (suc i) xs) (set_comm l i p x y (omega arith))

-- the last store of a run made first
pub last_first : (l : List ℕ) (i : ℕ) (xs : List ℕ) (y : ℕ) → sets l i (xs ++ (y ∷ [])) ≡ sets (set l (i + length xs) y) i xs
last_first l i xs y = sym (sets-append xs (y ∷ []) l i (i + length xs) refl) ∙ set_past l i xs (i + length xs) y (omega arith)

-- ---- runs of stores with their places

pub Stored-length : {a b : List ℕ} {at p : ℕ} {xs : List ℕ} → Stored a at xs b p → length b ≡ length a
Stored-length {a} {b} {at} {p} {xs} s = ap length s.bytes ∙ length-sets a at xs

-- what is stored after a run
pub stored_on : {a b : List ℕ} {at p : ℕ} {xs : List ℕ} (ys : List ℕ) → Stored a at xs b p → sets b p ys ≡ sets a at (xs ++ ys)
stored_on {a} {b} {at} {p} {xs} ys s =
    let u = s.after in
    let v = s.bytes in
    rw (u, v) (sets-append xs ys a at (at + length xs) refl)

pub Stored-then : {a b c : List ℕ} {at p q : ℕ} {xs ys : List ℕ} → Stored a at xs b p → Stored b p ys c q → Stored a at (xs ++ ys) c q
Stored-then {a} {b} {c} {at} {p} {q} {xs} {ys} s t =
    record {
      bytes = t.bytes ∙ stored_on ys s;
      after = omega (arith, length-append xs ys, s.after, t.after);
    }

-- ---- a number's digits, the last one first

last_of_run : (l : List ℕ) (at k p n : ℕ) → p ≡ at + k
    → sets (set l p (digit0 + n % 10)) at (last_digits k (n / 10)) ≡ sets l at (last_digits (suc k) n)
last_of_run l at k p n e =
    let long = length-last_digits k (n / 10) in
    rw e (sym (rw long at (last_first l at (last_digits k (n / 10)) (digit0 + n % 10))))

pub digit_first : (l : List ℕ) (at p n : ℕ) → at < p
    → sets (set l (p - 1) (digit0 + n % 10)) at (last_digits (p - 1 - at) (n / 10)) ≡ sets l at (last_digits (p - at) n)
digit_first l at p n h =
    let more : p - at ≡ suc (p - 1 - at) = omega arith in
    rw more (last_of_run l at (p - 1 - at) (p - 1) n (omega arith))
