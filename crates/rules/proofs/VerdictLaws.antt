-- Verdicts in order: which of two refuses, and what a verdict that passes says. By cases on the tests and verdicts.
use Prim.Native.Nat.{ℕ}
use mathlib.Core.Path.{◌≡◌, refl}
use mathlib.Core.Bool.{Bool, true, false, cond}
use Rattle.rules.specs.Replies.{Verdict}
use Rattle.std.specs.Prelude.{Err, Ok, Result}
use Rattle.rules.specs.declared.Refusal.{Refusal}
use Rattle.rules.specs.Entry.{and_then, unless, verdict_of}
use Rattle.rules.proofs.Tests.{clash}

-- Two in order --------------------------------------------------------------------------------------------------------

pub then_assoc : (u v w : Verdict) → and_then (and_then u v) w ≡ and_then u (and_then v w)
then_assoc (Ok tt) v w = refl
then_assoc (Err r) v w = refl

-- what comes after a refusal does not count
pub then_same : (v w x : Verdict) → (v ≡ Ok tt → w ≡ x) → and_then v w ≡ and_then v x
then_same (Ok tt) w x f = f refl
then_same (Err r) w x f = refl

pub then_passes : (v w : Verdict) → (v ≡ Ok tt → w ≡ Ok tt) → and_then v w ≡ v
then_passes (Ok tt) w f = f refl
then_passes (Err r) w f = refl

-- the first of two refuses
pub stopped : (v w : Verdict) (r : Refusal) → v ≡ Err r → v ≡ and_then v w
stopped (Ok tt) w r e = cc
stopped (Err s) w r e = refl

-- a test comes first
pub test_holds : (t : Bool) (r : Refusal) (v : Verdict) → t ≡ true → and_then (unless t r) v ≡ v
test_holds t r v e = rw e

pub test_fails : (t : Bool) (r : Refusal) (v : Verdict) → t ≡ false → and_then (unless t r) v ≡ Err r
test_fails t r v e = rw e

-- What passes ---------------------------------------------------------------------------------------------------------

pub both_pass : (v w : Verdict) → and_then v w ≡ Ok tt → (v ≡ Ok tt) × (w ≡ Ok tt)
both_pass (Ok tt) w e = (refl, e)
both_pass (Err r) w e = (cc, cc)

pub test_passes : (t : Bool) (v : Verdict) (r : Refusal) → cond t v (Err r) ≡ Ok tt → (t ≡ true) × (v ≡ Ok tt)
test_passes true v r e = (refl, e)
test_passes false v r e = (cc, cc)

-- a refusal where the test holds
pub not_refused : (t : Bool) (r : Refusal) (v : Verdict) → cond t (Err r) v ≡ Ok tt → (t ≡ false) × (v ≡ Ok tt)
not_refused true r v e = (cc, cc)
not_refused false r v e = (refl, e)

pub not_passes : (r : Refusal) → (let v : Verdict = Err r in v ≡ Ok tt) → ⊥
not_passes r e = clash (cc)

-- a check that refuses nothing accepts
pub accepted : (c : Result ℕ Refusal) → verdict_of c ≡ Ok tt → (n : ℕ) × (c ≡ Ok n)
accepted (Ok n) e = (n, refl)
accepted (Err r) e = absurd (not_passes r e)
