-- How far the place of a refusal can go: the check of a list of links refuses at one of its links. By induction along the list.
--
--   Below b v          the verdict v refuses nothing, or at a place below b
use Prim.Native.Nat.{ℕ, suc, ◌+◌, ◌≤◌, ◌<◌}
use mathlib.Core.Path.{◌≡◌, refl}
use mathlib.Core.Bool.{Bool, ◌||◌}
use mathlib.Core.List.{List, [], ◌∷◌}
use native.Mathlib.Omega.{arith}
use lib.Dec.{ltb, eqb}
use lib.ListN.{length}
use borrow.Author.Tests.{ltb-false}
use Rattle.rules.specs.Replies.{Verdict}
use Rattle.std.specs.Prelude.{Err, Ok, Result}
use Rattle.rules.specs.declared.Link.{Link}
use Rattle.rules.specs.declared.Limits.{Limits}
use Rattle.rules.specs.declared.Refusal.{Refusal}
use Rattle.rules.specs.Lists.{any_of}
use Rattle.rules.specs.Refusals.{refusal_place}
use Rattle.rules.specs.Network.{with_ends}
use Rattle.rules.specs.Checks.{is_same_pair, check_from, check_links}
use Rattle.rules.specs.Entry.{and_then, unless, verdict_of}
use Rattle.rules.proofs.Tests.{by_cond}

abbrev pub Below : ℕ → Verdict → Type 0
Below b (Ok tt) = Unit {0}
Below b (Err why) = refusal_place why < b

-- the second of two need be below only where the first passes
pub then_Below : (b : ℕ) (v w : Verdict) → Below b v → (v ≡ Ok tt → Below b w) → Below b (and_then v w)
then_Below b (Ok tt) w f g = g refl
then_Below b (Err why) w f g = f

pub unless-Below : (b : ℕ) (test : Bool) (why : Refusal) → refusal_place why < b → Below b (unless test why)
unless-Below b test why h = by_cond (Below b) test (Ok tt) (Err why) (λ e. tt) (λ e. h)

from_Below : (b : ℕ) (limits : Limits) (seen : List Link) (known : List ℕ) (i : ℕ) (ls : List Link) → i + length ls ≤ b
    → Below b (verdict_of (check_from limits seen known i ls))
unfolding check_from
from_Below b limits seen known i [] h = tt
from_Below b limits seen known i (l ∷ ls) h =
    let P : Result ℕ Refusal → Type 0 = (λ c. Below b (verdict_of c)) in
    by_cond P (eqb l.a 0 || eqb l.b 0) _ _ (λ e. omega arith)
    (λ e. by_cond P (ltb 1 l.relation) _ _ (λ e. omega arith)
    (λ e. by_cond P (eqb l.a l.b) _ _ (λ e. omega arith)
    (λ e. by_cond P (any_of (is_same_pair l) seen) _ _ (λ e. omega arith)
    (λ e. by_cond P (ltb limits.ases (length (with_ends l known))) _ _ (λ e. omega arith)
    (λ e. from_Below b limits (l ∷ seen) (with_ends l known) (suc i) ls (omega arith))))))

pub check_Below : (b : ℕ) (limits : Limits) (ls : List Link) → 0 < b → limits.links ≤ b → Below b (verdict_of (check_links limits ls))
unfolding check_links
check_Below b limits ls h k =
    by_cond (λ (c : Result ℕ Refusal). Below b (verdict_of c)) (ltb limits.links (length ls)) _ _ (λ e. h)
    (λ e. from_Below b limits [] [] 0 ls (omega (arith, ltb-false limits.links (length ls) e)))
