-- Searches in a table of slots, for any home and any test. What is stored has no empty slot between its home and itself, so a search
-- that meets an empty slot has passed all that could be what it looks for.
use Rattle.std.specs.Prelude.{Some, IsSome, position, slice_range}
use Rattle.std.proofs.lemmas.List.{take_rest}
use Rattle.std.proofs.lemmas.List.Quantifiers.{position-Some}
use Rattle.std.specs.List.{position_or_len}
use Rattle.std.proofs.lemmas.List.Sums.{fails_before_first}
use Rattle.std.proofs.Common.{◌-◌, rules, lt-ltb, get_or, get_or-drop, drop, length-drop, ◌≡◌, ℕ, zero, suc, ◌+◌, ◌<◌, ◌≤◌, Bool, true, false, eqb, ◌≢◌, List, [], ◌∷◌, length, set, replicate, sym, refl, ap, ◌∙◌, subst, ⊎_elim, le_of_suc-le-suc, not-suc-le-zero, arith, get_or-set_other, get_or-set_same, eq-eqb, ne_eqb}
use borrow.Author.Tests.{eqb-false}
use Rattle.rules.proofs.Tests.{clash, or_no}
use Rattle.network.specs.Slots.{slot, filled, stops, Run, Reached, Seated, Passed, Stopped, Room}
use Rattle.network.proofs.Numbers.{below?, same?}

-- how many slots are filled
filled_empty : (x : ℕ) (t : List ℕ) → x ≡ 0 → filled (x ∷ t) ≡ filled t
filled_empty x t e = simp (eq-eqb x 0 e)

filled_more : (x : ℕ) (t : List ℕ) → x ≢ 0 → filled (x ∷ t) ≡ suc (filled t)
filled_more x t n = simp (ne_eqb x 0 n)

filled_grows : (x : ℕ) (t : List ℕ) → filled t ≤ filled (x ∷ t)
filled_grows x t = ⊎_elim (λ z. omega (arith, filled_empty x t z)) (λ z. omega (arith, filled_more x t z)) (same? x 0)

pub filled-set : (t : List ℕ) (r v : ℕ) → r < length t → slot t r ≡ 0 → v ≢ 0 → filled (set t r v) ≡ filled t + 1
filled-set [] r v h e n = absurd (not-suc-le-zero h)
filled-set (x ∷ t) zero v h e n = omega (arith, filled_more v t n, filled_empty x t e)
filled-set (x ∷ t) (suc r) v h e n = ⊎_elim
    (λ z. omega (arith, filled-set t r v (le_of_suc-le-suc h) e n, filled_empty x (set t r v) z, filled_empty x t z))
    (λ z. omega (arith, filled-set t r v (le_of_suc-le-suc h) e n, filled_more x (set t r v) z, filled_more x t z))
    (same? x 0)

pub filled_none : (n : ℕ) → filled (replicate n 0) ≡ 0
filled_none zero = refl
filled_none (suc n) = filled_none n

pub slot_none : (n s : ℕ) → slot (replicate n 0) s ≡ 0
slot_none zero s = refl
slot_none (suc n) zero = refl
slot_none (suc n) (suc s) = slot_none n s

-- a run of filled slots is no longer than the count of filled slots
run_short : (t : List ℕ) (h s : ℕ) → s ≤ length t → Run t h s → s ≤ h + filled t
run_short [] h s b f = omega arith
run_short (x ∷ t) h zero b f = omega arith
run_short (x ∷ t) zero (suc s) b f = omega (
  arith,
  filled_more x t (f 0 (omega arith) (omega arith)),
  run_short t zero s (omega arith) (λ u g l. f (suc u) (omega arith) (omega arith)),
)
run_short (x ∷ t) (suc h) (suc s) b f = omega (
  arith,
  filled_grows x t,
  run_short t h s (omega arith) (λ u g l. f (suc u) (omega arith) (omega arith)),
)

-- a search from h on by the library's `position`: where it ends, and that it ends inside the table
module _ (hit : ℕ → Bool) (t : List ℕ) (h : ℕ) (within : h ≤ length t) where
  at : (u : ℕ) → h ≤ u → get_or (drop h t) (u - h) 0 ≡ slot t u
  at u g = get_or-drop h t (u - h) 0 ∙ ap (slot t) (omega arith)

  passes_none : (u : ℕ) → h ≤ u → stops hit (get_or (drop h t) (u - h) 0) ≡ false → (slot t u ≢ 0) × (hit (slot t u) ≡ false)
  passes_none u g e =
      let n : (eqb (slot t u) 0 ≡ false) × (hit (slot t u) ≡ false) = or_no _ _ (sym (ap (stops hit) (at u g)) ∙ e) in
      (eqb-false _ _ n.0, n.1)

  pub stopped : (k : ℕ) → position (stops hit) (slice_range t h (length t)) ≡ Some k → Stopped hit t h (h + k)
  stopped k e =
      let p = position-Some (stops hit) (drop h t) k 0 (rw (take_rest t h) at e) in
      let low : k < length t - h = rw length-drop at p.0 in
      record {
        passed = record {
          start = omega arith;
          run = λ u g l. (passes_none u g (p.2 (u - h) (omega arith))).0;
          missed = λ u g l. (passes_none u g (p.2 (u - h) (omega arith))).1;
        };
        within = omega arith;
        stop = sym (ap (stops hit) (get_or-drop h t k 0)) ∙ p.1;
      }

  stops_some : Room t h → IsSome (position (stops hit) (drop h t))
  stops_some room = ⊎_elim
      (λ l. let e = lt-ltb _ _ l in rw e (search rules))
      (λ g. absurd (omega (arith, run_short t h (length t) (omega arith) (λ u a l. (passes_none u a (fails_before_first (stops hit) (drop h t) (u - h) 0 (omega (arith, length-drop h t)))).0), room.room)))
      (below? (position_or_len (stops hit) (drop h t)) (length (drop h t)))

  pub stops_inside : Room t h → IsSome (position (stops hit) (slice_range t h (length t)))
  stops_inside room = rw (take_rest t h) (stops_some room)

-- a slot that was set
pub set_here : (t : List ℕ) (r v s : ℕ) → r < length t → s ≡ r → slot (set t r v) s ≡ v
set_here t r v s h e = ap (slot (set t r v)) e ∙ get_or-set_same t r v 0 h

pub set_other : (t : List ℕ) (r v s : ℕ) → s ≢ r → slot (set t r v) s ≡ slot t s
set_other t r v s n = get_or-set_other t r s v 0 n

-- a value put into an empty slot at the end of a run from its home
pub put : (home : ℕ → ℕ) (t : List ℕ) (r v : ℕ) → Seated home t → r < length t → v ≢ 0 → home v ≤ r
    → Run t (home v) r → Seated home (set t r v)
put home t r v seated within some le run s ns = ⊎_elim
    (λ e. let q : slot (set t r v) s ≡ v = set_here t r v s within e in
    record {
      after = omega (arith, ap home q);
      run = λ u g l z. run u (omega (arith, ap home q)) (omega arith) (sym (set_other t r v u (λ f. omega arith)) ∙ z);
    })
    (λ n. let q : slot (set t r v) s ≡ slot t s = set_other t r v s n in
    let old : Reached home t s = seated s (λ z. ns (q ∙ z)) in
    record {
      after = omega (arith, ap home q, old.after);
      run = λ u g l z. ⊎_elim
          (λ f. some (sym (set_here t r v u within f) ∙ z))
          (λ f. old.run u (omega (arith, ap home q)) l (sym (set_other t r v u f) ∙ z))
          (same? u r);
    })
    (same? s r)

-- a search that stops at an empty slot has passed all that has its home
pub absent : (home : ℕ → ℕ) {hit : ℕ → Bool} {t : List ℕ} {h r : ℕ} → Seated home t → Passed hit t h r → slot t r ≡ 0
    → (s : ℕ) → slot t s ≢ 0 → home (slot t s) ≡ h → hit (slot t s) ≡ false
absent home {hit} {t} {h} {r} seated p z s ns eh =
    let old : Reached home t s = seated s ns in
    ⊎_elim
    (λ lt. p.missed s (omega (arith, old.after)) lt)
    (λ ge. ⊎_elim
    (λ e. absurd (ns (ap (slot t) e ∙ z)))
    (λ n. absurd (old.run r (omega (arith, p.start)) (omega arith) z))
    (same? s r))
    (below? s r)

-- what stopped a search at a slot that is not empty
pub Stopped-hit : {hit : ℕ → Bool} {t : List ℕ} {h r : ℕ} → Stopped hit t h r → slot t r ≢ 0 → hit (slot t r) ≡ true
Stopped-hit {hit} {t} {h} {r} p n = simp (ne_eqb (slot t r) 0 n) at p.stop

-- the home by its other name
pub at_home : {hit : ℕ → Bool} {t : List ℕ} {h g r : ℕ} → h ≡ g → Stopped hit t h r → Stopped hit t g r
at_home {hit} {t} {h} {g} {r} e p = subst (λ (k : ℕ). Stopped hit t k r) e p

pub never : {X : Type 0} (b : Bool) → b ≡ true → b ≡ false → X
never b p q = clash (cc)
