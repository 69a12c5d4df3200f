-- Whole runs: a run that ends quiet ends on the stable routing, whatever the choices. What holds at the fresh start and is kept by
-- every choice, idle ones included, holds after any run, so every run is sound.
use Prim.Native.Nat.{ℕ, zero, suc, ◌≤◌, ◌<◌}
use mathlib.Core.Path.{◌≡◌, refl, ◌∙◌, ap}
use mathlib.Core.Logic.{inl, inr, ⊎_elim, ◌↔◌}
use mathlib.Core.Bool.{true}
use mathlib.Core.List.{List, [], ◌∷◌}
use native.Mathlib.Omega.{arith}
use Rattle.rules.specs.declared.TypeLength.{TypeLength}
use Rattle.rules.specs.Lists.{In}
use Rattle.rules.specs.Offers.{Arc}
use Rattle.rules.specs.Stable.{Routing, Stable}
use Rattle.rules.specs.Solve.{stable_of}
use Rattle.rules.specs.Machine.{Waiting, nothing, waits, State, Run, started, delivered, taken, chosen, Lowest, quiet, on, lowest_or, lowest, onward, further, run_of, is_quiet, Quiet}
use Rattle.rules.proofs.ArcLaws.{Directed, Numbered, numbered_range}
use Rattle.rules.proofs.Unique.{Stable-unique}
use Rattle.rules.proofs.Exists.{stable_of-Stable}
use Rattle.rules.proofs.MachineLaws.{Sound, fresh-Sound, deliver-Sound, Quiet-Stable}

-- the lowest waiting direction: there is none, or it is one
data LowestOf (net : List Arc) (w : ℕ → Waiting) : Lowest → Type 0 where
  no_wait : ((a : Arc) → In a net → w a.direction ≡ nothing) → LowestOf net w quiet
  a_wait : (a : Arc) (p : TypeLength) → In a net → w a.direction ≡ waits p → LowestOf net w (on a.direction p)

lowest_is : (net : List Arc) (w : ℕ → Waiting) → LowestOf net w (lowest net w)
unfolding lowest
lowest_is [] w = no_wait (λ a m. absurd m)
lowest_is (b ∷ net) w = go (w b.direction) refl (lowest_is net w)
  where
    go : {g : Lowest} (x : Waiting) → w b.direction ≡ x → LowestOf net w g → LowestOf (b ∷ net) w (lowest_or b.direction g x)
    go (waits p) e r = a_wait b p (inl refl) e
    go nothing e (no_wait r) = no_wait (λ a m. ⊎_elim (λ q. ap (λ (c : Arc). w c.direction) q ∙ e) (r a) m)
    go nothing e (a_wait a p m f) = a_wait a p (inr m) f

pub lowest-quiet : (net : List Arc) (s : State) → (lowest net s.waiting ≡ quiet) ↔ Quiet net s
lowest-quiet net s = go (lowest_is net s.waiting)
  where
    go : {g : Lowest} → LowestOf net s.waiting g → (g ≡ quiet) ↔ Quiet net s
    go (no_wait q) = (λ e. q, λ k. refl)
    go (a_wait a p m f) = (λ e b n. cc, λ k. (let z = k a m in cc))

pub is_quiet-quiet : (g : Lowest) → is_quiet g ≡ true → g ≡ quiet
is_quiet-quiet quiet e = refl
is_quiet-quiet (on i p) e = cc

-- directions numbered in list order: none below it waits
pub lowest_first : (n : ℕ) (net : List Arc) (w : ℕ → Waiting) (i : ℕ) (p : TypeLength) → Numbered n net → lowest net w ≡ on i p
    → (a : Arc) → In a net → a.direction < i → w a.direction ≡ nothing
unfolding lowest
lowest_first n [] w i p h e a m l = elim m [ ]
lowest_first n (b ∷ net) w i p h e a m l =
    go (w b.direction) refl e m (λ f k. lowest_first (suc n) net w i p h.1 f a k l)
  where
    go : (x : Waiting) → w b.direction ≡ x → lowest_or b.direction (lowest net w) x ≡ on i p → In a (b ∷ net)
        → (lowest net w ≡ on i p → In a net → w a.direction ≡ nothing) → w a.direction ≡ nothing
    go nothing f g (inl q) rest = ap (λ (c : Arc). w c.direction) q ∙ f
    go nothing f g (inr k) rest = rest g k
    go (waits q) f g k rest =
        let o : b.direction ≡ i = cc in
        absurd (omega (arith, numbered_range n (b ∷ net) h a k))

-- one choice after the other
module _ (net : List Arc) (d : ℕ) (P : Run → Type 0)
    (step : (r : Run) (i : ℕ) (w : Waiting) → r.state.waiting i ≡ w → P r → P (taken net d i r w)) where
  by_chosen : (choices : List ℕ) (r : Run) → P r → P (chosen net d choices r)
  unfolding chosen
  by_chosen [] r h = h
  by_chosen (i ∷ choices) r h = by_chosen choices (taken net d i r (r.state.waiting i)) (step r i (r.state.waiting i) refl h)

  by_further : (n : ℕ) (r : Run) → P r → P (further net d n r)
  unfolding further
  by_further zero r h = h
  by_further (suc n) r h = go (λ s k. by_further n s k) (lowest_is net r.state.waiting)
    where
      go : ((s : Run) → P s → P (further net d n s)) → {g : Lowest} → LowestOf net r.state.waiting g
          → P (onward net d (further net d n) r g)
      go next (no_wait q) = h
      go next (a_wait a p m e) = next (delivered net d a.direction p r) (step r a.direction (waits p) e h)

  pub by_run : P (started net d) → (choices : List ℕ) (n : ℕ) → P (run_of net d choices n)
  unfolding run_of
  by_run h choices n = by_further n (chosen net d choices (started net d)) (by_chosen choices (started net d) h)

pub run_sound : (net : List Arc) → Directed net → (d : ℕ) (choices : List ℕ) (n : ℕ) → Sound net d (run_of net d choices n).state
unfolding started
run_sound net unique d = by_run net d (λ r. Sound net d r.state) step (fresh-Sound net unique d)
  where
    step : (r : Run) (i : ℕ) (w : Waiting) → r.state.waiting i ≡ w → Sound net d r.state → Sound net d (taken net d i r w).state
    step r i nothing e h = h
    step r i (waits p) e h = deliver-Sound net unique d i p r.state h e

-- where nothing waits the lines are the stable routing, and no other
pub quiet_only : (net : List Arc) → ((a : Arc) → In a net → 1 ≤ a.cost) → (d : ℕ) (s : State) → Sound net d s → Quiet net s
    → (R : Routing) → Stable net d R → s.lines ≡ R
quiet_only net pos d s ok q R r = Stable-unique net pos d s.lines R (Quiet-Stable net d s ok q) r

pub run_quiet : (net : List Arc) → Directed net → ((a : Arc) → In a net → 1 ≤ a.cost) → (d : ℕ) (choices : List ℕ) (n : ℕ)
    → is_quiet (lowest net (run_of net d choices n).state.waiting) ≡ true → (run_of net d choices n).state.lines ≡ stable_of net d
run_quiet net unique pos d choices n q =
    let s = (run_of net d choices n).state in
    let none = (lowest-quiet net s).0 (is_quiet-quiet (lowest net s.waiting) q) in
    quiet_only net pos d s (run_sound net unique d choices n) none (stable_of net d) (stable_of-Stable net d)
