-- Places: where x stands in a list of different numbers is the one index that holds x, and word k of the places is that of the end that
-- tells over direction k. By induction along the lists.
use Prim.Native.Nat.{ℕ, zero, suc, ◌+◌, ◌*◌, ◌<◌, ◌≤◌}
use mathlib.Core.Path.{◌≡◌, refl, sym, ◌∙◌, ap}
use mathlib.Core.Logic.{inl, inr, ◌≢◌}
use mathlib.Core.List.{List, [], ◌∷◌, map}
use native.Mathlib.Omega.{arith}
use native.Mathlib.Decide.{ℕ_discrete}
use lib.ListN.{length, get_or, length-map, length-take}
use borrow.Author.Tests.{eq-eqb, ne_eqb}
use Rattle.rules.specs.declared.Link.{Link}
use Rattle.rules.specs.Lists.{In, Without, Distinct}
use Rattle.rules.specs.Network.{ases_of}
use Rattle.offers.specs.Ways.{ends_of, index_in, places_of, no_link}
use Rattle.offers.specs.Steps.{Placed}

-- what stands at an index of a list is none of those that it lacks
pub without_at : {A : Type 0} (d x : A) (l : List A) → Without x l → (i : ℕ) → i < length l → x ≢ get_or l i d
without_at d x [] w i h = absurd (omega arith)
without_at d x (y ∷ l) w zero h = w.0
without_at d x (y ∷ l) w (suc i) h = without_at d x l w.1 i (omega arith)

here : (x u : ℕ) (us : List ℕ) → x ≡ u → index_in (u ∷ us) x ≡ 0
unfolding index_in
here x u us e = cc (eq-eqb x u e)

later : (x u : ℕ) (us : List ℕ) → x ≢ u → index_in (u ∷ us) x ≡ suc (index_in us x)
unfolding index_in
later x u us ne = cc (ne_eqb x u ne)

-- a member stands at its place
pub place-In : (us : List ℕ) (x : ℕ) → In x us → (index_in us x < length us) × (get_or us (index_in us x) 0 ≡ x)
place-In [] x m = elim m [ ]
place-In (u ∷ us) x m = go (ℕ_discrete x u) m (place-In us x)
  where
    go : Dec (x ≡ u) → In x (u ∷ us) → (In x us → (index_in us x < length us) × (get_or us (index_in us x) 0 ≡ x))
        → (index_in (u ∷ us) x < suc (length us)) × (get_or (u ∷ us) (index_in (u ∷ us) x) 0 ≡ x)
    go (yes e) n rest = rw (here x u us e) (omega arith, sym e)
    go (no ne) (inl e) rest = absurd (ne e)
    go (no ne) (inr n) rest = rw (later x u us ne) (let r = rest n in (omega arith, r.1))

-- and of different numbers nowhere else
pub place_at : (us : List ℕ) → Distinct us → (i : ℕ) → i < length us → index_in us (get_or us i 0) ≡ i
place_at [] d i h = absurd (omega arith)
place_at (u ∷ us) d zero h = here u u us refl
place_at (u ∷ us) d (suc i) h =
    later (get_or us i 0) u us (λ e. without_at 0 u us d.0 i (omega arith) (sym e)) ∙ ap suc (place_at us d.1 i (omega arith))

-- the ends, in list order
pub ends_length : (ls : List Link) → length (ends_of ls) ≡ 2 * length ls
unfolding ends_of
ends_length [] = refl
ends_length (l ∷ ls) = omega (arith, ends_length ls)

pub two_on : (i k : ℕ) → 2 * suc i + k ≡ suc (suc (2 * i + k))
two_on i k = omega arith

pub ends_at : (ls : List Link) (i : ℕ)
    → (get_or (ends_of ls) (2 * i + 0) 0 ≡ (get_or ls i no_link).a) × (get_or (ends_of ls) (2 * i + 1) 0 ≡ (get_or ls i no_link).b)
unfolding ends_of
ends_at [] i = (refl, refl)
ends_at (l ∷ ls) zero = (refl, refl)
ends_at (l ∷ ls) (suc i) = rw (two_on i 0, two_on i 1) (ends_at ls i)

-- the places of the ends
get_d_map : (f : ℕ → ℕ) (l : List ℕ) (k : ℕ) → k < length l → get_or (map f l) k 0 ≡ f (get_or l k 0)
get_d_map f [] k h = absurd (omega arith)
get_d_map f (x ∷ l) zero h = refl
get_d_map f (x ∷ l) (suc k) h = get_d_map f l k (omega arith)

pub places_length : (us : List ℕ) (ls : List Link) → length (places_of us ls) ≡ 2 * length ls
unfolding places_of
places_length us ls = length-map (ends_of ls) (index_in us) ∙ ends_length ls

pub Placed-long : (ls : List Link) (ps : List ℕ) → Placed ls ps → 2 * length ls ≤ length ps
Placed-long ls ps e = omega (arith, length-take (2 * length ls) ps, ap length e, places_length (ases_of ls) ls)

pub places_at : (us : List ℕ) (ls : List Link) (k : ℕ) → k < 2 * length ls → get_or (places_of us ls) k 0 ≡ index_in us (get_or (ends_of ls) k 0)
unfolding places_of
places_at us ls k h = get_d_map (index_in us) (ends_of ls) k (omega (arith, ends_length ls))
