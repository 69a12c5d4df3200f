-- Tables of slots: what is stored stands at or after its home, with no empty slot, 0, in between.
--
--   slot t s           what stands in slot s of table t
--   filled t           how many slots are not empty
--   spread_of homes m   a home below homes, from a number m
--   Homed homes        there are homes, and not too many to be spread over
--   stops hit v        a search for what passes the test hit ends at slot value v: the slot is empty or v passes
--   Run t h s          the slots from h up to s are not empty
--   Seated home t      what is stored stands at or after its home, with no empty slot in between
--   Passed hit t h s   a search from h came to s: no slot before is empty or passes the test hit
--   Stopped hit t h s  and stopped there
--   Stored t v         v stands somewhere in t
--   Room t h           a search from h finds an empty slot
use Rattle.std.specs.Prelude.{◌≡◌, ℕ, suc, ◌+◌, ◌*◌, ◌/◌, ◌%◌, ◌<◌, ◌≤◌, Bool, true, false, cond, ◌||◌, ◌≢◌, List, [], ◌∷◌, length, ◌==◌, slice_index}

abbrev pub slot : List ℕ → ℕ → ℕ
slot t s = slice_index t s

abbrev pub filled : List ℕ → ℕ
filled [] = 0
filled (x ∷ t) = cond (x == 0) (filled t) (suc (filled t))

abbrev pub stops : (ℕ → Bool) → ℕ → Bool
stops hit v = v == 0 || hit v

unfoldable pub spread_of : ℕ → ℕ → ℕ
spread_of homes m = m % 4294967296 * homes / 4294967296

pub record Homed (homes : ℕ) : Type 0 where
  pub some : 0 < homes
  pub few : homes ≤ 4294967296

abbrev pub Run : List ℕ → ℕ → ℕ → Type 0
Run t h s = (u : ℕ) → h ≤ u → u < s → slot t u ≢ 0

pub record Reached (home : ℕ → ℕ) (t : List ℕ) (s : ℕ) : Type 0 where
  pub after : home (slot t s) ≤ s
  pub run : Run t (home (slot t s)) s

abbrev pub Seated : (ℕ → ℕ) → List ℕ → Type 0
Seated home t = (s : ℕ) → slot t s ≢ 0 → Reached home t s

pub record Passed (hit : ℕ → Bool) (t : List ℕ) (h s : ℕ) : Type 0 where
  pub start : h ≤ s
  pub run : Run t h s
  pub missed : (u : ℕ) → h ≤ u → u < s → hit (slot t u) ≡ false

pub record Stopped (hit : ℕ → Bool) (t : List ℕ) (h s : ℕ) : Type 0 where
  pub passed : Passed hit t h s
  pub within : s < length t
  pub stop : stops hit (slot t s) ≡ true

pub record Stored (t : List ℕ) (v : ℕ) : Type 0 where
  pub place : ℕ
  pub is : slot t place ≡ v
  pub some : v ≢ 0

pub record Room (t : List ℕ) (h : ℕ) : Type 0 where
  pub room : h + filled t < length t
