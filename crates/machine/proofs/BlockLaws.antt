-- The flags: a block that is passed over has nothing that waits, and one that was searched in vain may lose its flag.
use Prim.Native.Nat.{ℕ, ◌+◌, ◌*◌, ◌/◌, ◌≤◌, ◌<◌, min}
use mathlib.Core.Path.{◌≡◌, sym, ◌∙◌}
use mathlib.Core.Logic.{◌≢◌}
use mathlib.Core.Bool.{Bool, false}
use mathlib.Core.List.{List}
use native.Mathlib.Omega.{arith}
use native.Mathlib.Decide.{ℕ_discrete, dec_lt}
use lib.ListN.{get_or, set, length-set}
use lib.Seq.{get_or-set_other}
use Rattle.machine.specs.Room.{flag_at, waiting_word, Flagged}
use Rattle.std.specs.Prelude.{Option, Some, None, MatchOption}
use Rattle.machine.specs.Steps.{NoneWaits, FirstWaits, FirstBetween}

-- the search to the end of a block, or to that of the directions
pub first_between : (m : ℕ) (r : List ℕ) (i e : ℕ) {s : ℕ} → s ≡ min e (2 * m) → (o : Option ℕ)
    → MatchOption o ((k : ℕ) → i ≤ k → k < s → waiting_word m r k ≡ 0)
    (λ k. (i ≤ k) × (k < s) × (waiting_word m r k ≢ 0) × ((j : ℕ) → i ≤ j → j < k → waiting_word m r j ≡ 0))
    → FirstBetween m r i e o
first_between m r i e end None h = record { none = λ j p q d. h j p (omega (arith, end)) }
first_between m r i e end (Some k) h =
    record { after = h.0; before = omega (arith, end, h.1); direction = omega (arith, end, h.1); none = λ j p q. h.3 j p q; some = h.2 }

module _ {m : ℕ} {r : List ℕ} where
  pub waits_join : {a b e : ℕ} → NoneWaits m r a b → NoneWaits m r b e → NoneWaits m r a e
  waits_join {a} {b} {e} g h = record { none = λ j p q d. go j p q d (dec_lt j b) }
    where
      go : (j : ℕ) → a ≤ j → j < e → j < 2 * m → Dec (j < b) → waiting_word m r j ≡ 0
      go j p q d (yes l) = g.none j p l d
      go j p q d (no l) = h.none j (omega (arith, l)) q d

  -- one more block is idle
  pub waits_past : (b : ℕ) → NoneWaits m r 0 (48 * b) → NoneWaits m r (48 * b) (48 * b + 48) → NoneWaits m r 0 (48 * (b + 1))
  waits_past b g h = (let e : 48 * (b + 1) ≡ 48 * b + 48 = omega arith in rw e (waits_join g h))

  pub waits_first : {b e k : ℕ} → NoneWaits m r 0 b → FirstWaits m r b e k → FirstWaits m r 0 (2 * m) k
  waits_first {b} {e} {k} g h =
      record { after = omega arith; before = h.direction; direction = h.direction; none = λ j p q. go j q (dec_lt j b); some = h.some }
    where
      go : (j : ℕ) → j < k → Dec (j < b) → waiting_word m r j ≡ 0
      go j q (yes l) = g.none j (omega arith) l (omega (arith, h.direction))
      go j q (no l) = h.none j (omega (arith, l)) q

  module _ {f : List Bool} (g : Flagged m r f) where
    -- a block without a flag
    pub waits_flag : (b : ℕ) → get_or f b false ≡ false → NoneWaits m r (48 * b) (48 * b + 48)
    waits_flag b e = record { none = λ j p q d. (let at : j / 48 ≡ b = omega arith in g.idle j d (rw at e)) }

    pub waits_all : NoneWaits m r 0 (48 * 64) → NoneWaits m r 0 (2 * m)
    waits_all h = record { none = λ j p q d. h.none j p (omega (arith, g.few)) d }

    pub flag_down : (b : ℕ) → NoneWaits m r (48 * b) (48 * b + 48) → Flagged m r (set f b false)
    flag_down b h = record { few = g.few; flags = simp length-set g.flags; room = g.room; idle = λ j i z. go j i z (ℕ_discrete (j / 48) b) }
      where
        go : (j : ℕ) → j < 2 * m → flag_at (set f b false) j ≡ false → Dec (j / 48 ≡ b) → waiting_word m r j ≡ 0
        go j i z (yes p) = h.none j (omega (arith, p)) (omega (arith, p)) i
        go j i z (no p) = g.idle j i (sym (get_or-set_other f b (j / 48) false false p) ∙ z)

pub ruleset blocks = (waits_past, waits_first, waits_flag, waits_all, flag_down)
