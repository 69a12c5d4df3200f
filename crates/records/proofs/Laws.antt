-- Links by value of which there are too many: what is said of every list of too many links is said of what they hold.
use mathlib.Core.Path.{◌≡◌, sym, ◌∙◌, ap, subst}
use Prim.Native.Nat.{ℕ, ◌<◌, ◌≤◌}
use native.Mathlib.Omega.{arith}
use mathlib.Core.List.{List}
use lib.ListN.{length}
use Rattle.rules.specs.declared.Link.{Link}
use Rattle.rules.specs.Network.{flat}
use Rattle.std.specs.Prelude.{Err, Result}
use Rattle.rules.specs.declared.Refusal.{Refusal}
use Rattle.rules.specs.declared.Refusal.TheVariants.{OverLimit}
use Rattle.records.specs.Entries.{HoldsMany, Holding}
use Rattle.records.specs.declared.Words.{Words}

pub not_both : (n : ℕ) → n ≤ 1536 → 1536 < n → ⊥
not_both n l g = omega arith

-- an entry over `Words` of too many links
pub Holding-many : (w : Words) (P : List ℕ → Type 0) → 1536 < w.count → ((ls : List Link) → 1536 < length ls → P (flat ls)) → Holding w P
Holding-many w P g h = record { few = λ l. absurd (not_both w.count l g); many = λ _. h }

-- .. and a function that passes on the refusal of too many
pub Holding-refused : {A : Type 0} (w : Words) (P : Result A Refusal → List ℕ → Type 0) {why : Refusal} {r : Result A Refusal} → HoldsMany w why → r ≡ Err why
    → ((ls : List Link) → 1536 < length ls → P (Err OverLimit) (flat ls)) → Holding w (P r)
Holding-refused w P {why} {r} h e many =
    Holding-many w (P r) h.many (λ ls g. subst (λ (q : Result _ Refusal). P q (flat ls)) (sym (e ∙ ap Err h.refused)) (many ls g))
