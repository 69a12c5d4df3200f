-- One flag, and many: what is set, what is another's, and what a filled list says.
use Prim.Native.Nat.{ℕ, ◌<◌}
use mathlib.Core.Path.{◌≡◌, ap}
use mathlib.Core.Logic.{◌≢◌}
use mathlib.Core.List.{List}
use native.Mathlib.Omega.{arith}
use lib.Dec.{eqb}
use lib.ListN.{length, set, replicate}
use lib.Seq.{get_or-set_same, get_or-set_other}
use Rattle.std.proofs.lemmas.List.{get_or-replicate}
use Rattle.rules.specs.Lists.{In}
use Rattle.findings.specs.Flags.{ases_in, place, flag_at, flag}
use Rattle.findings.proofs.TellerLaws.{place_below}

pub set_flag : (t : List ℕ) (k v : ℕ) → k < length t → flag_at (set t k v) k ≡ eqb v 1
set_flag t k v h = ap (λ (w : ℕ). eqb w 1) (get_or-set_same t k v 0 h)

pub set_other : (t : List ℕ) (k v j : ℕ) → j ≢ k → flag_at (set t k v) j ≡ flag_at t j
set_other t k v j ne = ap (λ (w : ℕ). eqb w 1) (get_or-set_other t k j v 0 ne)

-- where every flag is the same
pub filled_flag : (n v k : ℕ) → k < n → flag_at (replicate n v) k ≡ eqb v 1
filled_flag n v k l = ap (λ (w : ℕ). eqb w 1) (get_or-replicate n k v 0 l)

pub filled : (ws : List ℕ) (n v x : ℕ) → n ≡ length (ases_in ws) → In x (ases_in ws) → flag ws (replicate n v) x ≡ eqb v 1
filled ws n v x e m = filled_flag n v (place ws x) (omega (arith, place_below ws x m))
