-- What the server takes out of a reply is what was put in: the fields of the packed number do not meet. By division.
--
--   number_of v         the refusal's number, 0 for accepted
use Prim.Native.Nat.{ℕ, ◌+◌, ◌*◌, ◌/◌, ◌%◌, ◌≤◌, ◌<◌}
use mathlib.Core.Path.{◌≡◌}
use mathlib.Core.Bool.{Bool, true, false}
use native.Mathlib.Omega.{arith}
use Rattle.std.specs.Prelude.{Err, Ok}
use Rattle.rules.specs.Replies.{Verdict}
use Rattle.rules.specs.declared.Refusal.{Refusal}
use Rattle.rules.specs.Refusals.{refusal_number, refusal_place}
use Rattle.storefront.specs.Page.{packed, packed_no, quiet_bit}
use Rattle.storefront.specs.Steps.{Placed}
use Rattle.storefront.proofs.PlaceLaws.{Fits, number_range}

abbrev pub number_of : Verdict → ℕ
number_of (Ok tt) = 0
number_of (Err why) = refusal_number why

-- 'The reply's top byte is the refusal number, 0 for accepted'
pub number_back : (v : Verdict) (value : ℕ) → Fits v → value < 72057594037927936 → packed v value / 72057594037927936 ≡ number_of v
number_back (Ok tt) value f h = omega arith
number_back (Err why) value f h = omega arith

-- 'bits 28 to 55 are the place', and the reply is a number of 64 bits
pub place_back : (why : Refusal) → Placed why → (packed_no why / 268435456 % 268435456 ≡ refusal_place why) × (packed_no why < 18446744073709551616)
place_back why h = (omega arith, omega (arith, number_range why))

-- 'deliveries + idle * 2^20 + quiet * 2^40'
pub counts_back : (made idle : ℕ) (quiet : Bool) → made ≤ 131072 → idle ≤ 65536
    → ((made + 1048576 * idle + quiet_bit quiet) % 1048576 ≡ made) × ((made + 1048576 * idle + quiet_bit quiet) / 1048576 % 1048576 ≡ idle)
    × ((made + 1048576 * idle + quiet_bit quiet) / 1099511627776 * 1099511627776 ≡ quiet_bit quiet)
counts_back made idle true h k = (omega arith, omega arith, omega arith)
counts_back made idle false h k = (omega arith, omega arith, omega arith)
