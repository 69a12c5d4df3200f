-- The two findings.
--
--   provides p c l     link l says that p is provider of c; peering u v l   that u and v are peers
--   reaches ls k u v   from u to v by k + 1 provider-to-customer links
--   Ring ls            a customer ring; ringed ls   the same as a test
--   is_top ls u         u has no provider
--   Joined ls          every two different tops are peers; joined ls   the same as a test
use Rattle.std.specs.Prelude.{ℕ, zero, suc, ◌≡◌, ◌≢◌, Bool, true, false, not, ◌&&◌, ◌||◌, List, eqb, length}
use Rattle.rules.specs.declared.Link.{Link}
use Rattle.rules.specs.Lists.{In, any_of, all_of}
use Rattle.rules.specs.Network.{ases_of}

unfoldable pub provides : ℕ → ℕ → Link → Bool
provides p c l = eqb l.relation 1 && eqb l.a p && eqb l.b c

unfoldable pub peering : ℕ → ℕ → Link → Bool
peering u v l = eqb l.relation 0 && (eqb l.a u && eqb l.b v || eqb l.a v && eqb l.b u)

unfoldable pub reaches : List Link → ℕ → ℕ → ℕ → Bool
reaches ls zero u v = any_of (provides u v) ls
reaches ls (suc k) u v = any_of (λ l. provides u l.b l && reaches ls k l.b v) ls

-- 'some AS reaches itself by one or more provider-to-customer links'
abbrev pub Ring : List Link → Type 0
Ring ls = (u : ℕ) × (k : ℕ) × (reaches ls k u u ≡ true)

-- a ring is no longer than there are links
unfoldable pub within : (ℕ → Bool) → ℕ → Bool
within f zero = false
within f (suc k) = f k || within f k

unfoldable pub ringed : List Link → Bool
ringed ls = any_of (λ u. within (λ k. reaches ls k u u) (length ls)) (ases_of ls)

-- 'A top has no provider'
unfoldable pub is_top : List Link → ℕ → Bool
is_top ls u = not (any_of (λ l. provides l.a u l) ls)

unfoldable pub are_peers : List Link → ℕ → ℕ → Bool
are_peers ls u v = any_of (peering u v) ls

-- 'every two different tops are peers'
abbrev pub Joined : List Link → Type 0
Joined ls = (u v : ℕ) → In u (ases_of ls) → In v (ases_of ls) → is_top ls u ≡ true → is_top ls v ≡ true → u ≢ v → are_peers ls u v ≡ true

unfoldable pub joined : List Link → Bool
joined ls =
    all_of (λ u. all_of (λ v. not (is_top ls u && is_top ls v) || eqb u v || are_peers ls u v) (ases_of ls)) (ases_of ls)
