-- The test `ringed` is the customer ring of the document, since a shortest ring has no more links than the list; and peeling finds it:
-- an AS on a ring has a customer on the ring, and where every AS left has a customer left, a chain of those comes back.
--
--   OnRing ls u        u reaches itself
use Prim.Native.Nat.{ℕ, zero, suc, ◌≤◌, ◌<◌}
use mathlib.Core.Path.{◌≡◌, refl}
use mathlib.Core.Logic.{◌↔◌, inl, ⊎_elim}
use mathlib.Core.Bool.{Bool, true, false, ◌||◌, false≢true}
use mathlib.Core.List.{List, [], ◌∷◌}
use native.Mathlib.Omega.{arith}
use native.Mathlib.Decide.{ℕ_discrete}
use lib.ListN.{length}
use Rattle.rules.specs.declared.Link.{Link}
use Rattle.rules.specs.Lists.{In}
use Rattle.rules.specs.Network.{ases_of}
use Rattle.rules.specs.Findings.{reaches, Ring, within, ringed}
use Rattle.rules.proofs.Tests.{or_one}
use Rattle.rules.proofs.ListLaws.{any_of-true, any_of_one}
use Rattle.rules.proofs.NetworkLaws.{ases_In}
use Rattle.findings.proofs.Chains.{Below, below_link, reaches_less, reaches_on, Chain, Chain-reaches, Chain-short, reaches_Chain, Chain-Ring}

-- The test ----------------------------------------------------------------------------------------------------------------

within_one : (f : ℕ → Bool) (n : ℕ) → within f n ≡ true → (k : ℕ) × (k < n) × (f k ≡ true)
unfolding within
within_one f zero e = absurd (false≢true e)
within_one f (suc n) e =
    ⊎_elim (λ t. (n, omega arith, t)) (λ t. (let (k, l, s) = within_one f n t in (k, omega arith, s))) (or_one (f n) (within f n) e)

within_yes : (f : ℕ → Bool) (n k : ℕ) → k < n → f k ≡ true → within f n ≡ true
unfolding within
within_yes f zero k l t = absurd (omega arith)
within_yes f (suc n) k l t = at (ℕ_discrete k n) (λ m. within_yes f n k m t)
  where
    or_right : (b c : Bool) → c ≡ true → (b || c) ≡ true
    or_right true c e = refl
    or_right false c e = e

    at : Dec (k ≡ n) → (k < n → within f n ≡ true) → (f n || within f n) ≡ true
    at (yes e) h = (let s : f n ≡ true = rw e at t in cc)
    at (no ne) h = or_right (f n) (within f n) (h (omega arith))

pub ringed-Ring : (ls : List Link) → ringed ls ≡ true → Ring ls
unfolding ringed
ringed-Ring ls e =
    let (u, m, t) = any_of_one (λ (u : ℕ). within (λ (k : ℕ). reaches ls k u u) (length ls)) (ases_of ls) e in
    let (k, l, s) = within_one (λ (k : ℕ). reaches ls k u u) (length ls) t in
    (u, k, s)

-- whoever reaches v does so over fewer ASes than there are links
pub reaches_short : (ls : List Link) (k u v : ℕ) → reaches ls k u v ≡ true → (j : ℕ) × (j < length ls) × (reaches ls j u v ≡ true)
reaches_short ls k u v r =
    let (us, c, d) = reaches_Chain ls k u v r in
    (length us, Chain-short ls u us v c d, Chain-reaches ls u us v c)

-- whoever reaches anything is an AS of the network
pub reaches_as : (ls : List Link) (k u v : ℕ) → reaches ls k u v ≡ true → In u (ases_of ls)
unfolding reaches
reaches_as ls k u v r =
    let (w, b) = first k r in
    let (l, m, e, p, q) = below_link ls u w b in
    rw (← p) (ases_In ls l.a l m (inl refl))
  where
    first : (j : ℕ) → reaches ls j u v ≡ true → (w : ℕ) × Below ls u w
    first zero s = (v, s)
    first (suc j) s = (let (w, b, t) = reaches_less ls j u v s in (w, b))

pub Ring-ringed : (ls : List Link) → Ring ls → ringed ls ≡ true
unfolding ringed
Ring-ringed ls (u, k, r) =
    let (j, l, s) = reaches_short ls k u u r in
    any_of-true (λ (u : ℕ). within (λ (k : ℕ). reaches ls k u u) (length ls)) (ases_of ls) u (reaches_as ls k u u r)
    (within_yes (λ (k : ℕ). reaches ls k u u) (length ls) j l s)

pub ringed_is : (ls : List Link) → (ringed ls ≡ true) ↔ Ring ls
ringed_is ls = (ringed-Ring ls, Ring-ringed ls)

-- Peeling -----------------------------------------------------------------------------------------------------------------

abbrev pub OnRing : List Link → ℕ → Type 0
OnRing ls u = (k : ℕ) × (reaches ls k u u ≡ true)

-- an AS on a ring has a customer on a ring: so where all of those are left, taking away who has no customer left takes none of them
pub ring_next : (ls : List Link) (u : ℕ) → OnRing ls u → (w : ℕ) × Below ls u w × OnRing ls w
unfolding reaches
ring_next ls u (zero, r) = (u, r, (zero, r))
ring_next ls u (suc k, r) =
    let (w, b, s) = reaches_less ls k u u r in
    (w, b, (suc k, reaches_on ls k w u w s b))

-- where every AS left has a customer left, one that is left shows a ring
module _ (ls : List Link) (Left : ℕ → Type 0) (next : (u : ℕ) → Left u → (w : ℕ) × Below ls u w × Left w) where
  chain_left : (n u : ℕ) → Left u → (us : List ℕ) × (v : ℕ) × Chain ls u us v × (n ≤ length us)
  chain_left zero u h = (let (w, b, g) = next u h in ([], w, b, omega arith))
  chain_left (suc n) u h =
      let (w, b, g) = next u h in
      let (us, v, c, l) = chain_left n w g in
      (w ∷ us, v, (b, c), omega arith)

  pub Left-Ring : (u : ℕ) → Left u → Ring ls
  Left-Ring u h =
      let (us, v, c, l) = chain_left (length ls) u h in
      ⊎_elim (λ r. r) (λ d. absurd (omega (arith, Chain-short ls u us v c d))) (Chain-Ring ls u us v c)
