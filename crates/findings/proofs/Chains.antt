-- Chains of provider-to-customer links. A chain that names no provider twice is no longer than there are links, since its providers
-- stand on different links; and what is cut out between two times of one provider is a ring.
--
--   Below ls u v       a link says that u is provider of v
--   Chain ls u us v    such links lead from u over us to v
use Prim.Native.Nat.{ℕ, zero, suc, ◌<◌}
use mathlib.Core.Path.{◌≡◌, refl, sym, ◌∙◌, ap}
use mathlib.Core.Logic.{◌⊎◌, inl, inr, ⊎_elim}
use mathlib.Core.Bool.{true, ◌&&◌}
use mathlib.Core.List.{List, [], ◌∷◌, map}
use native.Mathlib.Omega.{arith}
use lib.Dec.{eqb}
use lib.ListN.{length, length-map}
use borrow.Author.Tests.{eq-eqb, eqb-true}
use Rattle.rules.specs.declared.Link.{Link}
use Rattle.rules.specs.Lists.{In, Without, Distinct, any_of}
use Rattle.rules.specs.Findings.{provides, reaches, Ring}
use Rattle.rules.proofs.Tests.{and_left, and_right, and_yes}
use Rattle.rules.proofs.ListLaws.{any_of-true, any_of_one, In-or_not}
use Rattle.rules.proofs.Pigeon.{pigeon}

-- Lists -------------------------------------------------------------------------------------------------------------------

in_map : {A B : Type 0} (f : A → B) (l : List A) (x : A) → In x l → In (f x) (map f l)
in_map {A = A} {B = B} f [] x x3 = elim x3 [ ]
in_map f (y ∷ l) x (inl e) = inl (ap f e)
in_map f (y ∷ l) x (inr m) = inr (in_map f l x m)

not_in : {A : Type 0} (x : A) (l : List A) → (In x l → ⊥) → Without x l
not_in x [] h = tt
not_in x (y ∷ l) h = (λ e. h (inl e), not_in x l (λ m. h (inr m)))

-- Links -------------------------------------------------------------------------------------------------------------------

abbrev pub Below : List Link → ℕ → ℕ → Type 0
Below ls u v = any_of (provides u v) ls ≡ true

provides_ends : (u v : ℕ) (l : Link) → provides u v l ≡ true → (l.relation ≡ 1) × (l.a ≡ u) × (l.b ≡ v)
unfolding provides
provides_ends u v l e =
    let f = and_left (eqb l.relation 1 && eqb l.a u) (eqb l.b v) e in (
      eqb-true _ _ (and_left (eqb l.relation 1) (eqb l.a u) f),
      eqb-true _ _ (and_right (eqb l.relation 1) (eqb l.a u) f),
      eqb-true _ _ (and_right (eqb l.relation 1 && eqb l.a u) (eqb l.b v) e),
    )

provides_yes : (u v : ℕ) (l : Link) → l.relation ≡ 1 → l.a ≡ u → l.b ≡ v → provides u v l ≡ true
unfolding provides
provides_yes u v l p q r = cc (eq-eqb l.relation 1 p, eq-eqb l.a u q, eq-eqb l.b v r)

pub below_link : (ls : List Link) (u v : ℕ) → Below ls u v → (l : Link) × In l ls × (l.relation ≡ 1) × (l.a ≡ u) × (l.b ≡ v)
below_link ls u v e =
    let (l, m, f) = any_of_one (provides u v) ls e in
    let (r, p, q) = provides_ends u v l f in
    (l, m, r, p, q)

pub link_Below : (ls : List Link) (l : Link) → In l ls → l.relation ≡ 1 → Below ls l.a l.b
link_Below ls l m e = any_of-true (provides l.a l.b) ls l m (provides_yes l.a l.b l e refl refl)

-- one link more in front, and one less
reaches_more : (ls : List Link) (k u w v : ℕ) → Below ls u w → reaches ls k w v ≡ true → reaches ls (suc k) u v ≡ true
unfolding reaches
reaches_more ls k u w v b r =
    let (l, m, e, p, q) = below_link ls u w b in
    let s : reaches ls k l.b v ≡ true = ap (λ (x : ℕ). reaches ls k x v) q ∙ r in
    any_of-true (λ l. provides u l.b l && reaches ls k l.b v) ls l m (and_yes _ _ (provides_yes u l.b l e p refl) s)

pub reaches_less : (ls : List Link) (k u v : ℕ) → reaches ls (suc k) u v ≡ true → (w : ℕ) × Below ls u w × (reaches ls k w v ≡ true)
unfolding reaches
reaches_less ls k u v e =
    let (l, m, t) = any_of_one (λ (l : Link). provides u l.b l && reaches ls k l.b v) ls e in
    (l.b, any_of-true (provides u l.b) ls l m (and_left _ _ t), and_right (provides u l.b l) _ t)

-- one link more at the end
pub reaches_on : (ls : List Link) (k u v w : ℕ) → reaches ls k u v ≡ true → Below ls v w → reaches ls (suc k) u w ≡ true
unfolding reaches
reaches_on ls zero u v w r b = reaches_more ls zero u v w r b
reaches_on ls (suc k) u v w r b =
    let (x, c, s) = reaches_less ls k u v r in
    reaches_more ls (suc k) u x w c (reaches_on ls k x v w s b)

-- Chains ------------------------------------------------------------------------------------------------------------------

abbrev pub Chain : List Link → ℕ → List ℕ → ℕ → Type 0
Chain ls u [] v = Below ls u v
Chain ls u (w ∷ us) v = Below ls u w × Chain ls w us v

pub Chain-reaches : (ls : List Link) (u : ℕ) (us : List ℕ) (v : ℕ) → Chain ls u us v → reaches ls (length us) u v ≡ true
unfolding reaches
Chain-reaches ls u [] v c = c
Chain-reaches ls u (w ∷ us) v c = reaches_more ls (length us) u w v c.0 (Chain-reaches ls w us v c.1)

-- every AS that a chain leaves is the provider of a link
abbrev providers : List Link → List ℕ
providers ls = map (λ (l : Link). l.a) ls

Below-provider : (ls : List Link) (u v x : ℕ) → Below ls u v → x ≡ u → In x (providers ls)
Below-provider ls u v x b e =
    let (l, m, r, p, q) = below_link ls u v b in
    rw (e ∙ sym p) (in_map (λ (l : Link). l.a) ls l m)

chain_providers : (ls : List Link) (u : ℕ) (us : List ℕ) (v : ℕ) → Chain ls u us v → (x : ℕ) → In x (u ∷ us) → In x (providers ls)
chain_providers ls u [] v c x = ⊎_elim (Below-provider ls u v x c) (λ m. absurd m)
chain_providers ls u (w ∷ us) v c x = ⊎_elim (Below-provider ls u w x c.0) (chain_providers ls w us v c.1 x)

pub Chain-short : (ls : List Link) (u : ℕ) (us : List ℕ) (v : ℕ) → Chain ls u us v → Distinct (u ∷ us) → length us < length ls
Chain-short ls u us v c d =
    omega (arith, pigeon (u ∷ us) (providers ls) d (chain_providers ls u us v c), length-map ls (λ (l : Link). l.a))

-- the rest of a chain from an AS that it leaves, and the part up to it
chain_from : (ls : List Link) (u : ℕ) (us : List ℕ) (v x : ℕ) → Chain ls u us v → Distinct (u ∷ us) → In x (u ∷ us)
    → (vs : List ℕ) × Chain ls x vs v × Distinct (x ∷ vs)
chain_from ls u [] v x c d = ⊎_elim (λ e. rw e ([], c, d)) (λ m. absurd m)
chain_from ls u (w ∷ us) v x c d = ⊎_elim (λ e. rw e (w ∷ us, c, d)) (chain_from ls w us v x c.1 d.1)

chain_to : (ls : List Link) (u : ℕ) (us : List ℕ) (v x : ℕ) → Chain ls u us v → In x us → (k : ℕ) × (reaches ls k u x ≡ true)
unfolding reaches
chain_to ls u [] v x c x4 = elim x4 [ ]
chain_to ls u (w ∷ us) v x c (inl e) = rw e (zero, c.0)
chain_to ls u (w ∷ us) v x c (inr m) =
    let (k, r) = chain_to ls w us v x c.1 m in
    (suc k, reaches_more ls k u w x c.0 r)

-- whoever reaches v does so by a chain that names no provider twice
pub reaches_Chain : (ls : List Link) (k u v : ℕ) → reaches ls k u v ≡ true → (us : List ℕ) × Chain ls u us v × Distinct (u ∷ us)
unfolding reaches
reaches_Chain ls zero u v r = ([], r, (tt, tt))
reaches_Chain ls (suc k) u v r =
    let (w, b, s) = reaches_less ls k u v r in
    let (us, c, d) = reaches_Chain ls k w v s in
    ⊎_elim (chain_from ls w us v u c d) (λ n. (w ∷ us, (b, c), (not_in u (w ∷ us) n, d))) (In-or_not u (w ∷ us))

-- a chain names a provider twice only if there is a ring
pub Chain-Ring : (ls : List Link) (u : ℕ) (us : List ℕ) (v : ℕ) → Chain ls u us v → Ring ls ⊎ Distinct (u ∷ us)
Chain-Ring ls u [] v c = inr (tt, tt)
Chain-Ring ls u (w ∷ us) v c =
    ⊎_elim (λ m. (let (k, r) = chain_to ls u (w ∷ us) v u c m in inl (u, k, r)))
    (λ n. ⊎_elim inl (λ (d : Distinct (w ∷ us)). inr (not_in u (w ∷ us) n, d)) (Chain-Ring ls w us v c.1))
    (In-or_not u (w ∷ us))
