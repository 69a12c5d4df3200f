-- The arcs of a list of links: two per link, with ends among its ASes, cost 1, and their places for directions. By induction along
-- the list.
--
--   ArcOf i l a        a is one of the two arcs of link l at place i
--   LinkArc ls a       the link of ls whose arc a is, with its place
--   Directed net       arcs are told apart by their directions
--   Numbered n net     the directions of net are n, n + 1, n + 2, ..
use Prim.Native.Nat.{ℕ, suc, ◌+◌, ◌*◌, ◌≤◌, ◌<◌}
use mathlib.Core.Path.{◌≡◌, refl, sym, ◌∙◌, ap}
use mathlib.Core.Logic.{◌⊎◌, inl, inr, ⊎_elim}
use mathlib.Core.Bool.{cond}
use mathlib.Core.List.{List, [], ◌∷◌}
use native.Mathlib.Omega.{arith}
use lib.Dec.{eqb}
use lib.ListN.{length}
use Rattle.rules.specs.declared.Link.{Link}
use Rattle.rules.specs.Pairs.{kind_from_a, kind_from_b}
use Rattle.rules.specs.Lists.{In}
use Rattle.rules.specs.Offers.{Arc}
use Rattle.rules.specs.Network.{ases_of, a_to_b, b_to_a, arcs_from, arcs_of}
use Rattle.rules.proofs.Tests.{by_cond}
use Rattle.rules.proofs.NetworkLaws.{ases_In}

abbrev pub ArcOf : ℕ → Link → Arc → Type 0
ArcOf i l a = (a ≡ a_to_b i l) ⊎ (a ≡ b_to_a i l)

pub record LinkArc (ls : List Link) (a : Arc) : Type 0 where
  pub link : Link
  pub place : ℕ
  pub has : In link ls
  pub either : ArcOf place link a

pub arcs_link : (i : ℕ) (ls : List Link) (a : Arc) → In a (arcs_from i ls) → LinkArc ls a
unfolding arcs_from
arcs_link i [] a x' = elim x' [ ]
arcs_link i (l ∷ ls) a (inl e) = record { link = l; place = i; has = inl refl; either = inl e }
arcs_link i (l ∷ ls) a (inr (inl e)) = record { link = l; place = i; has = inl refl; either = inr e }
arcs_link i (l ∷ ls) a (inr (inr m)) =
    let f = arcs_link (suc i) ls a m in
    record { link = f.link; place = f.place; has = inr f.has; either = f.either }

-- a fact about every arc of a list of links, from the fact about both arcs of a link
pub by_arc : (P : Arc → Type 0) (ls : List Link) → ((l : Link) (i : ℕ) → In l ls → P (a_to_b i l) × P (b_to_a i l))
    → (a : Arc) → In a (arcs_of ls) → P a
by_arc P ls h a m = go (arcs_link 0 ls a m)
  where
    go : LinkArc ls a → P a
    go f = ⊎_elim (λ e. rw e (h f.link f.place f.has).0) (λ e. rw e (h f.link f.place f.has).1) f.either

pub arcs_ends : (ls : List Link) (a : Arc) → In a (arcs_of ls) → In a.hearer (ases_of ls) × In a.neighbour (ases_of ls)
unfolding a_to_b b_to_a
arcs_ends ls =
    by_arc (λ a. In a.hearer (ases_of ls) × In a.neighbour (ases_of ls)) ls
    (λ l i m. (let p = ases_In ls l.a l m (inl refl) in let q = ases_In ls l.b l m (inr refl) in ((q, p), (p, q))))

pub arcs_cost : (ls : List Link) (a : Arc) → In a (arcs_of ls) → a.cost ≡ 1
unfolding a_to_b b_to_a
arcs_cost ls = by_arc (λ a. a.cost ≡ 1) ls (λ l i m. (refl, refl))

pub arcs_positive : (ls : List Link) (a : Arc) → In a (arcs_of ls) → 1 ≤ a.cost
arcs_positive ls a m = omega (arith, arcs_cost ls a m)

pub arcs_rank : (ls : List Link) (a : Arc) → In a (arcs_of ls) → a.rank ≡ a.neighbour
unfolding a_to_b b_to_a
arcs_rank ls = by_arc (λ a. a.rank ≡ a.neighbour) ls (λ l i m. (refl, refl))

pub arcs_kind : (ls : List Link) (a : Arc) → In a (arcs_of ls) → (1 ≤ a.kind) × (a.kind ≤ 3)
unfolding a_to_b b_to_a kind_from_a kind_from_b
arcs_kind ls = by_arc (λ a. Kind a.kind) ls (λ l i m. (either l 3 (omega arith), either l 1 (omega arith)))
  where
    Kind : ℕ → Type 0
    Kind k = (1 ≤ k) × (k ≤ 3)

    either : (l : Link) (k : ℕ) → Kind k → Kind (cond (eqb l.relation 1) k 2)
    either l k h = by_cond Kind (eqb l.relation 1) k 2 (λ e. h) (λ e. omega arith)

pub arcs_length : (i : ℕ) (ls : List Link) → length (arcs_from i ls) ≡ 2 * length ls
unfolding arcs_from
arcs_length i [] = refl
arcs_length i (l ∷ ls) = omega (arith, arcs_length (suc i) ls)

-- directions
abbrev pub Directed : List Arc → Type 0
Directed net = (a b : Arc) → In a net → In b net → a.direction ≡ b.direction → a ≡ b

abbrev pub Numbered : ℕ → List Arc → Type 0
Numbered n [] = Unit {0}
Numbered n (a ∷ net) = (a.direction ≡ n) × Numbered (suc n) net

pub numbered_range : (n : ℕ) (net : List Arc) → Numbered n net → (a : Arc) → In a net
    → (n ≤ a.direction) × (a.direction < n + length net)
numbered_range n [] h a x'' = elim x'' [ ]
numbered_range n (b ∷ net) h a (inl e) = omega (arith, ap (λ (c : Arc). c.direction) e)
numbered_range n (b ∷ net) h a (inr m) = omega (arith, numbered_range (suc n) net h.1 a m)

pub Numbered-Directed : (n : ℕ) (net : List Arc) → Numbered n net → Directed net
Numbered-Directed n [] h a b x4 _ e = elim x4 [ ]
Numbered-Directed n (c ∷ net) h a b (inl p) (inl q) e = p ∙ sym q
Numbered-Directed n (c ∷ net) h a b (inl p) (inr q) e =
    absurd (omega (arith, ap (λ (x : Arc). x.direction) p, numbered_range (suc n) net h.1 b q))
Numbered-Directed n (c ∷ net) h a b (inr p) (inl q) e =
    absurd (omega (arith, ap (λ (x : Arc). x.direction) q, numbered_range (suc n) net h.1 a p))
Numbered-Directed n (c ∷ net) h a b (inr p) (inr q) e = Numbered-Directed (suc n) net h.1 a b p q e

pub arcs_Numbered : (i : ℕ) (ls : List Link) → Numbered (2 * i) (arcs_from i ls)
unfolding arcs_from a_to_b b_to_a
arcs_Numbered i [] = tt
arcs_Numbered i (l ∷ ls) =
    let e : 2 * suc i ≡ suc (suc (2 * i)) = omega arith in
    (refl, (omega arith, rw e at (arcs_Numbered (suc i) ls)))

pub direction_unique : (ls : List Link) → Directed (arcs_of ls)
direction_unique ls = Numbered-Directed 0 (arcs_of ls) (arcs_Numbered 0 ls)
