-- Offers: when there is a reachable one and what it is, and their order, which is total.
-- The tests of the definitions are read as facts, case by case.
use Prim.Native.Nat.{ℕ, ◌≤◌, ◌<◌, ◌+◌}
use mathlib.Core.Path.{◌≡◌, refl, sym, ◌∙◌, ap}
use mathlib.Core.Logic.{◌⊎◌, inl, inr, ⊎_elim, ◌≢◌, ◌↔◌}
use mathlib.Core.Bool.{Bool, true, false, ◌&&◌, ◌||◌}
use native.Mathlib.Omega.{arith}
use native.Mathlib.Decide.{ℕ_discrete}
use lib.Dec.{ltb, leb, eqb}
use borrow.Author.Tests.{eqb-true, eq-eqb, ne_eqb, le-leb}
use Rattle.rules.specs.declared.TypeLength.{TypeLength}
use Rattle.rules.specs.Pairs.{extended_type, unreachable_of, extension, same_as, beats_of}
use Rattle.rules.specs.Offers.{Arc, Offer, none, offer, better, choose, heard}
use Rattle.rules.proofs.Faces.{Ext, cust, peer, prov, Le}
use Rattle.rules.proofs.Tests.{tests, by_cond, and_left, and_right, and_no, or_one}

pub pair_same : {p q : TypeLength} → (p.typ ≡ q.typ) × (p.length ≡ q.length) → p ≡ q
pair_same e = λ i. record { typ = e.0 i; length = e.1 i }

-- The extension table -------------------------------------------------------------------------------------------------

pub Ext-is : {k t e : ℕ} → Ext k t e → extended_type k t ≡ e
unfolding extended_type
Ext-is {k} {t} {e} (cust p q r) = cc
Ext-is {k} {t} {e} (peer p q r) = cc
Ext-is {k} {t} {e} (prov p l h r) = cc (le-leb 1 t l, le-leb t 3 h)

-- a cell below 4 is one of the relation's
pub Ext-cell : (k t : ℕ) → extended_type k t ≢ 4 → Ext k t (extended_type k t)
unfolding extended_type
Ext-cell k t =
    by_cond P (eqb k 3) _ _
    (λ p. by_cond P (leb 1 t && leb t 3) 3 4 (λ q ne. three p (and_left (leb 1 t) (leb t 3) q) (and_right (leb 1 t) (leb t 3) q)) four)
    (λ p. by_cond P (s && eqb t 1) k 4 (λ q ne. own (or_one (eqb k 1) (eqb k 2) (and_left s (eqb t 1) q)) (and_right s (eqb t 1) q)) four)
  where
    P : ℕ → Type 0
    P e = e ≢ 4 → Ext k t e

    s : Bool
    s = eqb k 1 || eqb k 2

    three : eqb k 3 ≡ true → leb 1 t ≡ true → leb t 3 ≡ true → Ext k t 3
    three p l h = prov (omega tests) (omega tests) (omega tests) refl

    own : (eqb k 1 ≡ true) ⊎ (eqb k 2 ≡ true) → eqb t 1 ≡ true → Ext k t k
    own (inl p) q = cust (omega tests) (omega tests) (omega tests)
    own (inr p) q = peer (omega tests) (omega tests) (omega tests)

    four : {b : Bool} → b ≡ false → P 4
    four q ne = absurd (ne refl)

pub Ext-kind : {k t e : ℕ} → Ext k t e → e ≡ k
Ext-kind {k} {t} {e} (cust p q r) = cc
Ext-kind {k} {t} {e} (peer p q r) = cc
Ext-kind {k} {t} {e} (prov p l h r) = cc

-- it is 1 to 3 and no better than what it is from
pub Ext-range : {k t e : ℕ} → Ext k t e → (1 ≤ t) × (t ≤ e) × (e ≤ 3)
Ext-range (cust p q r) = omega arith
Ext-range (peer p q r) = omega arith
Ext-range (prov p l h r) = omega arith

-- Offers --------------------------------------------------------------------------------------------------------------

-- o is what pair p gives over arc a, p being such that it gives a reachable offer
pub record Over (a : Arc) (p : TypeLength) (o : Offer) : Type 0 where
  pub ext : Ext a.kind p.typ o.pair.typ
  pub long : o.pair.length ≡ p.length + a.cost
  pub rank : o.rank ≡ a.rank
  pub next : o.next ≡ a.neighbour

pub extension_is : (c : ℕ) (p : TypeLength) {k e : ℕ} → Ext k p.typ e → extension k c p ≡ record { typ = e; length = p.length + c }
unfolding extension
extension_is c p {k} {e} x =
    let r = Ext-range x in
    cc (Ext-is x, ne_eqb e 4 (omega arith))

pub extension_none : (k c : ℕ) (p : TypeLength) → extended_type k p.typ ≡ 4 → extension k c p ≡ unreachable_of
unfolding extension
extension_none k c p n = cc

pub offer_is : (a : Arc) (p : TypeLength) {e : ℕ} → Ext a.kind p.typ e
    → offer a p ≡ record { pair = record { typ = e; length = p.length + a.cost }; rank = a.rank; next = a.neighbour }
unfolding offer
offer_is a p {e} x =
    let r = Ext-range x in
    cc (extension_is a.cost p x, ne_eqb e 4 (omega arith))

pub offer-none : (a : Arc) (p : TypeLength) → extended_type a.kind p.typ ≡ 4 → offer a p ≡ none a.hearer
unfolding offer
offer-none a p n = cc (extension_none a.kind a.cost p n)

pub offer_cases : (a : Arc) (p : TypeLength) → (offer a p ≡ none a.hearer) ⊎ Over a p (offer a p)
offer_cases a p = go (ℕ_discrete (extended_type a.kind p.typ) 4)
  where
    go : Dec (extended_type a.kind p.typ ≡ 4) → (offer a p ≡ none a.hearer) ⊎ Over a p (offer a p)
    go (yes e) = inl (offer-none a p e)
    go (no ne) =
        let x = Ext-cell a.kind p.typ ne in
        inr (rw (offer_is a p x) (record { ext = x; long = refl; rank = refl; next = refl }))

-- over a provider link every reachable type goes on, over a customer or peer link type 1 alone
abbrev pub Extends : ℕ → ℕ → Type 0
Extends k t = ((k ≡ 3) × (1 ≤ t) × (t ≤ 3)) ⊎ (((k ≡ 1) ⊎ (k ≡ 2)) × (t ≡ 1))

-- a reachable offer: its type is the arc's kind and no better than the neighbour's, and it is longer by the cost
module _ (a : Arc) (p : TypeLength) where
  pub offer-Over : (offer a p).pair.typ ≤ 3 → Over a p (offer a p)
  unfolding none
  offer-Over h = ⊎_elim (λ n. absurd (omega (arith, ap (λ (o : Offer). o.pair.typ) n))) (λ o. o) (offer_cases a p)

  pub offer-kind : (offer a p).pair.typ ≤ 3 → (offer a p).pair.typ ≡ a.kind
  offer-kind h = Ext-kind (offer-Over h).ext

  pub offer_no_better : (offer a p).pair.typ ≤ 3 → p.typ ≤ (offer a p).pair.typ
  offer_no_better h = (Ext-range (offer-Over h).ext).1

  pub offer_longer : (offer a p).pair.typ ≤ 3
      → ((offer a p).pair.length ≡ p.length + a.cost) × (1 ≤ a.cost → p.length < (offer a p).pair.length)
  offer_longer h = (let e = (offer-Over h).long in omega arith)

  pub offer_exists : ((offer a p).pair.typ ≤ 3) ↔ Extends a.kind p.typ
  offer_exists = (λ h. there (offer-Over h).ext, λ k. here k)
    where
      there : {e : ℕ} → Ext a.kind p.typ e → Extends a.kind p.typ
      there (cust k t e) = inr (inl k, t)
      there (peer k t e) = inr (inr k, t)
      there (prov k l h e) = inl (k, l, h)

      by : {e : ℕ} → Ext a.kind p.typ e → (offer a p).pair.typ ≤ 3
      by x = rw (offer_is a p x) (Ext-range x).2

      here : Extends a.kind p.typ → (offer a p).pair.typ ≤ 3
      here (inl (k, l, h)) = by (prov k l h refl)
      here (inr (inl k, t)) = by (cust k t refl)
      here (inr (inr k, t)) = by (peer k t refl)

-- what u hears over an arc
module _ (told : Arc → TypeLength) (u : ℕ) (a : Arc) where
  pub heard_own : a.hearer ≡ u → heard told u a ≡ offer a (told a)
  unfolding heard
  heard_own e = cc (eq-eqb a.hearer u e)

  pub heard_other : a.hearer ≢ u → heard told u a ≡ none u
  unfolding heard
  heard_other ne = cc (ne_eqb a.hearer u ne)

  pub heard_cases : (heard told u a ≡ none u) ⊎ ((a.hearer ≡ u) × Over a (told a) (heard told u a))
  unfolding heard
  heard_cases =
      by_cond (λ (o : Offer). (o ≡ none u) ⊎ ((a.hearer ≡ u) × Over a (told a) o)) (eqb a.hearer u) _ _
      (λ e. ⊎_elim (λ n. inl (n ∙ ap none (eqb-true a.hearer u e))) (λ o. inr (eqb-true a.hearer u e, o)) (offer_cases a (told a)))
      (λ e. inl refl)

-- The order -----------------------------------------------------------------------------------------------------------

-- strictly before
pub record Less (x y : Offer) : Type 0 where
  pub typ : x.pair.typ ≤ y.pair.typ
  pub len : x.pair.typ ≡ y.pair.typ → x.pair.length ≤ y.pair.length
  pub rank : x.pair.typ ≡ y.pair.typ → x.pair.length ≡ y.pair.length → x.rank < y.rank

pub le_refl : (x : Offer) → Le x x
le_refl x = omega arith

pub Less-Le : {x y : Offer} → Less x y → Le x y
Less-Le p = record { typ = p.typ; len = p.len; rank = λ t l. omega (arith, p.rank t l) }

pub le_trans : {x y z : Offer} → Le x y → Le y z → Le x z
le_trans {x} {y} {z} p q = record { typ = omega arith; len = len; rank = rank }
  where
    len : x.pair.typ ≡ z.pair.typ → x.pair.length ≤ z.pair.length
    len e = omega (arith, p.len (omega arith), q.len (omega arith))

    rank : x.pair.typ ≡ z.pair.typ → x.pair.length ≡ z.pair.length → x.rank ≤ z.rank
    rank e f =
        let s : x.pair.typ ≡ y.pair.typ = omega arith in
        let t : y.pair.typ ≡ z.pair.typ = omega arith in
        let k = p.len s in
        let l = q.len t in
        omega (arith, p.rank s (omega arith), q.rank t (omega arith))

-- two that are each at most the other agree in all that is compared
pub le_antisym : {x y : Offer} → Le x y → Le y x → (x.pair.typ ≡ y.pair.typ) × (x.pair.length ≡ y.pair.length) × (x.rank ≡ y.rank)
le_antisym {x} {y} p q =
    let t : x.pair.typ ≡ y.pair.typ = omega arith in
    let l : x.pair.length ≡ y.pair.length = omega (arith, p.len t, q.len (sym t)) in
    (t, l, omega (arith, p.rank t l, q.rank (sym t) (sym l)))

pub Less-apart : {x y : Offer} → Less x y → Le y x → ⊥
Less-apart p q =
    let e = le_antisym (Less-Le p) q in
    omega (arith, p.rank e.0 e.1)

-- the test and the order
better_both : (x y : Offer) → (better x y ≡ true → Less x y) × (better x y ≡ false → Le y x)
unfolding better beats_of same_as
better_both x y =
    by_cond P (s && t) _ _
    (λ p. same (and_left s t p) (and_right s t p))
    (λ p. by_cond P s _ _ (λ q. long q (and_no s t p q)) (λ q. (λ e. omega tests, λ e. omega tests)))
  where
    P : Bool → Type 0
    P b = (b ≡ true → Less x y) × (b ≡ false → Le y x)

    s : Bool
    s = eqb x.pair.typ y.pair.typ

    t : Bool
    t = eqb x.pair.length y.pair.length

    same : s ≡ true → t ≡ true → P (ltb x.rank y.rank)
    same p q = (λ e. omega tests, λ e. omega tests)

    long : s ≡ true → t ≡ false → P (ltb x.pair.length y.pair.length)
    long p q = (λ e. omega tests, λ e. omega tests)

pub better-Less : (x y : Offer) → better x y ≡ true → Less x y
better-Less x y = (better_both x y).0

pub better_not : (x y : Offer) → better x y ≡ false → Le y x
better_not x y = (better_both x y).1

pub better-Le : (x y : Offer) → better x y ≡ true → Le x y
better-Le x y e = Less-Le (better-Less x y e)

pub le_total : (x y : Offer) → Le x y ⊎ Le y x
le_total x y = go (better x y) refl
  where
    go : (b : Bool) → better x y ≡ b → Le x y ⊎ Le y x
    go true e = inl (better-Le x y e)
    go false e = inr (better_not x y e)

-- The better of two: at most each, and one of them ----------------------------------------------------------------------

module _ (x y : Offer) where
  pub choose_takes : Less y x → choose x y ≡ y
  unfolding choose
  choose_takes h = by_cond (λ z. z ≡ y) (better y x) y x (λ e. refl) (λ e. absurd (Less-apart h (better_not y x e)))

  pub choose_keeps : Le x y → choose x y ≡ x
  unfolding choose
  choose_keeps h = by_cond (λ z. z ≡ x) (better y x) y x (λ e. absurd (Less-apart (better-Less y x e) h)) (λ e. refl)

  pub choose-Le : Le (choose x y) x × Le (choose x y) y
  unfolding choose
  choose-Le =
      by_cond (λ z. Le z x × Le z y) (better y x) y x
      (λ e. (better-Le y x e, le_refl y)) (λ e. (le_refl x, better_not y x e))

  pub choose_one : (choose x y ≡ x) ⊎ (choose x y ≡ y)
  unfolding choose
  choose_one = by_cond (λ z. (z ≡ x) ⊎ (z ≡ y)) (better y x) y x (λ e. inr refl) (λ e. inl refl)
