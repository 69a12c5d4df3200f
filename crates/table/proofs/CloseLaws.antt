-- How near a pair comes to the stable one, phase by phase. A gain takes nothing below the stable line, since what is gained is heard
-- from a neighbour that is no better than its own stable line; and where nothing more is gained, lines of the phase's type are the
-- stable ones, by induction on the stable length.
--
--   Close S d f u p    in phase f, u's pair p: stable where the type is below f, no better than stable where it is f, else untouched
use Prim.Native.Nat.{ℕ, suc, ◌+◌, ◌≤◌, ◌<◌}
use mathlib.Core.Path.{◌≡◌, refl, ◌∙◌, ap}
use mathlib.Core.Logic.{◌≢◌}
use mathlib.Core.Bool.{Bool, true, false, ◌&&◌}
use native.Mathlib.Omega.{arith}
use native.Mathlib.Decide.{ℕ_discrete, dec_le}
use lib.Dec.{leb, eqb}
use borrow.Author.Tests.{eqb-true, leb-true, eq-eqb, le-leb}
use Rattle.rules.specs.declared.TypeLength.{TypeLength}
use Rattle.rules.specs.Pairs.{extended_type, extension, beats_of}
use Rattle.rules.specs.Offers.{Arc}
use Rattle.rules.specs.Stable.{Routing}
use Rattle.rules.proofs.Faces.{Ext, typ, len, Heard, Marked}
use Rattle.rules.proofs.Tests.{tests, by_cond, by_len, and_left, and_right, and_no}
use Rattle.rules.proofs.OfferLaws.{pair_same, Ext-cell, Ext-range, extension_is, extension_none}
use Rattle.table.specs.Phases.{gains}

-- Tests as facts -----------------------------------------------------------------------------------------------------------

beats_both : (p q : TypeLength)
    → (beats_of p q ≡ true → (p.typ ≤ q.typ) × (p.typ ≡ q.typ → p.length < q.length))
    × (beats_of p q ≡ false → (q.typ ≤ p.typ) × (p.typ ≡ q.typ → q.length ≤ p.length))
unfolding beats_of
beats_both p q =
    by_cond P (eqb p.typ q.typ) _ _
    (λ s. (λ e. (omega tests, λ h. omega tests), λ e. (omega tests, λ h. omega tests)))
    (λ s. (λ e. (omega tests, λ h. omega tests), λ e. (omega tests, λ h. omega tests)))
  where
    P : Bool → Type 0
    P b = (b ≡ true → (p.typ ≤ q.typ) × (p.typ ≡ q.typ → p.length < q.length))
        × (b ≡ false → (q.typ ≤ p.typ) × (p.typ ≡ q.typ → q.length ≤ p.length))

-- what it means that a pair gains
pub record Gain (f cap : ℕ) (o p : TypeLength) : Type 0 where
  pub typ : o.typ ≡ f
  pub short : o.length ≤ cap
  pub above : f ≤ p.typ
  pub less : p.typ ≡ f → o.length < p.length

pub gains_means : (f cap : ℕ) (o p : TypeLength) → gains f cap o p ≡ true → Gain f cap o p
gains_means f cap o p e =
    let s = and_left (eqb o.typ f && leb o.length cap) (beats_of o p) e in
    let t = eqb-true o.typ f (and_left (eqb o.typ f) (leb o.length cap) s) in
    let b = (beats_both o p).0 (and_right (eqb o.typ f && leb o.length cap) (beats_of o p) e) in
    record {
      typ = t;
      short = leb-true o.length cap (and_right (eqb o.typ f) (leb o.length cap) s);
      above = omega (arith, b.0);
      less = λ h. b.1 (omega arith);
    }

-- and that one of the type, within the cap, does not
pub gains_not : (f cap : ℕ) (o p : TypeLength) → gains f cap o p ≡ false → o.typ ≡ f → o.length ≤ cap
    → (p.typ ≤ f) × (p.typ ≡ f → p.length ≤ o.length)
gains_not f cap o p e t l =
    let s : (eqb o.typ f && leb o.length cap) ≡ true = cc (eq-eqb o.typ f t, le-leb o.length cap l) in
    let b = (beats_both o p).1 (and_no (eqb o.typ f && leb o.length cap) (beats_of o p) e s) in
    (omega (arith, b.0), λ h. b.1 (omega arith))

-- a pair that is offered and reachable
extension_over : (k c : ℕ) (q : TypeLength) → (extension k c q).typ ≤ 3
    → Ext k q.typ (extension k c q).typ × ((extension k c q).length ≡ q.length + c)
extension_over k c q h = go (ℕ_discrete (extended_type k q.typ) 4)
  where
    go : Dec (extended_type k q.typ ≡ 4) → Ext k q.typ (extension k c q).typ × ((extension k c q).length ≡ q.length + c)
    go (yes e) = absurd (omega (arith, ap (λ (p : TypeLength). p.typ) (extension_none k c q e)))
    go (no ne) = (let x = Ext-cell k q.typ ne in rw (extension_is c q x) (x, refl))

-- Close --------------------------------------------------------------------------------------------------------------------

pub record Close (S : Routing) (d f u : ℕ) (p : TypeLength) : Type 0 where
  pub own : u ≡ d → (p.typ ≡ 1) × (p.length ≡ 0)
  pub exact : typ S u < f → (p.typ ≡ typ S u) × (p.length ≡ len S u)
  pub below : p.typ < f → typ S u < f
  pub there : p.typ ≡ f → (typ S u ≡ f) × (len S u ≤ p.length)
  pub above : u ≢ d → f < p.typ → (p.typ ≡ 4) × (p.length ≡ 0)

-- a line of the phase's type or a better one is of the stable type and no better than the stable one
Close-under : {S : Routing} {d f u : ℕ} {p : TypeLength} → Close S d f u p → p.typ ≤ f → (typ S u ≡ p.typ) × (len S u ≤ p.length)
Close-under {S} {d} {f} {u} {p} c l = go (ℕ_discrete p.typ f)
  where
    go : Dec (p.typ ≡ f) → (typ S u ≡ p.typ) × (len S u ≤ p.length)
    go (yes e) = omega (arith, c.there e)
    go (no ne) = omega (arith, c.exact (c.below (omega arith)))

module _ (Has : Arc → Type 0) (d : ℕ) (S : Routing) (m : Marked Has d S) (f cap : ℕ) (low : 1 ≤ f) (high : f ≤ 3) where
  -- the pair that is gained over an arc
  pub Gain-Close : (a : Arc) → Has a → (p q : TypeLength) → Close S d f a.hearer p → Close S d f a.neighbour q
      → Gain f cap (extension a.kind a.cost q) p → Close S d f a.hearer (extension a.kind a.cost q)
  Gain-Close a has p q cu cv g =
      let x = extension_over a.kind a.cost q (omega (arith, g.typ)) in
      let r = Ext-range x.0 in
      let v = Close-under cv (omega (arith, g.typ)) in
      let far : a.hearer ≢ d = (λ e. (let o = cu.own e in omega (arith, g.less (omega (arith, g.above))))) in
      let l = m.least a.hearer far a has refl f (rw (g.typ, ← v.0) at x.0) in
      let not_less : ¬ (typ S a.hearer < f) = (λ s. omega (arith, cu.exact s, g.above)) in
      let same : typ S a.hearer ≡ f = omega (arith, l.0) in
      record {
        own = λ e. absurd (far e);
        exact = λ s. absurd (not_less s);
        below = λ s. absurd (omega (arith, g.typ));
        there = λ s. (same, omega (arith, l.1 same, x.1));
        above = λ ne s. absurd (omega (arith, g.typ));
      }

  -- where no arc gives more, among ASes that are all close
  module _ (Is : ℕ → Type 0) (ends : (a : Arc) → Has a → Is a.neighbour) (pos : (a : Arc) → Has a → 1 ≤ a.cost)
      (short : (u : ℕ) → len S u ≤ cap) (P : ℕ → TypeLength) (close : (u : ℕ) → Is u → Close S d f u (P u))
      (calm : (a : Arc) → Has a → gains f cap (extension a.kind a.cost (P a.neighbour)) (P a.hearer) ≡ false) where
    abbrev Exact : ℕ → Type 0
    Exact u = ((P u).typ ≡ typ S u) × ((P u).length ≡ len S u)

    -- the neighbour's pair is the stable one, so it offers the stable line
    Exact-over : (u : ℕ) → Is u → (a : Arc) → Has a → a.hearer ≡ u → Ext a.kind (typ S a.neighbour) f
        → len S u ≡ len S a.neighbour + a.cost → typ S u ≡ f → Exact a.neighbour → Exact u
    Exact-over u is a has h x long t v =
        let e = extension_is a.cost (P a.neighbour) (rw (← v.0) at x) in
        let o = extension a.kind a.cost (P a.neighbour) in
        let ot : o.typ ≡ f = ap (λ (p : TypeLength). p.typ) e in
        let ol : o.length ≡ len S u = ap (λ (p : TypeLength). p.length) e ∙ omega (arith, v.1) in
        let g = gains_not f cap o (P u) (rw h at (calm a has)) ot (omega (arith, short u)) in
        let c = close u is in
        let not_less : ¬ ((P u).typ < f) = (λ s. omega (arith, c.below s)) in
        let same : (P u).typ ≡ f = omega (arith, g.0) in
        (omega arith, omega (arith, g.1 same, c.there same))

    -- one line, from those with a shorter stable one
    Exact-at : (u : ℕ) → ((v : ℕ) → len S v < len S u → Is v → typ S v ≡ f → Exact v) → Is u → typ S u ≡ f → Heard Has S u → Exact u
    Exact-at u below is t h =
        let v = h.arc.neighbour in
        let l : len S v < len S u = omega (arith, h.long, pos h.arc h.has) in
        Exact-over u is h.arc h.has h.hearer (rw t at h.ext) h.long t (near v l (ends h.arc h.has) (Ext-range h.ext).1 (dec_le f (typ S v)))
      where
        near : (v : ℕ) → len S v < len S u → Is v → typ S v ≤ typ S u → Dec (f ≤ typ S v) → Exact v
        near v l is s (yes e) = below v l is (omega arith)
        near v l is s (no ne) = (close v is).exact (omega arith)

    pub calm_Exact : (u : ℕ) → Is u → typ S u ≡ f → Exact u
    calm_Exact = by_len (len S) (λ u. Is u → typ S u ≡ f → Exact u) (λ u below is t. at u below is t (ℕ_discrete u d))
      where
        at : (u : ℕ) → ((v : ℕ) → len S v < len S u → Is v → typ S v ≡ f → Exact v) → Is u → typ S u ≡ f → Dec (u ≡ d) → Exact u
        at u below is t (yes e) =
            let o = (close u is).own e in
            (omega (arith, ap (typ S) e, m.own_typ), omega (arith, ap (len S) e, m.own_len))
        at u below is t (no ne) = Exact-at u below is t (m.heard u ne (omega arith))

    -- the next phase begins
    pub Close-next : f < 3 → (u : ℕ) → Is u → Close S d (suc f) u (P u)
    Close-next l u is =
        let c = close u is in
        record {
          own = c.own;
          exact = λ s. exact (dec_le f (typ S u)) s;
          below = λ s. below (dec_le f (P u).typ) s;
          there = λ s. there (ℕ_discrete u d) s;
          above = λ ne s. c.above ne (omega arith);
        }
      where
        exact : Dec (f ≤ typ S u) → typ S u < suc f → Exact u
        exact (yes e) s = calm_Exact u is (omega arith)
        exact (no ne) s = (close u is).exact (omega arith)

        below : Dec (f ≤ (P u).typ) → (P u).typ < suc f → typ S u < suc f
        below (yes e) s = omega (arith, (close u is).there (omega arith))
        below (no ne) s = omega (arith, (close u is).below (omega arith))

        there : Dec (u ≡ d) → (P u).typ ≡ suc f → (typ S u ≡ suc f) × (len S u ≤ (P u).length)
        there (yes e) s = absurd (omega (arith, (close u is).own e))
        there (no ne) s = absurd (omega (arith, (close u is).above ne (omega arith)))

    -- the last one leaves the stable pairs
    pub close_last : f ≡ 3 → (u : ℕ) → Is u → P u ≡ (S u).pair
    close_last e u is = pair_same (go (dec_le (typ S u) 2) (dec_le (typ S u) 3))
      where
        go : Dec (typ S u ≤ 2) → Dec (typ S u ≤ 3) → Exact u
        go (yes l) h = (close u is).exact (omega arith)
        go (no l) (yes h) = calm_Exact u is (omega arith)
        go (no l) (no h) =
            let far : u ≢ d = (λ q. omega (arith, ap (typ S) q, m.own_typ)) in
            let c = close u is in
            let not_less : ¬ ((P u).typ < f) = (λ s. omega (arith, c.below s)) in
            let not_same : (P u).typ ≢ f = (λ s. omega (arith, c.there s)) in
            let b = c.above far (omega arith) in
            let t : typ S u ≡ 4 = omega (arith, m.high u) in
            omega (arith, b, m.lost_len u far t)
