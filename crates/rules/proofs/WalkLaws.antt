-- Following a settled routing, and what permitted walks say of it: next hops arrive by a permitted walk of the line's length through
-- no AS twice; no permitted walk starts better; lengths are bounded. Lengths fall from hop to hop, and a walk's first kind is the
-- extension of its rest's, just as a line's type is of its neighbour's.
use Prim.Native.Nat.{ℕ, zero, suc, ◌≤◌, ◌<◌, ◌*◌, ◌-◌}
use mathlib.Core.Path.{◌≡◌, refl, sym, ◌∙◌, ap}
use mathlib.Core.Logic.{inl, inr, ⊎_elim, ◌↔◌}
use mathlib.Core.List.{List, [], ◌∷◌}
use native.Mathlib.Omega.{arith}
use native.Mathlib.Nat.{mul-le-mul_left}
use native.Mathlib.Decide.{ℕ_discrete, dec_le}
use lib.ListN.{length}
use Rattle.rules.specs.Lists.{In, Without, Distinct}
use Rattle.rules.specs.Offers.{Arc}
use Rattle.rules.specs.Stable.{Routing}
use Rattle.rules.specs.Walks.{Leads, Downhill, Permitted, total, first_kind, stops, Follows, Followed}
use Rattle.rules.proofs.Faces.{Ext, cust, peer, prov, typ, len, Marked, Hop, Settled}
use Rattle.rules.proofs.Tests.{by_len}
use Rattle.rules.proofs.OfferLaws.{Ext-kind, Ext-range}
use Rattle.rules.proofs.Pigeon.{pigeon}

-- Permitted walks ---------------------------------------------------------------------------------------------------------

-- customer links alone are a permitted walk whose first kind is 1, and the other way round
Downhill-Permitted : (w : List Arc) → Downhill w → Permitted w × (first_kind w ≡ 1)
unfolding first_kind
Downhill-Permitted [] h = (tt, refl)
Downhill-Permitted (a ∷ w) h = (inr (inr h), h.0)

Permitted-Downhill : (w : List Arc) → Permitted w → first_kind w ≡ 1 → Downhill w
unfolding first_kind
Permitted-Downhill [] h e = tt
Permitted-Downhill (a ∷ w) (inl h) e = absurd (omega arith)
Permitted-Downhill (a ∷ w) (inr (inl h)) e = absurd (omega arith)
Permitted-Downhill (a ∷ w) (inr (inr h)) e = h

-- a walk is permitted if its rest is and its first kind extends the rest's
pub Permitted-more : (a : Arc) (w : List Arc) {e : ℕ} → Ext a.kind (first_kind w) e → Permitted w → Permitted (a ∷ w)
Permitted-more a w (cust k t e) h = inr (inr (k, Permitted-Downhill w h t))
Permitted-more a w (peer k t e) h = inr (inl (k, Permitted-Downhill w h t))
Permitted-more a w (prov k l t e) h = inl (k, h)

pub Permitted-range : (w : List Arc) → Permitted w → (1 ≤ first_kind w) × (first_kind w ≤ 3)
unfolding first_kind
Permitted-range [] h = omega arith
Permitted-range (a ∷ w) (inl h) = omega arith
Permitted-range (a ∷ w) (inr (inl h)) = omega arith
Permitted-range (a ∷ w) (inr (inr h)) = omega arith

pub Permitted-less : (a : Arc) (w : List Arc) → Permitted (a ∷ w) → Permitted w × Ext a.kind (first_kind w) a.kind
Permitted-less a w (inl h) = (let r = Permitted-range w h.1 in (h.1, prov h.0 r.0 r.1 h.0))
Permitted-less a w (inr (inl h)) = (let d = Downhill-Permitted w h.1 in (d.0, peer h.0 d.1 h.0))
Permitted-less a w (inr (inr h)) = (let d = Downhill-Permitted w h.1 in (d.0, cust h.0 d.1 h.0))

-- what a neighbour with a better type gives over an arc
Ext-mono : {k t e s : ℕ} → Ext k t e → 1 ≤ s → s ≤ t → Ext k s e
Ext-mono (cust k t e) l h = cust k (omega arith) e
Ext-mono (peer k t e) l h = peer k (omega arith) e
Ext-mono (prov k m t e) l h = prov k l (omega arith) e

-- no permitted walk starts better than the line
module _ (Has : Arc → Type 0) (d : ℕ) (R : Routing) (r : Marked Has d R) where
  pub walk_best : (w : List Arc) (u : ℕ) → Leads Has w u d → Permitted w → typ R u ≤ first_kind w
  unfolding first_kind
  walk_best [] u l h = rw l (omega (arith, r.own_typ))
  walk_best (a ∷ w) u l h =
      let p = Permitted-less a w h in
      at p.1 (walk_best w a.neighbour l.2 p.0) (ℕ_discrete u d)
    where
      at : Ext a.kind (first_kind w) a.kind → typ R a.neighbour ≤ first_kind w → Dec (u ≡ d) → typ R u ≤ a.kind
      at x b (yes e) = rw e (omega (arith, r.own_typ, Ext-range x))
      at x b (no ne) = (r.least u ne a l.0 l.1 a.kind (Ext-mono x (r.low a.neighbour) b)).0

-- Next hops ---------------------------------------------------------------------------------------------------------------

-- where k next hops lead from u
unfoldable pub after : Routing → ℕ → ℕ → ℕ
after R zero u = u
after R (suc k) u = after R k (R u).next

Leads-after : (Has : Arc → Type 0) (R : Routing) (w : List Arc) (u d : ℕ) → Leads Has w u d → Follows R w → after R (length w) u ≡ d
unfolding after
Leads-after Has R [] u d l f = l
Leads-after Has R (a ∷ w) u d l f =
    ap (λ (v : ℕ). after R (length w) (R v).next) (sym l.1) ∙ ap (after R (length w)) f.0
    ∙ Leads-after Has R w a.neighbour d l.2 f.1

-- f falls from stop to stop, from n on
abbrev Falls : (ℕ → ℕ) → ℕ → List ℕ → Type 0
Falls f n [] = Unit {0}
Falls f n (v ∷ vs) = (f v < n) × Falls f (f v) vs

Falls-Without : (f : ℕ → ℕ) (u n : ℕ) (vs : List ℕ) → n ≤ f u → Falls f n vs → Without u vs
Falls-Without f u n [] l h = tt
Falls-Without f u n (v ∷ vs) l h = (λ e. omega (arith, ap f e), Falls-Without f u (f v) vs (omega arith) h.1)

Falls-Distinct : (f : ℕ → ℕ) (u : ℕ) (vs : List ℕ) → Falls f (f u) vs → Distinct (u ∷ vs)
Falls-Distinct f u [] h = (tt, tt)
Falls-Distinct f u (v ∷ vs) h = (Falls-Without f u (f u) (v ∷ vs) (omega arith) h, Falls-Distinct f v vs h.1)

module _ (Has : Arc → Type 0) (pos : (a : Arc) → Has a → 1 ≤ a.cost) (d : ℕ) (R : Routing) (s : Settled Has d R) where
  abbrev r : Marked Has d R
  r = s.marked

  -- what the induction carries
  record Way (u : ℕ) : Type 0 where
    way : Followed Has d R u
    falls : Falls (len R) (len R u) (stops way.walk)

  -- the destination's
  Way-own : (u : ℕ) → u ≡ d → Way u
  unfolding total stops first_kind
  Way-own u e =
      record {
        way =
            record {
              walk = [];
              leads = e;
              follows = tt;
              permitted = tt;
              starts = rw e (sym r.own_typ);
              long = rw e (sym r.own_len);
              once = (tt, tt);
            };
        falls = tt;
      }

  -- one hop more
  Way-more : (u : ℕ) (h : Hop Has R u) → Way h.heard.arc.neighbour → Way u
  unfolding total stops first_kind
  Way-more u h b =
      let a = h.heard.arc in
      let w = b.way.walk in
      let l : len R a.neighbour < len R u = omega (arith, h.heard.long, pos a h.heard.has) in
      record {
        way =
            record {
              walk = a ∷ w;
              leads = (h.heard.has, h.heard.hearer, b.way.leads);
              follows = (ap (λ (v : ℕ). (R v).next) h.heard.hearer ∙ h.next, b.way.follows);
              permitted = Permitted-more a w {e = typ R u} (rw b.way.starts h.heard.ext) b.way.permitted;
              starts = sym (Ext-kind h.heard.ext);
              long = omega (arith, b.way.long, h.heard.long);
              once = Falls-Distinct (len R) u (stops (a ∷ w)) (l, b.falls);
            };
        falls = (l, b.falls);
      }

  way_at : (u : ℕ) → typ R u ≤ 3 → Way u
  way_at = by_len (len R) (λ u. typ R u ≤ 3 → Way u) (λ u below t. at u below t (ℕ_discrete u d))
    where
      at : (u : ℕ) → ((v : ℕ) → len R v < len R u → typ R v ≤ 3 → Way v) → typ R u ≤ 3 → Dec (u ≡ d) → Way u
      at u below t (yes e) = Way-own u e
      at u below t (no ne) =
          let h = s.hop u ne t in
          let x = Ext-range h.heard.ext in
          Way-more u h (below h.heard.arc.neighbour (omega (arith, h.heard.long, pos h.heard.arc h.heard.has)) (omega arith))

  -- from an AS that is reachable
  pub followed : (u : ℕ) → typ R u ≤ 3 → Followed Has d R u
  followed u t = (way_at u t).way

  pub arrives : (u : ℕ) → typ R u ≤ 3 → (k : ℕ) × (after R k u ≡ d)
  arrives u t =
      let f = followed u t in
      (length f.walk, Leads-after Has R f.walk u d f.leads f.follows)

  -- unreachable exactly where no permitted walk leads to the destination
  pub lost_iff : (u : ℕ) → (typ R u ≡ 4) ↔ ((w : List Arc) → Leads Has w u d → Permitted w → ⊥)
  lost_iff u = (λ t w l h. omega (arith, walk_best Has d R r w u l h, Permitted-range w h), λ n. go n (dec_le (typ R u) 3))
    where
      go : ((w : List Arc) → Leads Has w u d → Permitted w → ⊥) → Dec (typ R u ≤ 3) → typ R u ≡ 4
      go n (yes t) = (let f = followed u t in absurd (n f.walk f.leads f.permitted))
      go n (no t) = omega (arith, r.high u)

  -- else the type is the best first kind of such walks
  pub type_best : (u : ℕ) → typ R u ≤ 3
      → ((w : List Arc) × Leads Has w u d × Permitted w × (first_kind w ≡ typ R u))
      × ((w : List Arc) → Leads Has w u d → Permitted w → typ R u ≤ first_kind w)
  type_best u t =
      let f = followed u t in
      ((f.walk, f.leads, f.permitted, f.starts), λ w l h. walk_best Has d R r w u l h)

-- Lengths -----------------------------------------------------------------------------------------------------------------

stops_in : (Has : Arc → Type 0) (ases : List ℕ) → ((a : Arc) → Has a → In a.neighbour ases)
    → (w : List Arc) (u d : ℕ) → Leads Has w u d → (v : ℕ) → In v (stops w) → In v ases
unfolding stops
stops_in Has ases within [] u d l v x'' = elim x'' [ ]
stops_in Has ases within (a ∷ w) u d l v (inl e) = rw e (within a l.0)
stops_in Has ases within (a ∷ w) u d l v (inr m) = stops_in Has ases within w a.neighbour d l.2 v m

total-le : (Has : Arc → Type 0) (c : ℕ) → ((a : Arc) → Has a → a.cost ≤ c)
    → (w : List Arc) (u d : ℕ) → Leads Has w u d → total w ≤ c * length (stops w)
unfolding total stops
total-le Has c cheap [] u d l = omega arith
total-le Has c cheap (a ∷ w) u d l = omega (arith, total-le Has c cheap w a.neighbour d l.2, cheap a l.0)

-- among n ASes, where an arc costs at most c: at most c for each AS but one
module _ (Has : Arc → Type 0) (pos : (a : Arc) → Has a → 1 ≤ a.cost) (d : ℕ) (R : Routing) (s : Settled Has d R) where
  pub length_bound : (ases : List ℕ) → ((a : Arc) → Has a → In a.hearer ases × In a.neighbour ases)
      → (c : ℕ) → ((a : Arc) → Has a → a.cost ≤ c) → (u : ℕ) → len R u ≤ c * (length ases - 1)
  length_bound ases within c cheap u = at (ℕ_discrete u d) (dec_le (typ R u) 3)
    where
      far : (f : Followed Has d R u) → In u ases → len R u ≤ c * (length ases - 1)
      far f m =
          let i : (v : ℕ) → In v (u ∷ stops f.walk) → In v ases
          = λ v. ⊎_elim (λ e. rw e m) (stops_in Has ases (λ a h. (within a h).1) f.walk u d f.leads v) in
          let n : suc (length (stops f.walk)) ≤ length ases = pigeon (u ∷ stops f.walk) ases f.once i in
          let q : length (stops f.walk) ≤ length ases - 1 = omega arith in
          omega (arith, total-le Has c cheap f.walk u d f.leads, f.long, mul-le-mul_left c q)

      at : Dec (u ≡ d) → Dec (typ R u ≤ 3) → len R u ≤ c * (length ases - 1)
      at (yes e) t = rw e (omega (arith, s.marked.own_len))
      at (no ne) (yes t) =
          let h = s.marked.heard u ne t in
          far (followed Has pos d R s u t) (rw h.hearer at (within h.arc h.has).0)
      at (no ne) (no t) = omega (arith, s.marked.lost_len u ne (omega (arith, s.marked.high u)))

  pub length_below : (ases : List ℕ) → ((a : Arc) → Has a → In a.hearer ases × In a.neighbour ases)
      → ((a : Arc) → Has a → a.cost ≡ 1) → (u : ℕ) → len R u ≤ length ases - 1
  length_below ases within one u = omega (arith, length_bound ases within 1 (λ a h. omega (arith, one a h)) u)
