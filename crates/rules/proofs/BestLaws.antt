-- The best offer: there is one, one pass in list order finds it, and with different ranks it is the only one.
-- The election goes by induction on the list: it is at most what it starts from and all that is heard, and is one of these.
use Prim.Native.Nat.{ℕ, ◌≤◌, ◌+◌}
use mathlib.Core.Path.{◌≡◌, refl, sym, ◌∙◌, ap}
use mathlib.Core.Logic.{◌⊎◌, inl, inr, ⊎_elim, ◌≢◌}
use mathlib.Core.List.{List, [], ◌∷◌}
use native.Mathlib.Omega.{arith}
use native.Mathlib.Decide.{ℕ_discrete}
use Rattle.rules.specs.declared.TypeLength.{TypeLength}
use Rattle.rules.specs.Lists.{In}
use Rattle.rules.specs.Offers.{Arc, Offer, none, offer, choose, heard, elect, best}
use Rattle.rules.proofs.Faces.{Ext, Le}
use Rattle.rules.proofs.OfferLaws.{pair_same, Over, Ext-range, offer_is, heard_own, heard_other, heard_cases}
use Rattle.rules.proofs.OfferLaws.{le_refl, le_trans, le_antisym, choose-Le, choose_one, choose_keeps}

-- The election ---------------------------------------------------------------------------------------------------------

module _ (told : Arc → TypeLength) (u : ℕ) where
  pub elect_start : (x : Offer) (net : List Arc) → Le (elect told u x net) x
  unfolding elect
  elect_start x [] = le_refl x
  elect_start x (a ∷ net) = le_trans (elect_start (choose x (heard told u a)) net) (choose-Le x (heard told u a)).0

  pub elect_least : (x : Offer) (net : List Arc) (a : Arc) → In a net → Le (elect told u x net) (heard told u a)
  unfolding elect
  elect_least x [] a x3 = elim x3 [ ]
  elect_least x (b ∷ net) a (inl e) =
      rw e (le_trans (elect_start (choose x (heard told u b)) net) (choose-Le x (heard told u b)).1)
  elect_least x (b ∷ net) a (inr m) = elect_least (choose x (heard told u b)) net a m

  pub elect_one : (x : Offer) (net : List Arc)
      → (elect told u x net ≡ x) ⊎ ((a : Arc) × In a net × (elect told u x net ≡ heard told u a))
  unfolding elect
  elect_one x [] = inl refl
  elect_one x (b ∷ net) = go (elect_one (choose x (heard told u b)) net) (choose_one x (heard told u b))
    where
      y : Offer
      y = choose x (heard told u b)

      go : (elect told u y net ≡ y) ⊎ ((a : Arc) × In a net × (elect told u y net ≡ heard told u a))
          → (y ≡ x) ⊎ (y ≡ heard told u b)
          → (elect told u y net ≡ x) ⊎ ((a : Arc) × In a (b ∷ net) × (elect told u y net ≡ heard told u a))
      go (inl e) (inl f) = inl (e ∙ f)
      go (inl e) (inr f) = inr (b, inl refl, e ∙ f)
      go (inr (a, m, e)) f = inr (a, inr m, e)

-- The best offer --------------------------------------------------------------------------------------------------------

-- among what u hears, and at most each of it
pub record Best (told : Arc → TypeLength) (u : ℕ) (net : List Arc) (o : Offer) : Type 0 where
  pub one : (o ≡ none u) ⊎ ((a : Arc) × In a net × (o ≡ heard told u a))
  pub least : (a : Arc) → In a net → Le o (heard told u a)

-- where an offer to u comes from: nowhere, or one of u's arcs
pub data Source (told : Arc → TypeLength) (u : ℕ) (net : List Arc) (o : Offer) : Type 0 where
  nowhere : o ≡ none u → Source told u net o
  from_arc : (a : Arc) → In a net → a.hearer ≡ u → Over a (told a) o → Source told u net o

-- different arcs of one hearer have different ranks
abbrev pub Ranked : List Arc → Type 0
Ranked net = (a b : Arc) → In a net → In b net → a.hearer ≡ b.hearer → a.rank ≡ b.rank → a ≡ b

-- there is a best offer, and one pass in list order finds it
pub best_is : (told : Arc → TypeLength) (u : ℕ) (net : List Arc) → Best told u net (best told u net)
unfolding best
best_is told u net = record { one = elect_one told u (none u) net; least = elect_least told u (none u) net }

module _ {told : Arc → TypeLength} {u : ℕ} {net : List Arc} {o : Offer} (b : Best told u net o) where
  pub best_Source : Source told u net o
  best_Source = go b.one
    where
      go : (o ≡ none u) ⊎ ((a : Arc) × In a net × (o ≡ heard told u a)) → Source told u net o
      go (inl e) = nowhere e
      go (inr (a, m, e)) = ⊎_elim (λ n. nowhere (e ∙ n)) (λ h. from_arc a m h.0 (rw e h.1)) (heard_cases told u a)

  -- over no arc of u's comes a better one
  pub best_least : (a : Arc) → In a net → a.hearer ≡ u → {e : ℕ} → Ext a.kind (told a).typ e
      → (o.pair.typ ≤ e) × (o.pair.typ ≡ e → o.pair.length ≤ (told a).length + a.cost)
  best_least a m h x =
      let l = rw (heard_own told u a h, offer_is a (told a) x) at (b.least a m) in
      (l.typ, l.len)

  pub best_Le-none : Le o (none u)
  unfolding none
  best_Le-none = go best_Source
    where
      go : Source told u net o → Le o (none u)
      go (nowhere e) = rw e (le_refl (none u))
      go (from_arc a m h v) = (let r = Ext-range v.ext in omega arith)

  pub Best-Le : (p : Offer) → Best told u net p → Le o p
  Best-Le p c = ⊎_elim (λ e. rw e best_Le-none) (λ h. rw h.2 (b.least h.0 h.1)) c.one

-- two that are best are the same where arcs of one rank have one neighbour
pub Best-alike : {told : Arc → TypeLength} {u : ℕ} {net : List Arc} {o p : Offer} → Best told u net o → Best told u net p
    → ((a b : Arc) → In a net → In b net → a.hearer ≡ b.hearer → a.rank ≡ b.rank → a.neighbour ≡ b.neighbour) → o ≡ p
unfolding none
Best-alike {told} {u} {net} {o} {p} b c alike = go (best_Source b) (best_Source c)
  where
    same : (o.pair.typ ≡ p.pair.typ) × (o.pair.length ≡ p.pair.length) × (o.rank ≡ p.rank)
    same = le_antisym (Best-Le b p c) (Best-Le c o b)

    apart : {a : Arc} {q : Offer} → (none u).pair.typ ≡ q.pair.typ → Over a (told a) q → ⊥
    apart e v = (let r = Ext-range v.ext in omega arith)

    go : Source told u net o → Source told u net p → o ≡ p
    go (nowhere e) (nowhere f) = e ∙ sym f
    go (nowhere e) (from_arc a m h v) = absurd (apart (rw e at same.0) v)
    go (from_arc a m h v) (nowhere f) = absurd (apart (rw f at (sym same.0)) v)
    go (from_arc a m h v) (from_arc a' m' h' v') =
        let e = alike a a' m m' (h ∙ sym h') (omega (arith, same.2, v.rank, v'.rank)) in
        let n : o.next ≡ p.next = v.next ∙ e ∙ sym v'.next in
        λ i. record { pair = pair_same (same.0, same.1) i; rank = same.2 i; next = n i }

-- so with different ranks there is one only
pub Best-unique : {told : Arc → TypeLength} {u : ℕ} {net : List Arc} {o p : Offer}
    → Ranked net → Best told u net o → Best told u net p → o ≡ p
Best-unique ranked b c = Best-alike b c (λ a a' m m' h r. ap (λ (z : Arc). z.neighbour) (ranked a a' m m' h r))

-- What an election hangs on ----------------------------------------------------------------------------------------------

-- two tellers that agree on u's own arcs
pub heard_same : (told told' : Arc → TypeLength) (u : ℕ) (a : Arc) → (a.hearer ≡ u → told a ≡ told' a) → heard told u a ≡ heard told' u a
heard_same told told' u a same = go (ℕ_discrete a.hearer u)
  where
    go : Dec (a.hearer ≡ u) → heard told u a ≡ heard told' u a
    go (yes e) = heard_own told u a e ∙ ap (offer a) (same e) ∙ sym (heard_own told' u a e)
    go (no ne) = heard_other told u a ne ∙ sym (heard_other told' u a ne)

pub elect_same : (told told' : Arc → TypeLength) (u : ℕ) (x : Offer) (net : List Arc)
    → ((a : Arc) → In a net → a.hearer ≡ u → told a ≡ told' a) → elect told u x net ≡ elect told' u x net
unfolding elect
elect_same told told' u x [] same = refl
elect_same told told' u x (a ∷ net) same =
    rw (heard_same told told' u a (same a (inl refl)))
    (elect_same told told' u (choose x (heard told' u a)) net (λ b m. same b (inr m)))

pub best_same : (told told' : Arc → TypeLength) (u : ℕ) (net : List Arc)
    → ((a : Arc) → In a net → a.hearer ≡ u → told a ≡ told' a) → best told u net ≡ best told' u net
unfolding best
best_same told told' u net = elect_same told told' u (none u) net

-- where no arc is u's nothing is heard
pub elect_out : (told : Arc → TypeLength) (u : ℕ) (x : Offer) (net : List Arc)
    → Le x (none u) → ((a : Arc) → In a net → a.hearer ≢ u) → elect told u x net ≡ x
unfolding elect
elect_out told u x [] l out = refl
elect_out told u x (a ∷ net) l out =
    rw (heard_other told u a (out a (inl refl)), choose_keeps x (none u) l) (elect_out told u x net l (λ b m. out b (inr m)))

pub best_out : (told : Arc → TypeLength) (u : ℕ) (net : List Arc) → ((a : Arc) → In a net → a.hearer ≢ u) → best told u net ≡ none u
unfolding best
best_out told u net = elect_out told u (none u) net (le_refl (none u))
