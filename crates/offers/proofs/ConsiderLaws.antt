-- The shared step: what the code compares is the offer over the arc. Where there is no reachable offer both leave a fair offer as it is.
-- So does the pass, which looks first whether the neighbour's type goes on over the link, and puts a line only where it wins.
use Prim.Native.Nat.{ℕ, ◌+◌, ◌*◌}
use mathlib.Core.Path.{◌≡◌, refl, sym, ◌∙◌, ap}
use mathlib.Core.Logic.{⊎_elim, ◌≢◌}
use mathlib.Core.Bool.{Bool, true, false, not, ◌&&◌, ◌||◌}
use mathlib.Core.List.{List}
use native.Mathlib.Omega.{arith}
use native.Mathlib.Decide.{ℕ_discrete}
use lib.Dec.{leb, eqb}
use lib.Seq.{set-get_or}
use borrow.Author.Tests.{lt-ltb, eq-eqb, ne_eqb, eqb-true, eqb-false, not-true, not-false}
use Rattle.rules.specs.declared.TypeLength.{TypeLength}
use Rattle.rules.specs.Pairs.{extended_type, extension}
use Rattle.rules.specs.Offers.{Arc, Offer, none, offer, better, choose}
use Rattle.rules.specs.Stable.{line_of}
use Rattle.rules.proofs.Tests.{tests, by_cond, and_left, or_one}
use Rattle.rules.proofs.Faces.{Ext, cust, peer, prov, Le}
use Rattle.rules.proofs.OfferLaws.{Ext-cell, Ext-range, extension_is, extension_none, offer_is, offer-none, choose_keeps}
use Rattle.offers.specs.declared.Way.{Way}
use Rattle.offers.specs.declared.Offered.{Offered}
use Rattle.offers.specs.Passes.{as_offer}
use Rattle.offers.specs.Lines.{number_word, type_word, length_word, entry_pair, with_line}
use Rattle.offers.specs.Steps.{ranked_offer, Fair, OverWay, Considered, is_passed_on, told_offer}
use Rattle.offers.specs.Electing.{entry_offer, with_better, Hearer}

-- fair is at most any unreachable one
pub Fair-Le : {o : Offered} → Fair o → (x : Offer) → x.pair.typ ≡ 4 → Le (as_offer o) x
Fair-Le {o} f x e =
    record {
      typ = omega arith;
      len = λ t. omega (arith, f.long (omega arith));
      rank = λ t l. omega (arith, f.rank (omega arith));
    }

pub Le-Fair : (u : ℕ) {o : Offered} → Le (as_offer o) (none u) → Fair o
unfolding none
Le-Fair u {o} l =
    record {
      typ = omega arith;
      long = λ t. omega (arith, l.len t);
      rank = λ t. omega (arith, l.rank t (omega (arith, l.len t)));
    }

-- x: what the code compares with the best offer so far
module _ (w : Way) (from : ℕ) (a : Arc) (over : OverWay w from a) (p : TypeLength) (x : Offered) (is : x ≡ ranked_offer (extension w.kind w.cost p) from) where
  same_extension : extension w.kind w.cost p ≡ extension a.kind a.cost p
  same_extension = rw (over.kind, over.cost)

  reached : {e : ℕ} → Ext a.kind p.typ e → offer a p ≡ as_offer x
  reached {e} c =
      let r = Ext-range c in
      let k = same_extension ∙ extension_is a.cost p c in
      let t = lt-ltb e 4 (omega arith) in
      rw (offer_is a p c, is, k, t, over.rank, over.neighbour)

  -- the comparison with the offer over the arc is the one that the code makes
  consider_is : (o : Offered) → Fair o → choose (as_offer o) (as_offer x) ≡ choose (as_offer o) (offer a p)
  unfolding none
  consider_is o f = go (ℕ_discrete (extended_type a.kind p.typ) 4)
    where
      lost : extended_type a.kind p.typ ≡ 4 → x.pair.typ ≡ 4
      lost e = ap (λ (y : Offered). y.pair.typ) is ∙ ap (λ (q : TypeLength). q.typ) (same_extension ∙ extension_none a.kind a.cost p e)

      go : Dec (extended_type a.kind p.typ ≡ 4) → choose (as_offer o) (as_offer x) ≡ choose (as_offer o) (offer a p)
      go (yes e) =
          rw (offer-none a p e)
          (choose_keeps (as_offer o) (as_offer x) (Fair-Le f (as_offer x) (lost e))
          ∙ sym (choose_keeps (as_offer o) (none a.hearer) (Fair-Le f (none a.hearer) refl)))
      go (no ne) = ap (choose (as_offer o)) (sym (reached (Ext-cell a.kind p.typ ne)))

-- r: what it returns
pub considered : {o : Offered} → Fair o → {w : Way} {from : ℕ} {p : TypeLength} {x : Offered} → x ≡ ranked_offer (extension w.kind w.cost p) from
    → {r : Offered} → choose (as_offer o) (as_offer x) ≡ as_offer r → Considered o w from p r
considered {o} f {w} {from} {p} {x} is e = record { chosen = λ a over. sym e ∙ consider_is w from a over p x is o f }

-- the tests of the code
pub choose_new : (x y : Offer) → better y x ≡ true → choose x y ≡ y
unfolding choose
choose_new x y e = cc

pub choose_old : (x y : Offer) → better y x ≡ false → choose x y ≡ x
unfolding choose
choose_old x y e = cc

-- the better offer at entry i of a table: where it is the entry's own, the table stays
pub keep_same : (t : List ℕ) (i : ℕ) (x : Offered) → choose (as_offer (entry_offer t i)) (as_offer x) ≡ as_offer (entry_offer t i) → t ≡ with_better t i x
keep_same t i x e =
    sym
    (ap (λ (o : Offer). with_line t i (line_of o)) e
    ∙ rw (set-get_or t (4 * i + 1) 0, set-get_or t (4 * i + 2) 0, set-get_or t (4 * i + 3) 0))

module _ (t : List ℕ) (i : ℕ) (x : Offered) {held : Offered} (is : held ≡ entry_offer t i) {won : Bool} (tells : won ≡ better (as_offer x) (as_offer held)) where
  test : better (as_offer x) (as_offer (entry_offer t i)) ≡ won
  test = ap (λ (o : Offered). better (as_offer x) (as_offer o)) (sym is) ∙ sym tells

  pub keep_new : won ≡ true → with_line t i (line_of (as_offer x)) ≡ with_better t i x
  keep_new e = ap (λ (o : Offer). with_line t i (line_of o)) (sym (choose_new _ _ (test ∙ e)))

  pub keep_old : won ≡ false → t ≡ with_better t i x
  keep_old e = keep_same t i x (choose_old _ _ (test ∙ e))

-- what goes on, by the code's tests
pub goes_provider : (k t : ℕ) → k ≡ 3 → (leb 1 t && leb t 3) ≡ is_passed_on k t
unfolding extended_type
goes_provider k t e = rw (eq-eqb k 3 e) (by_cond (λ (x : ℕ). (leb 1 t && leb t 3) ≡ not (eqb x 4)) (leb 1 t && leb t 3) 3 4 (λ p. p) (λ p. p))

pub goes_other : (k t : ℕ) → k ≢ 3 → ((eqb k 1 || eqb k 2) && eqb t 1) ≡ is_passed_on k t
unfolding extended_type
goes_other k t ne =
    let b = (eqb k 1 || eqb k 2) && eqb t 1 in
    rw (ne_eqb k 3 ne)
    (by_cond (λ (x : ℕ). b ≡ not (eqb x 4)) b k 4 (λ p. p ∙ sym (ap not (ne_eqb k 4 (λ e. small p e)))) (λ p. p))
  where
    small : ((eqb k 1 || eqb k 2) && eqb t 1) ≡ true → k ≡ 4 → ⊥
    small p e = ⊎_elim (λ a. omega tests) (λ a. omega tests) (or_one (eqb k 1) (eqb k 2) (and_left (eqb k 1 || eqb k 2) (eqb t 1) p))

-- what goes on has the link's kind as its type
pub goes_over : (t : List ℕ) (w : Way) → is_passed_on w.kind (type_word t w.neighbour) ≡ true
    → ranked_offer (record { typ = w.kind; length = length_word t w.neighbour + w.cost }) (number_word t w.neighbour) ≡ told_offer t w
goes_over t w e =
    let x = Ext-cell w.kind (type_word t w.neighbour) (eqb-false _ _ (not-true _ e)) in
    ap (λ (p : TypeLength). ranked_offer p (number_word t w.neighbour)) (sym (extension_is w.cost (entry_pair t w.neighbour) (own_kind x)))
  where
    own_kind : {k t e : ℕ} → Ext k t e → Ext k t k
    own_kind (cust p q r) = cust p q p
    own_kind (peer p q r) = peer p q p
    own_kind (prov p l h r) = prov p l h p

-- what does not changes no fair entry
pub stays_out : (t b : List ℕ) (w : Way) → Hearer b w → is_passed_on w.kind (type_word t w.neighbour) ≡ false → b ≡ with_better b w.hearer (told_offer t w)
stays_out t b w h e =
    let lost = extension_none w.kind w.cost (entry_pair t w.neighbour) (eqb-true _ _ (not-false _ e)) in
    keep_same b w.hearer (told_offer t w)
    (choose_keeps _ _ (Fair-Le h.fair (as_offer (told_offer t w)) (ap (λ (p : TypeLength). p.typ) lost)))
