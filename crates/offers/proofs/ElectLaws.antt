-- The best offer over the arcs of a list, one arc after the other: the next arc is considered by its hearer and leaves all others' as
-- they are; and a line with its next hop says which offer it was, since arcs are ranked by their neighbours.
use Prim.Native.Nat.{ℕ, zero, suc, ◌+◌, ◌<◌}
use mathlib.Core.Path.{◌≡◌, refl, sym, ◌∙◌, ap}
use mathlib.Core.Logic.{inl, inr, ◌≢◌}
use mathlib.Core.Bool.{cond}
use mathlib.Core.List.{List, [], ◌∷◌, ◌++◌}
use native.Mathlib.Omega.{arith}
use native.Mathlib.Numerals.{add-one}
use lib.Dec.{ltb}
use lib.ListN.{length, get_or, take}
use lib.Seq.{take-suc}
use borrow.Author.Tests.{lt-ltb}
use Rattle.rules.specs.declared.TypeLength.{TypeLength}
use Rattle.rules.specs.Lists.{In}
use Rattle.rules.specs.Offers.{Arc, Offer, none, offer, choose, heard, elect, best}
use Rattle.rules.proofs.OfferLaws.{Ext-range, heard_own, heard_other, choose_keeps}
use Rattle.rules.proofs.BestLaws.{Source, nowhere, from_arc, best_is, best_Source, best_Le-none}
use Rattle.offers.specs.Passes.{as_offer}
use Rattle.offers.specs.Steps.{ranked_offer, Fair}
use Rattle.offers.proofs.ConsiderLaws.{Le-Fair}

-- a member of the first k is a member
pub take_in : {A : Type 0} (x : A) (l : List A) (k : ℕ) → In x (take k l) → In x l
take_in x l zero m = absurd m
take_in x [] (suc k) m = absurd m
take_in x (y ∷ l) (suc k) (inl e) = inl e
take_in x (y ∷ l) (suc k) (inr m) = inr (take_in x l k m)

module _ (told : Arc → TypeLength) (u : ℕ) where
  elect_last : (x : Offer) (net : List Arc) (a : Arc) → elect told u x (net ++ (a ∷ [])) ≡ choose (elect told u x net) (heard told u a)
  unfolding elect
  elect_last x [] a = refl
  elect_last x (b ∷ net) a = elect_last (choose x (heard told u b)) net a

  -- one arc more
  pub best_more : (net : List Arc) (d : Arc) (k : ℕ) → k < length net
      → best told u (take (k + 1) net) ≡ choose (best told u (take k net)) (heard told u (get_or net k d))
  unfolding best
  best_more net d k h = rw (add-one k, take-suc net k d h) (elect_last (none u) (take k net) (get_or net k d))

  module _ (net : List Arc) (d : Arc) (k : ℕ) (h : k < length net) where
    pub best_own : (get_or net k d).hearer ≡ u
        → best told u (take (k + 1) net) ≡ choose (best told u (take k net)) (offer (get_or net k d) (told (get_or net k d)))
    best_own e = best_more net d k h ∙ ap (choose (best told u (take k net))) (heard_own told u (get_or net k d) e)

    pub best_other : (get_or net k d).hearer ≢ u → best told u (take (k + 1) net) ≡ best told u (take k net)
    best_other ne =
        best_more net d k h ∙ ap (choose (best told u (take k net))) (heard_other told u (get_or net k d) ne)
        ∙ choose_keeps (best told u (take k net)) (none u) (best_Le-none (best_is told u (take k net)))

  -- where arcs are ranked by their neighbours, the pair and the next hop say which offer it was
  module _ (net : List Arc) (ranked : (a : Arc) → In a net → a.rank ≡ a.neighbour) where
    rank_is : (best told u net).rank ≡ cond (ltb (best told u net).pair.typ 4) (best told u net).next 0
    unfolding none
    rank_is = go (best_Source (best_is told u net))
      where
        go : Source told u net (best told u net) → (best told u net).rank ≡ cond (ltb (best told u net).pair.typ 4) (best told u net).next 0
        go (nowhere e) = rw e
        go (from_arc a m h v) =
            let r = Ext-range v.ext in
            rw (lt-ltb (best told u net).pair.typ 4 (omega arith)) (v.rank ∙ ranked a m ∙ sym v.next)

    pub best-line : as_offer (ranked_offer (best told u net).pair (best told u net).next) ≡ best told u net
    best-line = λ i. record { pair = (best told u net).pair; rank = sym rank_is i; next = (best told u net).next }

    pub best-Fair : Fair (ranked_offer (best told u net).pair (best told u net).next)
    best-Fair = Le-Fair u (rw best-line (best_Le-none (best_is told u net)))
