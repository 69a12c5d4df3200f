-- What an accepted list of links is: sound links, no two of them over the same pair of ASes, within the limits. Read off the checks
-- one after the other; ranks of one hearer differ because pairs do.
--
--   SoundLink l        no end is AS 0, the relation is 0 or 1, the ends differ
--   SamePair l k       links l and k join the same two ASes, either way round
--   OncePerPair ls     no two places of ls hold links over the same pair
--   SoundLinks ls      both, of a list
--   AcceptedFrom limits seen known ls n   the links ls are accepted after those seen, which name the ASes known
--   AcceptedLinks limits ls n   the list ls with its n ASes is accepted
use Prim.Native.Nat.{ℕ, suc, ◌%◌, ◌≤◌}
use mathlib.Core.Path.{◌≡◌, refl, sym, ◌∙◌}
use mathlib.Core.Logic.{◌⊎◌, inl, inr, ⊎_elim, ◌≢◌}
use mathlib.Core.Bool.{Bool, true, false, cond, ◌&&◌, ◌||◌}
use mathlib.Core.List.{List, [], ◌∷◌}
use native.Mathlib.Omega.{arith}
use lib.Dec.{ltb, eqb}
use lib.ListN.{length}
use borrow.Author.Tests.{ltb-false, eqb-true, eqb-false, eq-eqb}
use Rattle.std.specs.Prelude.{Err, Ok, Result}
use Rattle.rules.specs.declared.Link.{Link}
use Rattle.rules.specs.declared.Limits.{Limits}
use Rattle.rules.specs.declared.Refusal.{Refusal}
use Rattle.rules.specs.declared.Refusal.TheVariants.{OverLimit, ZeroAs, NoRelation, EqualEnds, PairAgain, TooManyAses}
use Rattle.rules.specs.Lists.{In, any_of}
use Rattle.rules.specs.Offers.{Arc}
use Rattle.rules.specs.Network.{links_of, with_ends, ases_from, ases_of, a_to_b, b_to_a, arcs_from, arcs_of}
use Rattle.rules.specs.Checks.{is_same_pair, check_from, check_links, check_words}
use Rattle.rules.specs.Entry.{fault_of_links}
use Rattle.rules.proofs.Tests.{by_cond, clash, or_no}
use Rattle.rules.proofs.VerdictLaws.{accepted}
use Rattle.rules.proofs.BestLaws.{Ranked}
use Rattle.rules.proofs.ListLaws.{any_of_false}
use Rattle.rules.proofs.ArcLaws.{ArcOf, arcs_link, arcs_rank}

pub record SoundLink (l : Link) : Type 0 where
  pub named_a : l.a ≢ 0
  pub named_b : l.b ≢ 0
  pub relation : l.relation ≤ 1
  pub apart : l.a ≢ l.b

abbrev pub SamePair : Link → Link → Type 0
SamePair l k = ((l.a ≡ k.a) × (l.b ≡ k.b)) ⊎ ((l.a ≡ k.b) × (l.b ≡ k.a))

abbrev pub OncePerPair : List Link → Type 0
OncePerPair [] = Unit {0}
OncePerPair (l ∷ ls) = ((k : Link) → In k ls → SamePair k l → ⊥) × OncePerPair ls

pub record SoundLinks (ls : List Link) : Type 0 where
  pub each : (l : Link) → In l ls → SoundLink l
  pub once : OncePerPair ls

-- a refusal is no acceptance
not_Accepted : {r : Refusal} {n : ℕ} → Err r ≡ Ok n → ⊥
not_Accepted {r} {n} e = clash (cc)

-- a check that was passed
passed : (t : Bool) (r : Refusal) (x : Result ℕ Refusal) (n : ℕ) → cond t (Err r) x ≡ Ok n → (t ≡ false) × (x ≡ Ok n)
passed true r x n e = absurd (not_Accepted e)
passed false r x n e = (refl, e)

link_sound : (l : Link) → (eqb l.a 0 || eqb l.b 0) ≡ false → ltb 1 l.relation ≡ false → eqb l.a l.b ≡ false → SoundLink l
link_sound l named rel ends =
    let (p, q) = or_no (eqb l.a 0) (eqb l.b 0) named in
    record {
      named_a = eqb-false l.a 0 p;
      named_b = eqb-false l.b 0 q;
      relation = ltb-false 1 l.relation rel;
      apart = eqb-false l.a l.b ends;
    }

same_pair-false : (l k : Link) → is_same_pair l k ≡ false → SamePair l k → ⊥
unfolding is_same_pair
same_pair-false l k e (inl (p, q)) = clash (cc (eq-eqb l.a k.a p, eq-eqb l.b k.b q))
same_pair-false l k e (inr (p, q)) =
    let f = (or_no (eqb l.a k.a && eqb l.b k.b) _ e).1 in
    clash (cc (eq-eqb l.a k.b p, eq-eqb l.b k.a q))

pub record AcceptedFrom (limits : Limits) (seen : List Link) (known : List ℕ) (ls : List Link) (n : ℕ) : Type 0 where
  pub each : (l : Link) → In l ls → SoundLink l
  pub new : (l : Link) → In l ls → (k : Link) → In k seen → SamePair l k → ⊥
  pub once : OncePerPair ls
  pub count : n ≡ length (ases_from known ls)
  pub fits : n ≤ limits.ases

pub check_from-Accepted : (limits : Limits) (seen : List Link) (known : List ℕ) (i : ℕ) (ls : List Link) (n : ℕ)
    → length known ≤ limits.ases → check_from limits seen known i ls ≡ Ok n → AcceptedFrom limits seen known ls n
unfolding check_from ases_from
check_from-Accepted limits seen known i [] n h e =
    let c : n ≡ length known = cc in
    record { each = λ l m. absurd m; new = λ l m. absurd m; once = tt; count = c; fits = omega arith }
check_from-Accepted limits seen known i (l ∷ ls) n h e =
    let (named, e₁) = passed (eqb l.a 0 || eqb l.b 0) (ZeroAs i) _ n e in
    let (rel, e₂) = passed (ltb 1 l.relation) (NoRelation i) _ n e₁ in
    let (ends, e₃) = passed (eqb l.a l.b) (EqualEnds i) _ n e₂ in
    let (pair, e₄) = passed (any_of (is_same_pair l) seen) (PairAgain i) _ n e₃ in
    let (few, e₅) = passed (ltb limits.ases (length (with_ends l known))) (TooManyAses i) _ n e₄ in
    let room = ltb-false limits.ases (length (with_ends l known)) few in
    let rest = check_from-Accepted limits (l ∷ seen) (with_ends l known) (suc i) ls n room e₅ in
    let first : (k : Link) → In k seen → SamePair l k → ⊥ = (λ k o. same_pair-false l k (any_of_false (is_same_pair l) seen pair k o)) in
    record {
      each = λ k m. ⊎_elim (λ f. rw f (link_sound l named rel ends)) (rest.each k) m;
      new = λ k m j o. ⊎_elim (λ f. rw f (first j o)) (λ g. rest.new k g j (inr o)) m;
      once = (λ k m. rest.new k m l (inl refl), rest.once);
      count = rest.count;
      fits = rest.fits;
    }

pub record AcceptedLinks (limits : Limits) (ls : List Link) (n : ℕ) : Type 0 where
  pub sound : SoundLinks ls
  pub count : n ≡ length (ases_of ls)
  pub few_ases : n ≤ limits.ases
  pub few_links : length ls ≤ limits.links

pub check_links-Accepted : (limits : Limits) (ls : List Link) (n : ℕ) → check_links limits ls ≡ Ok n → AcceptedLinks limits ls n
unfolding check_links
check_links-Accepted limits ls n e =
    let (few, e₁) = passed (ltb limits.links (length ls)) OverLimit _ n e in
    let r = check_from-Accepted limits [] [] 0 ls n (omega arith) e₁ in
    record {
      sound = record { each = r.each; once = r.once };
      count = r.count;
      few_ases = r.fits;
      few_links = ltb-false limits.links (length ls) few;
    }

pub check_words-Accepted : (limits : Limits) (ws : List ℕ) (n : ℕ) → check_words limits ws ≡ Ok n
    → (length ws % 3 ≡ 0) × AcceptedLinks limits (links_of ws) n
unfolding check_words
check_words-Accepted limits ws n =
    by_cond (λ (x : Result ℕ Refusal). x ≡ Ok n → (length ws % 3 ≡ 0) × AcceptedLinks limits (links_of ws) n) (eqb (length ws % 3) 0) _ _
    (λ t e. (eqb-true (length ws % 3) 0 t, check_links-Accepted limits (links_of ws) n e)) (λ t e. absurd (not_Accepted e))

-- the same, of link words in which nothing is refused
pub links_accepted : (limits : Limits) (ws : List ℕ) → fault_of_links limits ws ≡ Ok tt → (n : ℕ) × (length ws % 3 ≡ 0) × AcceptedLinks limits (links_of ws) n
links_accepted limits ws e =
    let (n, a) = accepted (check_words limits ws) e in
    let (whole, ok) = check_words-Accepted limits ws n a in
    (n, whole, ok)

pub links_few : (limits : Limits) (ws : List ℕ) → fault_of_links limits ws ≡ Ok tt → length (ases_of (links_of ws)) ≤ limits.ases
links_few limits ws e = (let (n, whole, a) = links_accepted limits ws e in omega (arith, a.count, a.few_ases))

-- arcs of one hearer are told apart by their neighbours
same_pair_lem : (i j : ℕ) (l k : Link) (a b : Arc) → ArcOf i l a → ArcOf j k b → a.hearer ≡ b.hearer
    → a.neighbour ≡ b.neighbour → SamePair k l
unfolding a_to_b b_to_a
same_pair_lem i j l k a b (inl p) (inl q) e f = inl (cc, cc)
same_pair_lem i j l k a b (inl p) (inr q) e f = inr (cc, cc)
same_pair_lem i j l k a b (inr p) (inl q) e f = inr (cc, cc)
same_pair_lem i j l k a b (inr p) (inr q) e f = inl (cc, cc)

same_link : (i : ℕ) (l : Link) (a b : Arc) → ArcOf i l a → ArcOf i l b → l.a ≢ l.b → a.hearer ≡ b.hearer → a ≡ b
unfolding a_to_b b_to_a
same_link i l a b (inl p) (inl q) ne e = p ∙ sym q
same_link i l a b (inl p) (inr q) ne e = absurd (ne (cc))
same_link i l a b (inr p) (inl q) ne e = absurd (ne (cc))
same_link i l a b (inr p) (inr q) ne e = p ∙ sym q

neighbour_unique : (i : ℕ) (ls : List Link) → SoundLinks ls → (a b : Arc) → In a (arcs_from i ls) → In b (arcs_from i ls)
    → a.hearer ≡ b.hearer → a.neighbour ≡ b.neighbour → a ≡ b
unfolding arcs_from
neighbour_unique i [] s a b m n e f = absurd m
neighbour_unique i (l ∷ ls) s a b m n e f =
    let t : SoundLinks ls = record { each = λ k o. s.each k (inr o); once = s.once.1 } in
    go (first a m) (first b n) (λ p q. neighbour_unique (suc i) ls t a b p q e f)
  where
    first : (c : Arc) → In c (arcs_from i (l ∷ ls)) → ArcOf i l c ⊎ In c (arcs_from (suc i) ls)
    first c (inl p) = inl (inl p)
    first c (inr (inl p)) = inl (inr p)
    first c (inr (inr o)) = inr o

    later : (c : Arc) → In c (arcs_from (suc i) ls) → ((j : ℕ) (k : Link) → ArcOf j k c → SamePair k l) → ⊥
    later c o same = (let k = arcs_link (suc i) ls c o in s.once.0 k.link k.has (same k.place k.link k.either))

    go : ArcOf i l a ⊎ In a (arcs_from (suc i) ls) → ArcOf i l b ⊎ In b (arcs_from (suc i) ls)
        → (In a (arcs_from (suc i) ls) → In b (arcs_from (suc i) ls) → a ≡ b) → a ≡ b
    go (inl p) (inl q) rest = same_link i l a b p q (s.each l (inl refl)).apart e
    go (inl p) (inr q) rest = absurd (later b q (λ j k o. same_pair_lem i j l k a b p o e f))
    go (inr p) (inl q) rest = absurd (later a p (λ j k o. same_pair_lem i j l k b a q o (sym e) (sym f)))
    go (inr p) (inr q) rest = rest p q

pub rank_unique : (ls : List Link) → SoundLinks ls → Ranked (arcs_of ls)
rank_unique ls s a b m n e f = neighbour_unique 0 ls s a b m n e (sym (arcs_rank ls a m) ∙ f ∙ arcs_rank ls b n)
