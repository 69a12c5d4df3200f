-- One link of the check, and all of them: what is left of the definition at place i is what is left at place i + 1, or a refusal.
use Rattle.std.specs.Prelude.{Err, Ok, Result}
use Rattle.std.proofs.lemmas.Bool.Decides.{nat_tests}
use Rattle.std.proofs.Common.{◌-◌, [], suc, refl, ◌≡◌, ℕ, ◌+◌, ◌<◌, ◌≤◌, Bool, true, false, cond, ltb, List, length, sym, ap, ◌∙◌, subst, add-one, arith, le-ltb, lt-ltb}
use Rattle.rules.specs.declared.Link.{Link}
use Rattle.rules.specs.declared.Limits.{Limits}
use Rattle.rules.specs.declared.Refusal.{Refusal}
use Rattle.rules.specs.declared.Refusal.TheVariants.{ZeroAs, NoRelation, EqualEnds, PairAgain, TooManyAses}
use Rattle.rules.specs.Lists.{any_of}
use Rattle.rules.specs.Network.{link_in_words, with_ends}
use Rattle.rules.specs.Checks.{is_same_pair, check_from}
use Rattle.network.specs.Promises.{count_of}
use Rattle.network.specs.Prefix.{links_from, seen_at, ases_at, check_at, own_fault}
use Rattle.network.specs.Tables.{Counted, Open, NotedEnds, Pairs, Pairing, Paired, as_homes, pair_homes, After, Sized, Stepping, Stepped, Starting}
use Rattle.network.proofs.PrefixLaws.{links_next, links_end}
use Rattle.network.proofs.AsTableLaws.{no_ases}
use Rattle.network.proofs.PairTableLaws.{no_links}

-- a link without a refusal of its own names two ASes
pub named : (l : Link) (i : ℕ) → own_fault l i ≡ Ok tt → (0 < l.a) × (0 < l.b)
named l i e = (grind (arith, nat_tests), grind (arith, nat_tests))

-- the refusals of a link by itself come before the rest
abbrev followed_by : Result (Unit {0}) Refusal → Result ℕ Refusal → Result ℕ Refusal
followed_by (Ok u) rest = rest
followed_by (Err f) rest = Err f

own_first : (p q r : Bool) (i : ℕ) (rest : Result ℕ Refusal)
    → cond p (Err (ZeroAs i)) (cond q (Err (NoRelation i)) (cond r (Err (EqualEnds i)) rest))
    ≡ followed_by (cond p (Err (ZeroAs i)) (cond q (Err (NoRelation i)) (cond r (Err (EqualEnds i)) (Ok tt)))) rest
own_first true q r i rest = refl
own_first false true r i rest = refl
own_first false false true i rest = refl
own_first false false false i rest = refl

-- link i, with the tables before it
module _ {limits : Limits} {ws seats pairs : List ℕ} {i n : ℕ} (z : Sized limits seats pairs) (g : Stepping limits ws i n seats pairs) where
  abbrev here : Link
  here = link_in_words ws i

  -- the refusals that other links bear on, at place i before place j
  abbrev others : ℕ → Result ℕ Refusal
  others j =
      cond (any_of (is_same_pair here) (seen_at ws i)) (Err (PairAgain i))
      (cond (ltb limits.ases (length (ases_at ws j))) (Err (TooManyAses i))
      (check_from limits (seen_at ws j) (ases_at ws j) j (links_from ws (i + 1))))

  check_here : check_at limits ws i ≡ followed_by (own_fault here i) (others (i + 1))
  unfolding check_at check_from
  check_here =
      ap (check_from limits (seen_at ws i) (ases_at ws i) i) (links_next ws i g.link)
      ∙ own_first _ _ _ i (others (suc i))
      ∙ ap (λ (j : ℕ). followed_by (own_fault here i) (others j)) (sym (add-one i))

  pub Open-seats : Open (as_homes limits seats) seats n 1
  Open-seats = record {
    homed = record { some = omega (arith, z.seats_long); few = omega (arith, z.seats_small) };
    count = omega (arith, g.after.known.full, g.after.known.count);
    fits = omega (arith, z.seats_long, g.after.few);
  }

  pub Pairing-pairs : Pairing (pair_homes limits pairs) ws i pairs
  Pairing-pairs = record {
    homed = record { some = omega (arith, z.pairs_long); few = omega (arith, z.pairs_small) };
    table = g.after.links;
    link = g.link;
    small = omega (arith, z.links_small, g.few);
    fits = omega (arith, z.pairs_long, g.few);
  }

  module _ {l : Link} (e : l ≡ here) where
    pub own : {f : Refusal} → own_fault l i ≡ Err f → check_at limits ws i ≡ Err f
    own {f} is = check_here ∙ ap (λ r. followed_by r (others (i + 1))) (ap (λ (k : Link). own_fault k i) (sym e) ∙ is)

    module _ (s : own_fault l i ≡ Ok tt) {again : Bool} {u : List ℕ} (p : Paired (pair_homes limits pairs) ws i pairs u again) where
      after_own : check_at limits ws i ≡ others (i + 1)
      after_own = check_here ∙ ap (λ r. followed_by r (others (i + 1))) (ap (λ (k : Link). own_fault k i) (sym e) ∙ s)

      pub pair_again : again ≡ true → check_at limits ws i ≡ Err (PairAgain i)
      pair_again is = after_own ∙ simp (sym p.seen ∙ is)

      module _ (is : again ≡ false) {v : List ℕ} {m : ℕ} (k : NotedEnds (as_homes limits seats) l seats n v m) where
        known : Counted (as_homes limits seats) (ases_at ws (i + 1)) v m
        known =
            subst (λ (a : List ℕ). Counted (as_homes limits seats) a v m)
            (ap (λ (j : Link). with_ends j (ases_at ws i)) e ∙ sym (ap (ases_at ws) (add-one i)))
            (k.known (ases_at ws i) g.after.known)

        pub too_many : limits.ases < m → check_at limits ws i ≡ Err (TooManyAses i)
        too_many h =
            let h' : limits.ases < length (ases_at ws (i + 1)) = omega (arith, known.count) in
            after_own ∙ simp (sym p.seen ∙ is, lt-ltb _ _ h')

        pub next : m ≤ limits.ases → Stepped limits ws i m v u (Ok tt)
        unfolding check_at
        next h =
            let h' : length (ases_at ws (i + 1)) ≤ limits.ases = omega (arith, known.count) in (
              after_own ∙ simp (sym p.seen ∙ is, le-ltb _ _ h'),
              record {
                known = subst (λ (j : ℕ). Counted (j - limits.ases - 1) (ases_at ws (i + 1)) v m) (sym k.long) known;
                links = subst (λ (j : ℕ). Pairs (j - limits.links) ws (i + 1) u) (sym p.long) (p.new is);
                few = h;
              },
            )

-- the first place and the last
pub After-none : {limits : Limits} {ws seats pairs : List ℕ} {n : ℕ} → Starting limits ws n seats pairs → After limits ws 0 n seats pairs
After-none {limits} {ws} {seats} {pairs} {n} g = record {
  known = subst (Counted (as_homes limits seats) [] seats) (sym g.none) (no_ases (as_homes limits seats) seats (length seats) g.fresh.seats_zero);
  links = no_links (pair_homes limits pairs) ws pairs (length pairs) g.fresh.pairs_zero;
  few = omega (arith, g.none);
}

pub check_end : (limits : Limits) (ws : List ℕ) (i n : ℕ) → count_of ws ≤ i → n ≡ length (ases_at ws i) → Ok n ≡ check_at limits ws i
unfolding check_at check_from
check_end limits ws i n h e =
    ap Ok e ∙ sym (ap (check_from limits (seen_at ws i) (ases_at ws i) i) (links_end ws i h))
