-- ASes gathered as they are met: a new one stands behind the others, and a known one adds nothing. From what `insert` does to the members.
use Rattle.std.proofs.Common.{◌≡◌, ℕ, Bool, true, false, leb, leb-true, ◌+◌, ◌<◌, ◌≤◌, ◌≢◌, ◌⊎◌, List, [], ◌∷◌, ◌++◌, length, take, set, replicate, sym, refl, ap, ◌∙◌, subst, inl, inr, ⊎_elim, le_refl, add-one, arith, length-set, take-suc-set, eqb-true}
use Rattle.std.specs.Bool.{then_some}
use Rattle.std.specs.Prelude.{Some, position, slice_range}
use lib.Seq.{take-set-le}
use Rattle.rules.specs.declared.Link.{Link}
use Rattle.rules.specs.Lists.{In}
use Rattle.rules.specs.Network.{links_of, link_in_words, insert, with_ends, ases_of}
use Rattle.rules.proofs.Ascending.{insert-In, insert_keeps, insert_only}
use Rattle.network.specs.Promises.{count_of}
use Rattle.network.specs.Prefix.{ases_at}
use Rattle.network.specs.Slots.{slot, stops}
use Rattle.network.specs.Tables.{is_as}
use Rattle.network.specs.Gathering.{Same, Holding, Gathering, Grown}
use Rattle.network.proofs.PrefixLaws.{ases_all}
use Rattle.network.proofs.SlotLaws.{stopped, Stopped-hit}
use Rattle.network.proofs.MetLaws.{Met-none, Met-put}

-- members of a list with one more at its end
in_end : (l : List ℕ) (x : ℕ) → In x (l ++ (x ∷ []))
in_end [] x = inl refl
in_end (y ∷ l) x = inr (in_end l x)

In-front : (l : List ℕ) (x u : ℕ) → In u l → In u (l ++ (x ∷ []))
In-front [] x u m = absurd m
In-front (y ∷ l) x u (inl e) = inl e
In-front (y ∷ l) x u (inr m) = inr (In-front l x u m)

pub in_either : (l : List ℕ) (x u : ℕ) → In u (l ++ (x ∷ [])) → (u ≡ x) ⊎ In u l
in_either [] x u m = m
in_either (y ∷ l) x u (inl e) = inr (inl e)
in_either (y ∷ l) x u (inr m) = ⊎_elim (λ e. inl e) (λ k. inr (inr k)) (in_either l x u m)

module _ {xs known : List ℕ} (s : Same xs known) (x : ℕ) where
  same_new : Same (xs ++ (x ∷ [])) (insert x known)
  same_new = record {
    only = λ u m. ⊎_elim
        (λ e. subst (λ (y : ℕ). In y (insert x known)) (sym e) (insert-In x known))
        (λ k. insert_keeps x u known (s.only u k))
        (in_either xs x u m);
    all = λ u m. ⊎_elim
        (λ e. subst (λ (y : ℕ). In y (xs ++ (x ∷ []))) (sym e) (in_end xs x))
        (λ k. In-front xs x u (s.all u k))
        (insert_only x u known m);
  }

  Same-there : In x known → Same xs (insert x known)
  Same-there i = record {
    only = λ u m. insert_keeps x u known (s.only u m);
    all = λ u m. ⊎_elim (λ e. s.all u (subst (λ (y : ℕ). In y known) (sym e) i)) (λ k. s.all u k) (insert_only x u known m);
  }

-- what a search for x from h on stopped at
pub found : (t : List ℕ) (n x h k : ℕ) → length t ≡ n → h ≤ n → position (stops (is_as x)) (slice_range t h n) ≡ Some k → slot t (h + k) ≢ 0
    → slot t (h + k) ≡ x
found t n x h k long within e nz =
    let e' : position (stops (is_as x)) (slice_range t h (length t)) ≡ Some k = rw long e in
    eqb-true _ _ (Stopped-hit (stopped (is_as x) t h (omega arith) k e') nz)

-- x was met at slot r
module _ {s t : List ℕ} {n : ℕ} (g : Gathering s t n) (r x : ℕ) where
  pub met_new : n < 512 → Grown (insert x) s t n (set s n x) (set t r x) (Some (n + 1))
  met_new room = record {
    seen_long = length-set s n x;
    met_long = length-set t r x;
    held = record {
      few = omega arith;
      known = λ k h.
          let e : take (n + 1) (set s n x) ≡ take n s ++ (x ∷ []) =
          rw (add-one n) (take-suc-set s n x (omega (arith, g.seen_long, g.few)))
          in
          record { same = subst (λ (l : List ℕ). Same l (insert x k)) (sym e) (same_new h.same x); slots = Met-put h.slots r x };
    };
  }

  pub met_there : slot t r ≢ 0 → slot t r ≡ x → Grown (insert x) s t n (set s n x) (set t r x) (Some n)
  met_there nz is = record {
    seen_long = length-set s n x;
    met_long = length-set t r x;
    held = record {
      few = g.few;
      known = λ k h.
          let i : In x k = subst (λ (y : ℕ). In y k) is (h.slots.only r nz) in
          record {
            same = subst (λ (l : List ℕ). Same l (insert x k)) (sym (take-set-le n s n x (le_refl n))) (Same-there h.same x i);
            slots = Met-put h.slots r x;
          };
    };
  }

  -- as far as there is room for so many
  pub met_room : (m : ℕ) → (m ≤ 512 → Grown (insert x) s t n (set s n x) (set t r x) (Some m)) → Grown (insert x) s t n (set s n x) (set t r x) (then_some (leb m 512) m)
  met_room m f = go (leb m 512) refl
    where
      go : (b : Bool) → leb m 512 ≡ b → Grown (insert x) s t n (set s n x) (set t r x) (then_some b m)
      go true e = f (leb-true m 512 e)
      go false e = record { seen_long = length-set s n x; met_long = length-set t r x; held = tt }

pub Gathering-on : {more : List ℕ → List ℕ} {s t u v : List ℕ} {n m : ℕ} → Gathering s t n → Grown more s t n u v (Some m) → Gathering u v m
Gathering-on g f = record { seen_long = f.seen_long ∙ g.seen_long; met_long = f.met_long ∙ g.met_long; few = f.held.few }

-- after the links before place i
pub Holding-none : (ws s : List ℕ) → Holding (ases_at ws 0) s (replicate 2112 0) 0
Holding-none ws s = record { same = record { only = λ u m. m; all = λ u m. m }; slots = Met-none 2112 [] }

pub Holding-more : (ws : List ℕ) (i : ℕ) {s t u v a b : List ℕ} {n m r : ℕ} (l : Link) → l ≡ link_in_words ws i → Holding (ases_at ws i) s t n
    → Grown (insert l.a) s t n u v (Some m) → Grown (insert l.b) u v m a b (Some r) → Holding (ases_at ws (i + 1)) a b r
unfolding with_ends
Holding-more ws i {a = a} {b = b} {r = r} l e h f g =
    subst (λ (k : List ℕ). Holding k a b r)
    (ap (λ (j : Link). with_ends j (ases_at ws i)) e ∙ sym (ap (ases_at ws) (add-one i)))
    (g.held.known (insert l.a (ases_at ws i)) (f.held.known (ases_at ws i) h))

pub Holding-all : (ws : List ℕ) (i : ℕ) {s t : List ℕ} {n : ℕ} → Holding (ases_at ws i) s t n → i ≤ count_of ws → count_of ws ≤ i
    → Same (take n s) (ases_of (links_of ws))
Holding-all ws i {s} {t} {n} h f g = subst (Same (take n s)) (ases_all ws i f g) h.same
