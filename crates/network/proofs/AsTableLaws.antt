-- The table of ASes: a search that stops at an AS has found a known one, and one that stops at an empty slot brings a new one.
use Rattle.std.proofs.Common.{◌≡◌, ℕ, ◌+◌, ◌<◌, ◌≢◌, List, [], length, set, replicate, sym, refl, ap, ◌∙◌, subst, ⊎_elim, add-one, arith, length-set, eq-eqb, eqb-true}
use Rattle.rules.specs.Lists.{In}
use Rattle.rules.specs.Network.{insert}
use Rattle.network.specs.Slots.{slot, filled, Room, Stopped, Stored}
use Rattle.network.specs.Tables.{home_of_as, is_as, Counted, Open, Noted}
use Rattle.rules.proofs.Ascending.{insert_only, insert-Ascending}
use Rattle.network.proofs.InsertLaws.{insert_there, insert_new}
use Rattle.network.proofs.MetLaws.{Met-put}
use Rattle.network.proofs.SlotLaws.{filled-set, filled_none, slot_none, set_here, set_other, put, absent, Stopped-hit, at_home, never}

-- a search from a home ends inside the table
pub as_Room : {homes n h : ℕ} {t : List ℕ} → Open homes t n 0 → h < homes → Room t h
as_Room o l = record { room = omega (arith, o.count, o.fits) }

-- a search for x stopped at r
module _ {homes x n h r : ℕ} {t : List ℕ} (pos : 0 < x) (o : Open homes t n 0) (eh : h ≡ home_of_as homes x) (q : Stopped (is_as x) t h r) where
  p : Stopped (is_as x) t (home_of_as homes x) r
  p = at_home eh q

  pub Noted-there : slot t r ≢ 0 → Noted homes x t n t n
  Noted-there nz = record {
    long = refl;
    count = o.count;
    more = omega arith;
    known = λ l k.
        let e : slot t r ≡ x = eqb-true _ _ (Stopped-hit p nz) in
        subst (λ (m : List ℕ). Counted homes m t n)
        (sym (insert_there x l k.ascending (subst (λ (y : ℕ). In y l) e (k.only r nz))))
        k;
  }

  module _ (z : slot t r ≡ 0) where
    unknown : {l : List ℕ} → Counted homes l t n → In x l → ⊥
    unknown k i =
        let s : Stored t x = k.held x i in
        never (is_as x (slot t s.place)) (eq-eqb _ _ s.is)
        (absent (home_of_as homes) k.seated p.passed z s.place (λ f. s.some (sym s.is ∙ f)) (ap (home_of_as homes) s.is))

    one_more : filled (set t r x) ≡ n + 1
    one_more = omega (arith, filled-set t r x p.within z (λ e. omega arith), o.count)

    -- what is stored afterwards
    kept : {y : ℕ} → Stored t y → Stored (set t r x) y
    kept s = record {
      place = s.place;
      is = set_other t r x s.place (λ f. s.some (sym s.is ∙ ap (slot t) f ∙ z)) ∙ s.is;
      some = s.some;
    }

    pub Noted-new : Noted homes x t n (set t r x) (n + 1)
    Noted-new = record {
      long = length-set t r x;
      count = one_more;
      more = omega arith;
      known = λ l k.
          let grown : length (insert x l) ≡ length l + 1 = insert_new x l (unknown k) ∙ sym (add-one (length l)) in
          record {
            seated = put (home_of_as homes) t r x k.seated p.within (λ e. omega arith) p.passed.start p.passed.run;
            held = λ y i. ⊎_elim
                (λ e. record { place = r; is = set_here t r x r p.within refl ∙ sym e; some = λ f. omega arith })
                (λ j. kept (k.held y j))
                (insert_only x y l i);
            only = (Met-put {t = t} {known = l} (record { only = k.only }) r x).only;
            full = omega (arith, one_more, k.count);
            count = omega (arith, k.count);
            ascending = insert-Ascending x l k.ascending;
          };
    }

-- a table of no ASes
pub no_ases : (homes : ℕ) (t : List ℕ) (n : ℕ) → t ≡ replicate n 0 → Counted homes [] t 0
no_ases homes t n e =
    let z : (s : ℕ) → slot t s ≡ 0 = λ s. ap (λ (l : List ℕ). slot l s) e ∙ slot_none n s in
    record {
      seated = λ s ns. absurd (ns (z s));
      held = λ x i. absurd i;
      only = λ s ns. absurd (ns (z s));
      full = ap filled e ∙ filled_none n;
      count = refl;
      ascending = tt;
    }
