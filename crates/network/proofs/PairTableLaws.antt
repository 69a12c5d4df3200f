-- The table of pairs: a search that stops at a link has found one that joins the same pair, and one that stops at an empty slot has
-- passed every link that could, since homes do not go by the order of the ends.
use Rattle.std.specs.Prelude.{slice_range}
use Rattle.std.proofs.lemmas.List.{take_rest}
use Rattle.std.proofs.lemmas.Grind.{get_or_default_zero}
use Rattle.std.proofs.Common.{length, ◌≤◌, get_or, get_or-drop, ◌≡◌, ℕ, zero, suc, ◌+◌, ◌-◌, ◌*◌, ◌<◌, Bool, true, false, ◌||◌, eqb, ◌≢◌, List, set, replicate, sym, refl, ap, ◌∙◌, subst, ⊎_elim, lt_irrefl, mul_comm, arith, length-set, eqb-true}
use mathlib.Core.Bool.{or-true}
use Rattle.rules.specs.declared.Link.{Link}
use Rattle.rules.specs.Lists.{any_of}
use Rattle.rules.specs.Network.{link_in_words}
use Rattle.rules.specs.Checks.{is_same_pair}
use Rattle.rules.proofs.Tests.{and_left, and_right, or_one}
use Rattle.network.specs.Prefix.{seen_at}
use Rattle.network.specs.Slots.{slot, filled, spread_of, Stopped, Stored, Room}
use Rattle.network.specs.Tables.{folded, home_of_pair, is_pair, home_of_link, Pairs, Places, Pairing, Paired}
use Rattle.network.proofs.Numbers.{same?}
use Rattle.network.proofs.SlotLaws.{filled-set, filled_none, slot_none, set_here, set_other, put, absent, Stopped-hit, at_home, never}

-- the same pair has the same home
same_product : (l k : Link) → is_same_pair l k ≡ true → k.a * k.b ≡ l.a * l.b
unfolding is_same_pair
same_product l k e = ⊎_elim
    (λ s. let p : l.a ≡ k.a = eqb-true _ _ (and_left (eqb l.a k.a) (eqb l.b k.b) s) in
    let q : l.b ≡ k.b = eqb-true _ _ (and_right (eqb l.a k.a) (eqb l.b k.b) s) in
    cc)
    (λ s. let p : l.a ≡ k.b = eqb-true _ _ (and_left (eqb l.a k.b) (eqb l.b k.a) s) in
    let q : l.b ≡ k.a = eqb-true _ _ (and_right (eqb l.a k.b) (eqb l.b k.a) s) in
    cc (mul_comm k.a k.b))
    (or_one _ _ e)

same_home : (homes : ℕ) (l k : Link) → is_same_pair l k ≡ true → home_of_pair homes k ≡ home_of_pair homes l
unfolding home_of_pair
same_home homes l k e = ap (λ (m : ℕ). spread_of homes (folded m * 663608941)) (same_product l k e)

-- the links before place i
seen_some : (f : Link → Bool) (ws : List ℕ) (i j : ℕ) → j < i → f (link_in_words ws j) ≡ true → any_of f (seen_at ws i) ≡ true
seen_some f ws zero j h e = absurd (lt_irrefl j (omega arith))
seen_some f ws (suc i) j h e = ⊎_elim
    (λ q. ap (λ (b : Bool). b || any_of f (seen_at ws i)) (ap (λ (k : ℕ). f (link_in_words ws k)) (sym q) ∙ e))
    (λ n. ap (λ (b : Bool). f (link_in_words ws i) || b) (seen_some f ws i j (omega arith) e) ∙ or-true (f (link_in_words ws i)))
    (same? j i)

seen_none : (f : Link → Bool) (ws : List ℕ) (i : ℕ) → ((j : ℕ) → j < i → f (link_in_words ws j) ≡ false) → any_of f (seen_at ws i) ≡ false
seen_none f ws zero h = refl
seen_none f ws (suc i) h =
    ap (λ (b : Bool). b || any_of f (seen_at ws i)) (h i (omega arith)) ∙ seen_none f ws i (λ j l. h j (omega arith))

-- what stands in a slot is a link
pub link_slot : (ws : List ℕ) (v j : ℕ) → v ≡ j + 1 → link_in_words ws (v - 1) ≡ link_in_words ws j
link_slot ws v j e = let q : v - 1 ≡ j = omega arith in ap (link_in_words ws) q

pub place_at : {ws t : List ℕ} {v k : ℕ} → Places ws t → k < length t → v ≡ get_or t k v → 3 * v ≤ length ws
place_at {ws} {t} {v} {k} p h e = omega (arith, p.places k, e ∙ get_or_default_zero t k v h)

pub places_from : (h : ℕ) {ws t : List ℕ} → Places ws t → Places ws (slice_range t h (length t))
places_from h {ws} {t} p = rw (take_rest t h) (record { places = λ s. omega (arith, p.places (h + s), get_or-drop h t s 0) })

pub places : {homes i : ℕ} {ws t : List ℕ} → Pairing homes ws i t → Places ws t
places k = record { places = λ s. omega (arith, k.table.only s, k.link) }

pub pair_Room : {homes i h : ℕ} {ws t : List ℕ} → Pairing homes ws i t → h < homes → Room t h
pair_Room k l = record { room = omega (arith, k.table.full, k.fits) }

-- a search for the pair of link i stopped at r
module _ {homes i h r : ℕ} {ws t : List ℕ} {l : Link} (k : Pairing homes ws i t)
    (el : l ≡ link_in_words ws i) (eh : h ≡ home_of_pair homes l) (q : Stopped (is_pair ws l) t h r) where
  p : Stopped (is_pair ws (link_in_words ws i)) t (home_of_pair homes (link_in_words ws i)) r
  p = subst (λ (j : Link). Stopped (is_pair ws j) t (home_of_pair homes j) r) el (at_home eh q)

  pub Paired-there : slot t r ≢ 0 → Paired homes ws i t t true
  Paired-there nz = record {
    long = refl;
    seen = sym (seen_some (is_same_pair (link_in_words ws i)) ws i (slot t r - 1) (omega (arith, k.table.only r)) (Stopped-hit p nz));
    new = λ f. never true refl f;
  }

  module _ (z : slot t r ≡ 0) where
    other_pair : (j : ℕ) → j < i → is_same_pair (link_in_words ws i) (link_in_words ws j) ≡ false
    other_pair j h =
        let s : Stored t (j + 1) = k.table.held j h in
        let e : link_in_words ws (slot t s.place - 1) ≡ link_in_words ws j = link_slot ws (slot t s.place) j s.is in
        go (is_same_pair (link_in_words ws i) (link_in_words ws j))
        refl
        (λ y. ap (is_same_pair (link_in_words ws i)) (sym e)
        ∙ absent (home_of_link homes ws) k.table.seated p.passed z s.place (λ f. s.some (sym s.is ∙ f))
        (ap (home_of_pair homes) e ∙ same_home homes (link_in_words ws i) (link_in_words ws j) y))
      where
        go : (b : Bool) → is_same_pair (link_in_words ws i) (link_in_words ws j) ≡ b
            → (is_same_pair (link_in_words ws i) (link_in_words ws j) ≡ true → is_same_pair (link_in_words ws i) (link_in_words ws j) ≡ false)
            → is_same_pair (link_in_words ws i) (link_in_words ws j) ≡ false
        go true e f = f e
        go false e f = e

    kept : {v : ℕ} → Stored t v → Stored (set t r (i + 1)) v
    kept s = record {
      place = s.place;
      is = set_other t r (i + 1) s.place (λ q. s.some (sym s.is ∙ ap (slot t) q ∙ z)) ∙ s.is;
      some = s.some;
    }

    pub Paired-new : Paired homes ws i t (set t r (i + 1)) false
    Paired-new =
        let hm : home_of_link homes ws (i + 1) ≡ home_of_pair homes (link_in_words ws i) = ap (home_of_pair homes) (link_slot ws (i + 1) i refl) in
        record {
          long = length-set t r (i + 1);
          seen = sym (seen_none (is_same_pair (link_in_words ws i)) ws i other_pair);
          new = λ f. record {
            seated = put (home_of_link homes ws) t r (i + 1) k.table.seated p.within (λ e. omega arith)
                (omega (arith, hm, p.passed.start)) (λ u g l. p.passed.run u (omega (arith, hm)) l);
            held = λ j h. ⊎_elim
                (λ e. record { place = r; is = set_here t r (i + 1) r p.within refl ∙ omega arith; some = λ q. omega arith })
                (λ n. kept (k.table.held j (omega arith)))
                (same? j i);
            only = λ s. ⊎_elim
                (λ e. omega (arith, set_here t r (i + 1) s p.within e))
                (λ n. omega (arith, set_other t r (i + 1) s n, k.table.only s))
                (same? s r);
            full = omega (arith, filled-set t r (i + 1) p.within z (λ e. omega arith), k.table.full);
          };
        }

-- a table of no links
pub no_links : (homes : ℕ) (ws t : List ℕ) (n : ℕ) → t ≡ replicate n 0 → Pairs homes ws 0 t
no_links homes ws t n e =
    let z : (s : ℕ) → slot t s ≡ 0 = λ s. ap (λ (l : List ℕ). slot l s) e ∙ slot_none n s in
    record {
      seated = λ s ns. absurd (ns (z s));
      held = λ j l. absurd (lt_irrefl j (omega arith));
      only = λ s. omega (arith, z s);
      full = ap filled e ∙ filled_none n;
    }
