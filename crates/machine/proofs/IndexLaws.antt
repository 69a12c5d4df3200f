-- The index: partners, an index that stays under stores elsewhere, and its making, a direction in front of the others each time.
use Prim.Native.Nat.{ℕ, ◌+◌, ◌-◌, ◌*◌, ◌%◌, ◌≤◌, ◌<◌}
use mathlib.Core.Path.{◌≡◌, sym, ◌∙◌, ap, subst}
use mathlib.Core.Logic.{◌≢◌}
use mathlib.Core.List.{List}
use native.Mathlib.Omega.{arith}
use native.Mathlib.Decide.{ℕ_discrete}
use lib.ListN.{length, get_or, set, length-set}
use lib.Seq.{get_or-set_same, get_or-set_other}
use borrow.Author.Tests.{eq-eqb, ne_eqb}
use Rattle.offers.specs.Ways.{partner}
use Rattle.offers.proofs.WayLaws.{partner_within}
use Rattle.machine.specs.Room.{place_word, next_word, head_word, hearer_word, HeardFrom, Indexed}
use Rattle.machine.specs.Index.{Indexing, NoHeads, HasHead, with_direction, IndexLaid}

-- Partners ------------------------------------------------------------------------------------------------------------------

partner_even : (k : ℕ) → k % 2 ≡ 0 → partner k ≡ k + 1
partner_even k e = rw (eq-eqb (k % 2) 0 e)

partner_odd : (k : ℕ) → k % 2 ≢ 0 → partner k ≡ k - 1
partner_odd k ne = rw (ne_eqb (k % 2) 0 ne)

pub partner_twice : (k : ℕ) → partner (partner k) ≡ k
partner_twice k = go (ℕ_discrete (k % 2) 0)
  where
    go : Dec (k % 2 ≡ 0) → partner (partner k) ≡ k
    go (yes e) =
        let back : k + 1 - 1 ≡ k = omega arith in
        ap partner (partner_even k e) ∙ partner_odd (k + 1) (λ f. omega arith) ∙ back
    go (no ne) =
        let odd : k % 2 ≡ 1 = omega (arith, ne) in
        let back : k - 1 + 1 ≡ k = omega arith in
        ap partner (partner_odd k ne) ∙ partner_even (k - 1) (omega arith) ∙ back

pub partner_in : (m k : ℕ) → k < 2 * m → partner k < 2 * m
partner_in m k h = omega (arith, partner_within k)

-- who tells over a direction hears over its partner
pub hearer_partner : (r : List ℕ) (k : ℕ) → hearer_word r (partner k) ≡ place_word r k
hearer_partner r k = ap (λ (i : ℕ). get_or r i 0) (partner_twice k)

-- What stays ----------------------------------------------------------------------------------------------------------------

module _ (m : ℕ) (r r' : List ℕ) (same : (i : ℕ) → i < 2 * m → get_or r' i 0 ≡ get_or r i 0) where
  hearer_same : (k : ℕ) → k < 2 * m → hearer_word r' k ≡ hearer_word r k
  hearer_same k h = same (partner k) (partner_in m k h)

  heard_same : {u k j : ℕ} → HeardFrom m r u k j → HeardFrom m r' u k j
  heard_same {u} {k} {j} h =
      record {
        after = h.after;
        bound = h.bound;
        passed = λ i p q e. h.passed i p q (sym (hearer_same i (omega (arith, h.bound))) ∙ e);
        own = λ p. hearer_same j p ∙ h.own p;
      }

  pub Indexed-same : {n k : ℕ} → Indexed m n k r → length r' ≡ length r → ((i : ℕ) → 6 * m ≤ i → get_or r' i 0 ≡ get_or r i 0) → Indexed m n k r'
  Indexed-same {n} {k} g long above =
      record {
        room = omega (arith, g.room);
        heads = λ u h. rw (above (8 * m + u) (omega arith)) (heard_same (g.heads u h));
        nexts = λ i p q. rw (hearer_same i q, above (6 * m + i) (omega arith)) (heard_same (g.nexts i p q));
      }

-- From no heads on ---------------------------------------------------------------------------------------------------------

module _ {m n : ℕ} {r q : List ℕ} (start : Indexing m n r) (g : NoHeads m n r q) where
  pub may_begin : Indexing m n q
  may_begin =
      record {
        few = start.few;
        room = omega (arith, start.room, g.long);
        hearers = λ k h. rw (hearer_same m r q (λ i l. g.below i (omega arith)) k h) (start.hearers k h);
      }

-- One direction more --------------------------------------------------------------------------------------------------------

module _ {m n j k : ℕ} {r q : List ℕ} (start : Indexing m n r) (g : IndexLaid m n j r q) (is : j ≡ k + 1) (inside : k < 2 * m) where
  hearer_in : hearer_word q k < n
  hearer_in = rw (hearer_same m r q (λ i h. g.below i (omega arith)) k inside) (start.hearers k inside)

  pub may_index : HasHead m k q
  may_index =
      record {
        few = start.few;
        direction = inside;
        room = omega (arith, hearer_in, start.room, g.long);
        head = (g.indexed.heads (hearer_word q k) hearer_in).bound;
      }

  word : (i : ℕ) → i ≢ 6 * m + k → i ≢ 8 * m + hearer_word q k → get_or (with_direction m q k) i 0 ≡ get_or q i 0
  word i a b =
      get_or-set_other (set q (6 * m + k) (head_word m q (hearer_word q k))) (8 * m + hearer_word q k) i k 0 b
      ∙ get_or-set_other q (6 * m + k) i (head_word m q (hearer_word q k)) 0 a

  low : (i : ℕ) → i < 6 * m → get_or (with_direction m q k) i 0 ≡ get_or q i 0
  low i h = word i (λ f. omega arith) (λ f. omega arith)

  moved : {u i e : ℕ} → HeardFrom m q u i e → HeardFrom m (with_direction m q k) u i e
  moved = heard_same m q (with_direction m q k) (λ i h. low i (omega arith))

  new_head : head_word m (with_direction m q k) (hearer_word q k) ≡ k
  new_head = get_or-set_same (set q (6 * m + k) (head_word m q (hearer_word q k))) (8 * m + hearer_word q k) k 0
      (simp length-set (omega (arith, may_index.room)))

  new_next : next_word m (with_direction m q k) k ≡ head_word m q (hearer_word q k)
  new_next =
      get_or-set_other (set q (6 * m + k) (head_word m q (hearer_word q k))) (8 * m + hearer_word q k) (6 * m + k) k 0 (λ f. omega arith)
      ∙ get_or-set_same q (6 * m + k) (head_word m q (hearer_word q k)) 0 (omega (arith, may_index.room))

  same_hearer : (i : ℕ) → i < 2 * m → hearer_word (with_direction m q k) i ≡ hearer_word q i
  same_hearer = hearer_same m q (with_direction m q k) (λ i h. low i (omega arith))

  heads : (u : ℕ) → u < n → Dec (u ≡ hearer_word q k) → HeardFrom m (with_direction m q k) u k (head_word m (with_direction m q k) u)
  heads u h (yes e) =
      rw (e, new_head)
      (record { after = omega arith; bound = omega arith; passed = λ i p l. absurd (omega arith); own = λ p. same_hearer k inside })
  heads u h (no ne) =
      let old = g.indexed.heads u h in
      rw (word (8 * m + u) (λ f. omega arith) (λ f. ne (omega arith)))
      (moved (record { after = omega (arith, old.after, is); bound = old.bound; passed = λ i p l. passed i p l (ℕ_discrete i k); own = old.own }))
    where
      passed : (i : ℕ) → k ≤ i → i < head_word m q u → Dec (i ≡ k) → hearer_word q i ≢ u
      passed i p l (yes f) e = ne (sym e ∙ ap (hearer_word q) f)
      passed i p l (no f) e = (g.indexed.heads u h).passed i (omega (arith, f, is)) l e

  nexts : (i : ℕ) → k ≤ i → i < 2 * m → Dec (i ≡ k)
      → HeardFrom m (with_direction m q k) (hearer_word (with_direction m q k) i) (i + 1) (next_word m (with_direction m q k) i)
  nexts i p l (yes e) =
      rw (e, same_hearer k inside, new_next)
      (subst (λ (x : ℕ). HeardFrom m (with_direction m q k) (hearer_word q k) x (head_word m q (hearer_word q k))) is (moved (g.indexed.heads (hearer_word q k) hearer_in)))
  nexts i p l (no ne) =
      rw (same_hearer i l, word (6 * m + i) (λ f. ne (omega arith)) (λ f. omega arith)) (moved (g.indexed.nexts i (omega (arith, ne, is)) l))

  pub index_more : IndexLaid m n k r (with_direction m q k)
  index_more =
      record {
        long = simp length-set g.long;
        below = λ i h. low i h ∙ g.below i h;
        indexed =
            record {
              room = simp length-set g.indexed.room;
              heads = λ u h. heads u h (ℕ_discrete u (hearer_word q k));
              nexts = λ i p l. nexts i p l (ℕ_discrete i k);
            };
      }
