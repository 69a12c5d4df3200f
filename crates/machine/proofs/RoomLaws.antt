-- Sending along the index: a word that is put on one direction leaves every other word as it was, and the directions passed over are not
-- the sender's.
use Prim.Native.Nat.{ℕ, ◌+◌, ◌*◌, ◌≤◌, ◌<◌}
use mathlib.Core.Path.{◌≡◌, refl, sym, ◌∙◌, ap, subst}
use mathlib.Core.Logic.{◌≢◌}
use mathlib.Core.List.{List}
use native.Mathlib.Omega.{arith}
use native.Mathlib.Decide.{ℕ_discrete, dec_lt}
use lib.ListN.{length, set, length-set}
use lib.Seq.{get_or-set_same, get_or-set_other}
use Rattle.offers.specs.Ways.{partner}
use Rattle.machine.specs.Room.{place_word, waiting_word, next_word, head_word, hearer_word, HeardFrom, ases_in, Laid}
use Rattle.machine.specs.Steps.{Sent}
use Rattle.machine.proofs.IndexLaws.{partner_twice, partner_in, hearer_partner}

pub Sent-none : {m u j : ℕ} {r : List ℕ} → HeardFrom m r u 0 j → (w : ℕ) → Sent m u w j r r
Sent-none {m} {u} {j} {r} h w =
    record {
      long = refl;
      below = λ i p. refl;
      above = λ i p. refl;
      on = λ k p e. absurd (h.passed (partner k) (omega arith) p (hearer_partner r k ∙ e));
      off = λ k p. refl;
    }

module _ {m u w k : ℕ} {r q : List ℕ} (s : Sent m u w k r q) (inside : k < 2 * m) (own : hearer_word r k ≡ u) (fits : 6 * m ≤ length r)
    {j : ℕ} (next : HeardFrom m r u (k + 1) j) where
  pub Sent-more : Sent m u w j r (set q (4 * m + partner k) w)
  Sent-more =
      record {
        long = length-set q (4 * m + partner k) w ∙ s.long;
        below = λ i h. get_or-set_other q (4 * m + partner k) i w 0 (λ f. omega arith) ∙ s.below i h;
        above = λ i h. get_or-set_other q (4 * m + partner k) i w 0 (λ f. omega (arith, partner_in m k inside)) ∙ s.above i h;
        on = λ i h p. at_on i h p (ℕ_discrete i (partner k));
        off = λ i h. get_or-set_other q (4 * m + partner k) (4 * m + i) w 0 (λ f. other i h (omega arith)) ∙ s.off i (λ l. h (omega (arith, next.after)));
      }
    where
      before : (i : ℕ) → partner i < j → place_word r i ≡ u → i ≢ partner k → Dec (partner i < k) → partner i < k
      before i h p ne (yes l) = l
      before i h p ne (no l) =
          let apart : partner i ≢ k = (λ e. ne (sym (partner_twice i) ∙ ap partner e)) in
          absurd (next.passed (partner i) (omega (arith, l, apart)) h (hearer_partner r i ∙ p))

      at_on : (i : ℕ) → partner i < j → place_word r i ≡ u → Dec (i ≡ partner k) → waiting_word m (set q (4 * m + partner k) w) i ≡ w
      at_on i h p (yes f) = rw f (get_or-set_same q (4 * m + partner k) w 0 (omega (arith, s.long, partner_in m k inside)))
      at_on i h p (no ne) =
          get_or-set_other q (4 * m + partner k) (4 * m + i) w 0 (λ f. ne (omega arith))
          ∙ s.on i (before i h p ne (dec_lt (partner i) k)) p

      other : (i : ℕ) → (partner i < j → place_word r i ≢ u) → i ≢ partner k
      other i h f =
          let back : partner i ≡ k = ap partner f ∙ partner_twice k in
          h (omega (arith, next.after)) (ap (place_word r) f ∙ own)

  -- the next direction reads the same in the room as it is then
  pub next_stays : next_word m (set q (4 * m + partner k) w) k ≡ next_word m r k
  next_stays = Sent-more.above (6 * m + k) (omega arith)

-- The loop ------------------------------------------------------------------------------------------------------------------

-- the AS at place u has sent the word w before it comes to direction k, which it hears over
pub record SentTo (m u w : ℕ) (r : List ℕ) (k : ℕ) (q : List ℕ) : Type 0 where
  pub bound : k ≤ 2 * m
  pub own : k < 2 * m → hearer_word r k ≡ u
  pub sent : Sent m u w k r q

module _ {ws : List ℕ} {m u : ℕ} {t r : List ℕ} (g : Laid ws m t r) (place : u < ases_in ws) (w : ℕ) where
  pub send_first : {k : ℕ} → k ≡ head_word m r u → SentTo m u w r k r
  send_first e =
      let head = g.index.heads u place in
      rw e (record { bound = head.bound; own = head.own; sent = Sent-none head w })

  module _ {k : ℕ} {q : List ℕ} (s : SentTo m u w r k q) (inside : k < 2 * m) {p j : ℕ} {q' : List ℕ} (is : p ≡ partner k)
      (put : q' ≡ set q (4 * m + p) w) (then : j ≡ next_word m q' k) where
    next : HeardFrom m r u (k + 1) (next_word m r k)
    next = subst (λ (v : ℕ). HeardFrom m r v (k + 1) (next_word m r k)) (s.own inside) (g.index.nexts k (omega arith) inside)

    room_is : q' ≡ set q (4 * m + partner k) w
    room_is = put ∙ ap (λ (i : ℕ). set q (4 * m + i) w) is

    next_is : j ≡ next_word m r k
    next_is =
        then ∙ ap (λ (x : List ℕ). next_word m x k) room_is ∙ next_stays s.sent inside (s.own inside) g.room next

    pub send_more : SentTo m u w r j q'
    send_more =
        record {
          bound = omega (arith, next.bound, next_is);
          own = rw next_is next.own;
          sent = rw (next_is, room_is) (Sent-more s.sent inside (s.own inside) g.room next);
        }

pub send_all : {m u w : ℕ} {r : List ℕ} {k : ℕ} {q : List ℕ} → SentTo m u w r k q → 2 * m ≤ k → Sent m u w (2 * m) r q
send_all {m} {u} {w} {r} {k} s h =
    let all : k ≡ 2 * m = omega (arith, s.bound) in
    rw all at s.sent
