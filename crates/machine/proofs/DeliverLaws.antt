-- A delivery in table and room: two stores move the waiting pair to held, and then the hearer's line is amended, or it is the destination.
use Prim.Native.Nat.{ℕ, ◌+◌, ◌*◌, ◌≤◌, ◌<◌}
use mathlib.Core.Path.{◌≡◌, refl, sym, ◌∙◌, ap}
use mathlib.Core.Logic.{◌≢◌}
use mathlib.Core.List.{List}
use native.Mathlib.Omega.{arith}
use native.Mathlib.Decide.{ℕ_discrete}
use lib.ListN.{get_or, set, length-set}
use lib.Seq.{get_or-set_same, get_or-set_other}
use borrow.Author.Tests.{eq-eqb}
use Rattle.rules.specs.declared.TypeLength.{TypeLength}
use Rattle.rules.specs.Lists.{changed}
use Rattle.rules.specs.Network.{links_of}
use Rattle.rules.specs.Machine.{nothing, waits, State, elected, receiver, deliver}
use Rattle.rules.proofs.Tests.{changed_same, changed_other}
use Rattle.rules.proofs.ArcLaws.{direction_unique}
use Rattle.rules.proofs.MachineLaws.{receiver_is}
use Rattle.rules.proofs.MachineCounts.{by_changed}
use Rattle.offers.specs.declared.Way.{Way}
use Rattle.offers.specs.Ways.{arc_at, way_of_direction}
use Rattle.machine.specs.Room.{pair_of, wait_of, held_word, waiting_word, net_of, ases_in, as_at, Laid, Holds}
use Rattle.machine.specs.Steps.{Amended, Delivered}
use Rattle.machine.proofs.HeldLaws.{as_place, Laid-way, Laid-direction, Laid-arc}
use Rattle.machine.proofs.StateLaws.{wait_pair, Laid-room}

abbrev pub moved : ℕ → List ℕ → ℕ → List ℕ
moved m r k = set (set r (2 * m + k) (waiting_word m r k)) (4 * m + k) 0

module _ {ws : List ℕ} {m d k : ℕ} {t r : List ℕ} (l : Laid ws m t r) (home : d < ases_in ws) (inside : k < 2 * m) where
  moved_word : (i : ℕ) → i ≢ 2 * m + k → i ≢ 4 * m + k → get_or (moved m r k) i 0 ≡ get_or r i 0
  moved_word i p q =
      get_or-set_other (set r (2 * m + k) (waiting_word m r k)) (4 * m + k) i 0 0 q
      ∙ get_or-set_other r (2 * m + k) i (waiting_word m r k) 0 p

  moved-Laid : Laid ws m t (moved m r k)
  moved-Laid =
      Laid-room l (moved m r k) (simp length-set) (λ j h. moved_word j (λ e. omega arith) (λ e. omega arith))
      (λ j h. moved_word j (λ e. omega arith) (λ e. omega arith))

  -- the pair that waited is held now, and nothing waits
  moved_holds : {rest : List ℕ} {s : State} (p : TypeLength) → Holds ws m rest s t r → s.waiting k ≡ waits p
      → Holds ws m rest (record { lines = s.lines; held = changed s.held k p; waiting = changed s.waiting k nothing }) t (moved m r k)
  moved_holds {rest} {s} p h w =
      record {
        lines = h.lines;
        held = λ j i. held j i (ℕ_discrete j k);
        waiting = λ j i. waiting j i (ℕ_discrete j k);
      }
    where
      held : (j : ℕ) → j < 2 * m → Dec (j ≡ k) → pair_of (held_word m (moved m r k) j) ≡ changed s.held k p j
      held j i (yes e) =
          let room = l.room in
          let first = get_or-set_other (set r (2 * m + k) (waiting_word m r k)) (4 * m + k) (2 * m + k) 0 0 (λ f. omega (arith, inside)) in
          let at = get_or-set_same r (2 * m + k) (waiting_word m r k) 0 (omega (arith, inside)) in
          rw e (ap pair_of (first ∙ at) ∙ wait_pair (waiting_word m r k) p (h.waiting k inside ∙ w) ∙ sym (changed_same s.held k p k refl))
      held j i (no ne) =
          ap pair_of (moved_word (2 * m + j) (λ f. ne (omega arith)) (λ f. omega (arith, inside))) ∙ h.held j i
          ∙ sym (changed_other s.held k p j ne)

      waiting : (j : ℕ) → j < 2 * m → Dec (j ≡ k) → wait_of (waiting_word m (moved m r k) j) ≡ changed s.waiting k nothing j
      waiting j i (yes e) =
          let room = l.room in
          let at = get_or-set_same (set r (2 * m + k) (waiting_word m r k)) (4 * m + k) 0 0 (simp length-set (omega (arith, inside))) in
          rw e (ap wait_of at ∙ sym (changed_same s.waiting k nothing k refl))
      waiting j i (no ne) =
          ap wait_of (moved_word (4 * m + j) (λ f. omega arith) (λ f. ne (omega arith))) ∙ h.waiting j i
          ∙ sym (changed_other s.waiting k nothing j ne)

  -- q is the room then, and w direction k
  module _ (q : List ℕ) (now : q ≡ moved m r k) (w : Way) (is : w ≡ way_of_direction (links_of ws) q k) where
    laid : Laid ws m t q
    laid = rw now moved-Laid

    hearer_in : w.hearer < ases_in ws
    hearer_in = rw is (Laid-way laid k inside).hearer_in

    hears : as_at ws w.hearer ≡ receiver (net_of ws) k
    hears =
        let i = inside in
        let a = arc_at (links_of ws) k in
        rw is (Laid-way laid k i).hearer
        ∙ sym (receiver_is (net_of ws) (direction_unique (links_of ws)) a (Laid-arc laid k i))
        ∙ ap (receiver (net_of ws)) (Laid-direction laid k i)

    pub deliver_home : w.hearer ≡ d → Delivered ws m d k t r t q
    unfolding deliver elected
    deliver_home e =
        let home : receiver (net_of ws) k ≡ as_at ws d = sym hears ∙ ap (as_at ws) e in
        record {
          after = λ rest s p b h ok f short long fits.
              rw (now, eq-eqb (receiver (net_of ws) k) (as_at ws d) home) (moved_holds p h f);
        }

    -- the line that is amended was elected over what was held before
    pub deliver_Amended : w.hearer ≢ d → {t' r' : List ℕ} → Amended ws m k t q w.hearer t' r' → Delivered ws m d k t r t' r'
    unfolding deliver
    deliver_Amended ne a =
        let off : as_at ws w.hearer ≢ as_at ws d = (λ e. ne (as_place ws w.hearer d hearer_in home e)) in
        record {
          after = λ rest s p b h ok f short long fits.
              rw (← hears)
              (a.after rest _ s.held (as_at ws d) b (rw now (moved_holds p h f)) (ok.line (as_at ws w.hearer) off)
              (λ j. changed_other s.held k p j)
              (λ j. by_changed (λ (x : TypeLength). x.length ≤ b) s.held k p long j (short j)) fits off);
        }
