-- The phases: what is begun and settled in three phases has the pairs that are due. The stable routing is known (`stable_of-Stable`); the
-- phases leave its pairs (`NearLaws`), and what is due hangs on pairs alone.
use Prim.Native.Nat.{ℕ, suc, ◌-◌, ◌*◌, ◌≤◌, ◌<◌}
use mathlib.Core.Path.{◌≡◌, refl, sym, ◌∙◌, ap}
use mathlib.Core.Logic.{◌≢◌}
use mathlib.Core.List.{List, ◌++◌}
use native.Mathlib.Omega.{arith}
use native.Mathlib.Decide.{ℕ_discrete}
use borrow.Author.Tests.{eq-eqb, ne_eqb}
use lib.ListN.{length, get_or}
use Rattle.rules.specs.declared.Link.{Link}
use Rattle.rules.specs.Lists.{In}
use Rattle.rules.specs.Offers.{Arc}
use Rattle.rules.specs.Network.{links_of, ases_of, arcs_of}
use Rattle.rules.specs.Stable.{Line, Routing, line_of, told, table_of}
use Rattle.rules.specs.Solve.{stable_of}
use Rattle.rules.proofs.Faces.{typ, len, Marked, Settled}
use Rattle.rules.proofs.OfferLaws.{pair_same}
use Rattle.rules.proofs.BestLaws.{best_same}
use Rattle.rules.proofs.StableFaces.{due_off, stable_Settled}
use Rattle.rules.proofs.Exists.{stable_of-Stable}
use Rattle.rules.proofs.WalkLaws.{length_below}
use Rattle.rules.proofs.NetworkLaws.{ases_Distinct}
use Rattle.rules.proofs.ArcLaws.{arcs_ends, arcs_cost, arcs_positive}
use Rattle.rules.proofs.ListLaws.{at_in}
use Rattle.offers.specs.Lines.{number_word, entry_pair, printed, fresh_lines}
use Rattle.offers.specs.Ways.{index_in}
use Rattle.offers.specs.Passes.{offers_to}
use Rattle.offers.proofs.PlaceLaws.{place-In, place_at}
use Rattle.offers.proofs.TableLaws.{table_line, printed_at}
use Rattle.offers.proofs.FreshLaws.{LaidTo, laid_number, Laid-Line, fresh_own, fresh_other}
use Rattle.table.specs.Guess.{Framed}
use Rattle.table.specs.Phases.{Ready, Phased, first_phase, next_phase}
use Rattle.table.specs.Steps.{pair_due, Agreed}
use Rattle.table.proofs.LineLaws.{Framed-same, Framed-more, Lined-Framed}
use Rattle.table.proofs.StepLaws.{begun_Lined}
use Rattle.table.proofs.CloseLaws.{Close}
use Rattle.table.proofs.PhaseLaws.{Ready-Reached}
use Rattle.table.proofs.NearLaws.{Near, near_next, near_last}

-- The beginning --------------------------------------------------------------------------------------------------------------

-- what is begun is close in phase 1
Close-fresh : (Has : Arc → Type 0) (d : ℕ) (S : Routing) → Marked Has d S → (u : ℕ) → Close S d 1 u (fresh_lines d u).pair
Close-fresh Has d S m u = at (ℕ_discrete u d)
  where
    at : Dec (u ≡ d) → Close S d 1 u (fresh_lines d u).pair
    at (yes e) =
        rw (fresh_own d u e)
        (record {
          own = λ q. (refl, refl);
          exact = λ s. absurd (omega (arith, m.low u));
          below = λ s. absurd (omega arith);
          there = λ s. (ap (typ S) e ∙ m.own_typ, omega (arith, ap (len S) e, m.own_len));
          above = λ ne s. absurd (ne e);
        })
    at (no ne) =
        rw (fresh_other d u ne)
        (record {
          own = λ e. absurd (ne e);
          exact = λ s. absurd (omega (arith, m.low u));
          below = λ s. absurd (omega arith);
          there = λ s. absurd (omega arith);
          above = λ q s. (refl, refl);
        })

-- From the beginning to the stable pairs -------------------------------------------------------------------------------------

module _ (ws : List ℕ) (d : ℕ) (ps : List ℕ) where
  abbrev ls : List Link
  ls = links_of ws

  abbrev us : List ℕ
  us = ases_of ls

  abbrev S : Routing
  S = stable_of (arcs_of ls) d

  settled : Settled (λ a. In a (arcs_of ls)) d S
  settled = stable_Settled (arcs_of ls) d S (stable_of-Stable (arcs_of ls) d)

  -- so the cap never bites
  short : (u : ℕ) → len S u ≤ length us - 1
  short = length_below (λ a. In a (arcs_of ls)) (arcs_positive ls) d S settled us (arcs_ends ls) (arcs_cost ls)

  Near-begun : {old t : List ℕ} → LaidTo (fresh_lines d) us (length us) old t → Near S d 1 us t
  Near-begun {old} {t} b u is =
      let (h, e) = place-In us u is in
      rw (ap (λ (l : Line). l.pair) (Laid-Line b (index_in us u) h), e) (Close-fresh (λ a. In a (arcs_of ls)) d S settled.marked u)

  -- the phases ask no more than they keep
  module _ {t : List ℕ} (r : Ready ws ps (length us - 1) t) where
    phased_kept : {g : ℕ} {u : List ℕ} → Phased ls ps (length us - 1) t g u → Ready ws ps (length us - 1) u × Framed (length us) t u
    phased_kept first_phase = (r, Framed-same t)
    phased_kept (next_phase f g u v p s e) =
        let k = phased_kept p in
        let m = Ready-Reached k.0 s.reached in
        (m.0, Framed-more k.1 m.1)

    phased_low : {g : ℕ} {u : List ℕ} → Phased ls ps (length us - 1) t g u → 1 ≤ g
    phased_low first_phase = omega arith
    phased_low (next_phase f g u v p s e) = omega arith

    phased_near : {g : ℕ} {u : List ℕ} → Phased ls ps (length us - 1) t g u → g ≤ 3 → Near S d 1 us t → Near S d g us u
    phased_near first_phase l near = near
    phased_near (next_phase f g u v p s e) l near =
        let next : suc f ≡ g = omega arith in
        rw next at
        (near_next ls ps r.placed d (length us - 1) S settled.marked short f (phased_low p) u v (phased_kept p).0.room s (omega arith)
        (phased_near p (omega arith) near))

    phased_last : {g : ℕ} {u : List ℕ} → Phased ls ps (length us - 1) t g u → g ≡ 4 → Near S d 1 us t
        → (v : ℕ) → In v us → entry_pair u (index_in us v) ≡ (S v).pair
    phased_last first_phase h near = absurd (omega arith)
    phased_last (next_phase f g u v p s e) h near =
        near_last ls ps r.placed d (length us - 1) S settled.marked short f (phased_low p) u v (phased_kept p).0.room s (omega arith)
        (phased_near p (omega arith) near)

    module _ {u : List ℕ} (p : Phased ls ps (length us - 1) t 4 u) where
      pub phased_Ready : Ready ws ps (length us - 1) u
      phased_Ready = (phased_kept p).0

      pub phased_Framed : Framed (length us) t u
      phased_Framed = (phased_kept p).1

      phased_pairs : Near S d 1 us t → (v : ℕ) → In v us → entry_pair u (index_in us v) ≡ (S v).pair
      phased_pairs = phased_last p refl

  -- the election over these pairs
  module _ (t : List ℕ) (room : 4 * length us ≤ length t) (number : (i : ℕ) → i < length us → number_word t i ≡ get_or us i 0)
      (pairs : (v : ℕ) → In v us → entry_pair t (index_in us v) ≡ (S v).pair) where
    printed-pair : (v : ℕ) → In v us → (printed (length us) t v).pair ≡ (S v).pair
    printed-pair v is =
        let (h, e) = place-In us v is in
        ap (λ (x : ℕ). (printed (length us) t x).pair) (sym e)
        ∙ ap (λ (l : Line). l.pair) (printed_at us t (ases_Distinct ls) room number (index_in us v) h) ∙ pairs v is

    offers_due : (u : ℕ) → u ≢ d → offers_to ls t (length us) u ≡ S u
    offers_due u ne =
        ap line_of (best_same (told (printed (length us) t)) (told S) u (arcs_of ls) (λ a m h. printed-pair a.neighbour (arcs_ends ls a m).1))
        ∙ sym (stable_of-Stable (arcs_of ls) d u ∙ due_off (arcs_of ls) d S u ne)

  -- Every pair is due --------------------------------------------------------------------------------------------------------

  module _ {old first t best : List ℕ} (beyond : List ℕ) (begun : LaidTo (fresh_lines d) us (length us) old first)
      (ready : Ready ws ps (length us - 1) first) (phased : Phased ls ps (length us - 1) first 4 t)
      (elected : best ≡ table_of (offers_to ls t (length us)) us ++ beyond) where
    number : (i : ℕ) → i < length us → number_word t i ≡ get_or us i 0
    number i h = (phased_Framed ready phased).number i ∙ laid_number begun i h

    pairs : (v : ℕ) → In v us → entry_pair t (index_in us v) ≡ (S v).pair
    pairs = phased_pairs ready phased (Near-begun begun)

    pair_at_lem : (i : ℕ) → i < length us → entry_pair t i ≡ (S (get_or us i 0)).pair
    pair_at_lem i h = ap (entry_pair t) (sym (place_at us (ases_Distinct ls) i h)) ∙ pairs (get_or us i 0) (at_in 0 us i h)

    due_pair : (i : ℕ) → i < length us → Dec (get_or us i 0 ≡ d) → pair_due d t best i ≡ (S (get_or us i 0)).pair
    due_pair i h (yes e) =
        rw (eq-eqb (number_word t i) d (number i h ∙ e), e) (sym (pair_same (settled.marked.own_typ, settled.marked.own_len)))
    due_pair i h (no ne) =
        rw (ne_eqb (number_word t i) d (λ e. ne (sym (number i h) ∙ e)))
        (ap (λ (b : List ℕ). entry_pair b i) elected ∙ ap (λ (l : Line). l.pair) (table_line (offers_to ls t (length us)) beyond us i h)
        ∙ ap (λ (l : Line). l.pair) (offers_due t (phased_Ready ready phased).room number pairs (get_or us i 0) ne))

    pub phased_Agreed : 4 * length us ≤ length old → Agreed ls d us old t best
    phased_Agreed room =
        record {
          lined = Lined-Framed (begun_Lined d begun room) (phased_Framed ready phased);
          beyond = beyond;
          elected = elected;
          agrees = λ i h. record { pair = due_pair i h (ℕ_discrete (get_or us i 0) d) ∙ sym (pair_at_lem i h) };
        }
