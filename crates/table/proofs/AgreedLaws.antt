-- The judge's argument: a table in which every pair is the one that is due under the others is the stable table, but for next hops, and
-- those are the best offers'. What is due under the lines of the table has the same pairs, so it is due under itself.
use Prim.Native.Nat.{ℕ, ◌*◌, ◌≤◌, ◌<◌}
use mathlib.Core.Path.{◌≡◌, refl, sym, ◌∙◌, ap}
use mathlib.Core.Logic.{◌≢◌}
use mathlib.Core.List.{List, ◌++◌}
use native.Mathlib.Omega.{arith}
use native.Mathlib.Decide.{ℕ_discrete}
use borrow.Author.Tests.{eq-eqb, ne_eqb}
use lib.ListN.{length, get_or, drop}
use Rattle.rules.specs.declared.Link.{Link}
use Rattle.rules.specs.Pairs.{origin_of}
use Rattle.rules.specs.Lists.{In}
use Rattle.rules.specs.Network.{ases_of, arcs_of}
use Rattle.rules.specs.Stable.{Line, Routing, own, line_of, told, due, Stable, table_of}
use Rattle.rules.proofs.BestLaws.{best_same}
use Rattle.rules.proofs.StableFaces.{due-own, due_off}
use Rattle.rules.proofs.NetworkLaws.{ases_Distinct}
use Rattle.rules.proofs.ArcLaws.{arcs_ends}
use Rattle.rules.proofs.LineLaws.{table_length}
use Rattle.offers.specs.Lines.{number_word, next_word, entry_pair, entry_line, printed}
use Rattle.offers.specs.Ways.{index_in}
use Rattle.offers.specs.Passes.{offers_to}
use Rattle.offers.proofs.PlaceLaws.{place-In}
use Rattle.offers.proofs.TableLaws.{table_line, printed_at}
use Rattle.table.specs.Entries.{Filled}
use Rattle.table.specs.Steps.{pair_due, due_hop, Hopped, Agreed}
use Rattle.table.proofs.WordLaws.{table_is}

-- the destination's line
own_pair : (d : ℕ) → (own d).pair ≡ origin_of
unfolding own
own_pair d = refl

own_next : (d : ℕ) → (own d).next ≡ d
unfolding own
own_next d = refl

module _ (ls : List Link) (d : ℕ) {old t best : List ℕ} (room : 4 * length (ases_of ls) ≤ length old)
    (a : Agreed ls d (ases_of ls) old t best) where
  abbrev us : List ℕ
  us = ases_of ls

  -- what the table says, and what is due under it
  abbrev P : Routing
  P = printed (length us) t

  abbrev R : Routing
  R = due (arcs_of ls) d P

  number : (i : ℕ) → i < length us → number_word t i ≡ get_or us i 0
  number = a.lined.number

  says : (i : ℕ) → i < length us → P (get_or us i 0) ≡ entry_line t i
  says = printed_at us t (ases_Distinct ls) (omega (arith, a.lined.long)) number

  best-line : (i : ℕ) → i < length us → get_or us i 0 ≢ d → entry_line best i ≡ R (get_or us i 0)
  best-line i h ne =
      ap (λ (b : List ℕ). entry_line b i) a.elected ∙ table_line (offers_to ls t (length us)) a.beyond us i h
      ∙ sym (due_off (arcs_of ls) d P (get_or us i 0) ne)

  pair_at_lem : (i : ℕ) → i < length us → entry_pair t i ≡ (R (get_or us i 0)).pair
  pair_at_lem i h = sym (a.agrees i h).pair ∙ at (ℕ_discrete (get_or us i 0) d)
    where
      at : Dec (get_or us i 0 ≡ d) → pair_due d t best i ≡ (R (get_or us i 0)).pair
      at (yes e) = rw (eq-eqb (number_word t i) d (number i h ∙ e), e, due-own (arcs_of ls) d P) (sym (own_pair d))
      at (no ne) = rw (ne_eqb (number_word t i) d (λ e. ne (sym (number i h) ∙ e))) (ap (λ (l : Line). l.pair) (best-line i h ne))

  same_pair_lem : (v : ℕ) → In v us → (P v).pair ≡ (R v).pair
  same_pair_lem v is =
      let (h, e) = place-In us v is in
      rw e at (ap (λ (l : Line). l.pair) (says (index_in us v) h) ∙ pair_at_lem (index_in us v) h)

  stable : Stable (arcs_of ls) d R
  stable u = at (ℕ_discrete u d)
    where
      at : Dec (u ≡ d) → R u ≡ due (arcs_of ls) d R u
      at (yes e) = rw e (due-own (arcs_of ls) d P ∙ sym (due-own (arcs_of ls) d R))
      at (no ne) =
          due_off (arcs_of ls) d P u ne
          ∙ ap line_of (best_same (told P) (told R) u (arcs_of ls) (λ x m h. same_pair_lem x.neighbour (arcs_ends ls x m).1))
          ∙ sym (due_off (arcs_of ls) d R u ne)

  module _ {new : List ℕ} (hopped : Hopped d best (length us) t new) where
    next_at_lem : (i : ℕ) → i < length us → next_word new i ≡ (R (get_or us i 0)).next
    next_at_lem i h = hopped.next i h ∙ at (ℕ_discrete (get_or us i 0) d)
      where
        at : Dec (get_or us i 0 ≡ d) → due_hop d t best i ≡ (R (get_or us i 0)).next
        at (yes e) =
            rw (eq-eqb (number_word t i) d (number i h ∙ e), e, due-own (arcs_of ls) d P)
            (a.lined.next i h ∙ e ∙ sym (own_next d))
        at (no ne) = rw (ne_eqb (number_word t i) d (λ e. ne (sym (number i h) ∙ e))) (ap (λ (l : Line). l.next) (best-line i h ne))

    pub agreed_Filled : Filled ls d old new
    agreed_Filled =
        record {
          table = table_of R us;
          stable = record { routing = R; stable = stable; words = refl };
          words =
              table_is R us old new room
              (hopped.long ∙ a.lined.long)
              (λ i h. hopped.number i ∙ number i h)
              (λ i h. λ k. record { pair = (hopped.pair i ∙ pair_at_lem i h) k; next = next_at_lem i h k })
              (λ w h. hopped.rest w h ∙ a.lined.rest w h)
              ∙ ap (λ (k : ℕ). table_of R us ++ drop k old) (sym (table_length R us));
        }
