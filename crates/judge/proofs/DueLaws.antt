-- The lines that are due: the shared pass leaves the best offer of every AS, and one store makes the destination's line origin. What the
-- lines told say, entry by entry, is the table of the routing that they print.
use Prim.Native.Nat.{ℕ, ◌*◌, ◌≤◌, ◌<◌}
use mathlib.Core.Path.{◌≡◌, sym, ◌∙◌, ap}
use mathlib.Core.Logic.{◌≢◌}
use mathlib.Core.List.{List, [], ◌++◌, append-nil}
use native.Mathlib.Omega.{arith}
use lib.ListN.{length, get_or, take, drop}
use lib.Seq.{take_all, take-length, take_at}
use Rattle.rules.specs.Replies.{Verdict}
use Rattle.rules.specs.declared.Link.{Link}
use Rattle.rules.specs.Network.{links_of, ases_of, arcs_of}
use Rattle.rules.specs.Stable.{Line, Routing, own, due, table_of}
use Rattle.rules.specs.Judge.{Entry, entries_of, words_of, entries_for, routing_of, best_offers}
use Rattle.rules.proofs.StableFaces.{due-own, due_off}
use Rattle.rules.proofs.EntryLaws.{entries_words}
use Rattle.rules.proofs.ListLaws.{at_in}
use Rattle.rules.proofs.LineLaws.{table_length, table_entries}
use Rattle.offers.specs.Lines.{number_word, entry_line, with_line, printed}
use Rattle.offers.specs.Ways.{places_of}
use Rattle.offers.specs.Passes.{offers_to}
use Rattle.offers.specs.Placing.{Placing, with_places}
use Rattle.offers.specs.Electing.{Electing, with_offers}
use Rattle.offers.proofs.PlaceLaws.{places_length}
use Rattle.offers.proofs.TableLaws.{table_number, table_line, table_put}
use Rattle.judge.specs.Steps.{differ_from, Network, Told, with_due}
use Rattle.judge.proofs.NetworkLaws.{distinct}
use Rattle.judge.proofs.DifferLaws.{differ_best}

-- What the lines told say --------------------------------------------------------------------------------------------------

module _ {us t : List ℕ} (w : Told us t) where
  abbrev says : Routing
  says = routing_of (entries_of t)

  spelled : table_of says us ++ [] ≡ t
  spelled = append-nil (table_of says us) ∙ sym w.words

  pub told_length : length t ≡ 4 * length us
  told_length = ap length w.words ∙ table_length says us

  told_number : (i : ℕ) → i < length us → number_word t i ≡ get_or us i 0
  told_number i h = ap (λ (l : List ℕ). number_word l i) (sym spelled) ∙ table_number says [] us i h

  told_line : (i : ℕ) → i < length us → entry_line t i ≡ says (get_or us i 0)
  told_line i h = ap (λ (l : List ℕ). entry_line l i) (sym spelled) ∙ table_line says [] us i h

  told_printed : printed (length us) t ≡ says
  told_printed = ap (λ (l : List ℕ). routing_of (entries_of l)) (take_all (4 * length us) t (omega (arith, told_length)))

  told_entries : entries_of t ≡ entries_for says us
  told_entries = ap entries_of w.words ∙ table_entries says us

-- The pass -----------------------------------------------------------------------------------------------------------------

module _ {ws us : List ℕ} (n : Network ws us) where
  pub placing : (ps : List ℕ) → 3072 ≤ length ps → Placing ws us (length us) ps
  placing ps h =
      record {
        list = take-length us ∙ n.ases;
        count = ap length n.ases;
        few = omega (arith, n.few_ases);
        room = omega (arith, n.few_links);
      }

  module _ {t : List ℕ} (w : Told us t) where
    pub electing : (old : List ℕ) {ps : List ℕ} → ps ≡ with_places (links_of ws) old → Electing (links_of ws) ps t (length us)
    electing old {ps} e =
        let ls = links_of ws in
        record {
          placed = ap (take (2 * length ls)) e ∙ take_at (places_of (ases_of ls) ls) _ (2 * length ls) (places_length (ases_of ls) ls);
          count = ap length n.ases;
          numbers = λ i h. told_number w i h ∙ ap (λ (l : List ℕ). get_or l i 0) n.ases;
          wide =
              record {
                short = λ i h. omega (arith, ap (λ (l : Line). l.pair.length) (told_line w i h), w.short (get_or us i 0) (at_in 0 us i h));
              };
          room = omega (arith, told_length w);
        }

    -- the best offers, and the destination's line made origin
    pub due_put : (at : ℕ) → at < length us → (old : List ℕ) {best new : List ℕ} → best ≡ with_offers (links_of ws) t (length us) old
        → new ≡ with_line best at (own (get_or us at 0)) → new ≡ with_due (links_of ws) (get_or us at 0) t us old
    due_put at h old {best} {new} e f =
        let ls = links_of ws in
        let d = get_or us at 0 in
        let S = due (arcs_of ls) d (says w) in
        let other : (v : ℕ) → v ≢ d → S v ≡ offers_to ls t (length us) v =
        (λ v ne. due_off (arcs_of ls) d (says w) v ne ∙ rw (told_printed w)) in
        let whole = table_put (offers_to ls t (length us)) (drop (4 * length us) old) S us (distinct n) at h other in
        f ∙ ap (λ (b : List ℕ). with_line b at (own d)) (rw (← n.ases) at e) ∙ rw (due-own (arcs_of ls) d (says w)) at whole

-- Refusal 12 ---------------------------------------------------------------------------------------------------------------

pub due_judged : (ls : List Link) {us t : List ℕ} (w : Told us t) (d : ℕ) (old : List ℕ) {best : List ℕ} → best ≡ with_due ls d t us old
    → differ_from 0 (entries_of t) (entries_of (take (4 * length us) best)) ≡ best_offers (arcs_of ls) d (entries_of t)
due_judged ls {us} {t} w d old {best} e =
    let S = due (arcs_of ls) d (says w) in
    let front : take (4 * length us) best ≡ table_of S us = ap (take (4 * length us)) e ∙ take_at (table_of S us) _ (4 * length us) (table_length S us) in
    ap (λ (b : List ℕ). differ_from 0 (entries_of t) (entries_of b)) front
    ∙ ap (differ_from 0 (entries_of t)) (table_entries S us)
    ∙ differ_best (arcs_of ls) d (entries_of t) us (told_entries w)

-- of the words of lines it is that of the lines
pub offers_told : (ls : List Link) (es : List Entry) {d e : ℕ} {t : List ℕ} {v : Verdict} → v ≡ best_offers (arcs_of ls) d (entries_of t) → d ≡ e
    → t ≡ words_of es → v ≡ best_offers (arcs_of ls) e es
offers_told ls es {d} {e} {t} {v} p q r = rw (r, entries_words es, q) at p
