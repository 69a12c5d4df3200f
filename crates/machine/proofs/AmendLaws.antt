-- One held pair changes: what its hearer elects then. A new offer that is better than the line is elected; a line that is no worse and
-- rests on another neighbour stays. The line was elected over what was held before, and over every other direction that is held still.
-- What the code compares, the offer that the line stands for and the one over the direction, decides the same.
--
--   Named net          an arc's rank is its neighbour's number
--   over h             what is told over each arc, where h are the pairs held
use Prim.Native.Nat.{ℕ, ◌+◌, ◌*◌, ◌≤◌, ◌<◌}
use mathlib.Core.Path.{◌≡◌, refl, sym, ◌∙◌, ap}
use mathlib.Core.Logic.{◌⊎◌, inl, inr, ⊎_elim, ◌≢◌}
use mathlib.Core.Bool.{true, false}
use mathlib.Core.List.{List}
use native.Mathlib.Omega.{arith}
use native.Mathlib.Decide.{ℕ_discrete}
use lib.ListN.{length}
use lib.Seq.{set-get_or}
use borrow.Author.Tests.{lt-ltb, eq-eqb}
use Rattle.rules.specs.declared.TypeLength.{TypeLength}
use Rattle.rules.specs.Lists.{In}
use Rattle.rules.specs.Pairs.{extended_type, extension, same_as}
use Rattle.rules.specs.Offers.{Arc, Offer, none, offer, better, choose, heard, best}
use Rattle.rules.specs.Network.{links_of, ases_of}
use Rattle.rules.specs.Stable.{Line, line_of}
use Rattle.rules.specs.Machine.{State}
use Rattle.rules.proofs.Faces.{Le}
use Rattle.rules.proofs.OfferLaws.{Ext-cell, Ext-range, extension_is, extension_none, heard_own, heard_cases}
use Rattle.rules.proofs.OfferLaws.{Less, le_refl, le_trans, Less-apart, better-Less, choose-Le, choose_one}
use Rattle.rules.proofs.BestLaws.{Best, Source, nowhere, from_arc, best_is, best_Source, heard_same, best_Le-none, Best-alike}
use Rattle.rules.proofs.ArcLaws.{Directed, direction_unique, arcs_rank}
use Rattle.rules.proofs.MachineLaws.{line_over}
use Rattle.offers.specs.declared.Way.{Way}
use Rattle.offers.specs.declared.Offered.{Offered}
use Rattle.offers.specs.Lines.{entry_pair, with_line}
use Rattle.offers.specs.Ways.{arc_at, way_of_direction}
use Rattle.offers.specs.Passes.{as_offer}
use Rattle.offers.specs.Steps.{ranked_offer, Fair}
use Rattle.offers.specs.Electing.{entry_offer}
use Rattle.offers.proofs.WayLaws.{WayArc}
use Rattle.offers.proofs.ConsiderLaws.{Le-Fair, considered, choose_new, choose_old}
use Rattle.machine.specs.Room.{pair_word, pair_of, held_word, net_of, ases_in, as_at, Laid, Holds}
use Rattle.machine.specs.Steps.{Took, held_offer, Amended}
use Rattle.machine.proofs.HeldLaws.{Laid-way, Laid-direction, Laid-arc, Laid-over}
use Rattle.machine.proofs.StateLaws.{Anew, own_line, took_Holds}

-- One changed pair ----------------------------------------------------------------------------------------------------------

abbrev pub Named : List Arc → Type 0
Named net = (a : Arc) → In a net → a.rank ≡ a.neighbour

abbrev pub over : (ℕ → TypeLength) → Arc → TypeLength
over h a = h a.direction

module _ {net : List Arc} (named : Named net) {told : Arc → TypeLength} {u : ℕ} where
  -- the best offer is the one that its line stands for
  pub Best-standing : {o : Offer} → Best told u net o → as_offer (ranked_offer o.pair o.next) ≡ o
  unfolding none
  Best-standing {o} b = go (best_Source b)
    where
      go : {o : Offer} → Source told u net o → as_offer (ranked_offer o.pair o.next) ≡ o
      go {o} (nowhere e) = rw e refl
      go {o} (from_arc a m h v) =
          let reached = lt-ltb o.pair.typ 4 (omega (arith, Ext-range v.ext)) in
          let same : o.next ≡ o.rank = v.next ∙ sym (named a m) ∙ sym v.rank in
          let ranked : (ranked_offer o.pair o.next).rank ≡ o.rank = rw reached same in
          λ i. record { pair = o.pair; rank = ranked i; next = o.next }

  -- and the only one, also where two arcs join the same ASes
  Best-only : {o p : Offer} → Best told u net o → Best told u net p → o ≡ p
  Best-only b c = Best-alike b c (λ a a' m m' h r. sym (named a m) ∙ r ∙ named a' m')

-- h and h': the pairs held before and after, which differ on arc a's direction alone
module _ (net : List Arc) (unique : Directed net) (a : Arc) (has : In a net) {u : ℕ} (own : a.hearer ≡ u) (h h' : ℕ → TypeLength)
    (same : (j : ℕ) → j ≢ a.direction → h' j ≡ h j) where
  -- over any other arc the same is heard
  still : (b : Arc) → In b net → (b ≡ a) ⊎ (heard (over h') u b ≡ heard (over h) u b)
  still b m = go (ℕ_discrete b.direction a.direction)
    where
      go : Dec (b.direction ≡ a.direction) → (b ≡ a) ⊎ (heard (over h') u b ≡ heard (over h) u b)
      go (yes e) = inl (unique b a m has e)
      go (no ne) = inr (heard_same (over h') (over h) u b (λ e. same b.direction ne))

  new_heard : heard (over h') u a ≡ offer a (h' a.direction)
  new_heard = heard_own (over h') u a own

  pub amend_better : Less (offer a (h' a.direction)) (best (over h) u net) → best (over h') u net ≡ offer a (h' a.direction)
  amend_better less = go b'.one
    where
      o : Offer
      o = best (over h) u net

      q : Offer
      q = best (over h') u net

      b' : Best (over h') u net q
      b' = best_is (over h') u net

      late : Le o q → ⊥
      late l = Less-apart less (le_trans l (rw new_heard at (b'.least a has)))

      go : (q ≡ none u) ⊎ ((b : Arc) × In b net × (q ≡ heard (over h') u b)) → q ≡ offer a (h' a.direction)
      go (inl e) = absurd (late (rw e (best_Le-none (best_is (over h) u net))))
      go (inr (b, m, e)) =
          ⊎_elim (λ f. e ∙ ap (heard (over h') u) f ∙ new_heard)
          (λ f. (let g : q ≡ heard (over h) u b = e ∙ f in absurd (late (rw g ((best_is (over h) u net).least b m))))) (still b m)

  pub amend_kept : Named net → Le (best (over h) u net) (offer a (h' a.direction)) → (best (over h) u net).next ≢ a.neighbour
      → best (over h') u net ≡ best (over h) u net
  amend_kept named le ne = Best-only named (best_is (over h') u net) (record { one = one b.one; least = least })
    where
      o : Offer
      o = best (over h) u net

      b : Best (over h) u net o
      b = best_is (over h) u net

      one : (o ≡ none u) ⊎ ((c : Arc) × In c net × (o ≡ heard (over h) u c)) → (o ≡ none u) ⊎ ((c : Arc) × In c net × (o ≡ heard (over h') u c))
      one (inl e) = inl e
      one (inr (c, m, e)) =
          ⊎_elim
          (λ f. ⊎_elim (λ n. inl (e ∙ n)) (λ v. absurd (ne (ap (λ (x : Offer). x.next) e ∙ v.1.next ∙ ap (λ (x : Arc). x.neighbour) f)))
          (heard_cases (over h) u c))
          (λ f. inr (c, m, e ∙ sym f)) (still c m)

      least : (c : Arc) → In c net → Le o (heard (over h') u c)
      least c m =
          ⊎_elim (λ f. (let g : heard (over h') u c ≡ offer a (h' a.direction) = ap (heard (over h') u) f ∙ new_heard in rw g le))
          (λ f. rw f (b.least c m)) (still c m)

-- In table and room ---------------------------------------------------------------------------------------------------------

same_self : (p : TypeLength) → same_as p p ≡ true
unfolding same_as
same_self p = cc (eq-eqb p.typ p.typ refl, eq-eqb p.length p.length refl)

-- an extension is of type 4 at most, and longer by the cost at most
extension_fits : (k c : ℕ) (p : TypeLength) → ((extension k c p).typ ≤ 4) × ((extension k c p).length ≤ p.length + c)
extension_fits k c p = go (ℕ_discrete (extended_type k p.typ) 4)
  where
    go : Dec (extended_type k p.typ ≡ 4) → ((extension k c p).typ ≤ 4) × ((extension k c p).length ≤ p.length + c)
    go (yes e) = rw (extension_none k c p e) (omega arith, omega arith)
    go (no ne) =
        let x = Ext-cell k p.typ ne in
        rw (extension_is c p x) (omega (arith, Ext-range x), omega arith)

module _ {ws : List ℕ} {m k : ℕ} {w : Way} {t r : List ℕ} (laid : Laid ws m t r) (inside : k < 2 * m) (way : w ≡ way_of_direction (links_of ws) r k) where
  abbrev arc : Arc
  arc = arc_at (links_of ws) k

  abbrev hearer : ℕ
  hearer = as_at ws w.hearer

  at : WayArc (ases_of (links_of ws)) w arc
  at = rw way (Laid-way laid k inside)

  pub hearer_in : w.hearer < ases_in ws
  hearer_in = at.hearer_in

  pub neighbour_fits : (4 * w.neighbour + 4 ≤ length t) × (w.cost ≤ 1)
  neighbour_fits =
      let cost = ap (λ (v : Way). v.cost) way in
      (omega (arith, at.neighbour_in, laid.table), omega arith)

  pub new_fits : {x : Offered} → x ≡ held_offer m t r k w → pair_word x.pair < 4294967296
  new_fits {x} new =
      let cost = ap (λ (v : Way). v.cost) way in
      let fits = extension_fits w.kind w.cost (pair_of (held_word m r k)) in
      omega (arith, ap (λ (o : Offered). o.pair.typ) new, ap (λ (o : Offered). o.pair.length) new)

  -- x: what direction k offers now; y: what the hearer's line stands for
  module _ {x y : Offered} (new : x ≡ held_offer m t r k w) (stands : y ≡ entry_offer t w.hearer) where
    -- in every state that table and room hold, whose line was elected over the pairs h
    module _ {rest : List ℕ} {s : State} (holds : Holds ws m rest s t r) {h : ℕ → TypeLength} (line : s.lines hearer ≡ line_over (net_of ws) h hearer)
        (same : (j : ℕ) → j ≢ k → s.held j ≡ h j) where
      abbrev old : Offer
      old = best (over h) hearer (net_of ws)

      abbrev offered : Offer
      offered = offer arc (s.held arc.direction)

      standing : as_offer y ≡ old
      standing =
          ap as_offer stands ∙ ap (λ (z : Line). as_offer (ranked_offer z.pair z.next)) (own_line holds at.hearer_in ∙ line)
          ∙ Best-standing (arcs_rank (links_of ws)) (best_is (over h) hearer (net_of ws))

      chosen : {z : Offered} → choose (as_offer y) (as_offer x) ≡ as_offer z → as_offer z ≡ choose old offered
      chosen e =
          let fair : Fair y = Le-Fair hearer (rw standing (best_Le-none (best_is (over h) hearer (net_of ws)))) in
          let told : pair_of (held_word m r k) ≡ s.held arc.direction =
          holds.held k inside ∙ ap s.held (sym (Laid-direction laid k inside)) in
          (considered fair new e).chosen arc (Laid-over laid k inside way refl)
          ∙ ap (λ (o : Offer). choose o (offer arc (pair_of (held_word m r k)))) standing ∙ ap (λ (p : TypeLength). choose old (offer arc p)) told

      own : arc.hearer ≡ hearer
      own = sym at.hearer

      elsewhere : (j : ℕ) → j ≢ arc.direction → s.held j ≡ h j
      elsewhere j ne = same j (λ e. ne (e ∙ sym (Laid-direction laid k inside)))

      new_best : better (as_offer x) (as_offer y) ≡ true → as_offer x ≡ best (over s.held) hearer (net_of ws)
      new_best e =
          let less : Less (as_offer x) old = rw standing at (better-Less (as_offer x) (as_offer y) e) in
          let c : as_offer x ≡ choose old offered = chosen (choose_new (as_offer y) (as_offer x) e) in
          ⊎_elim (λ n. (let z : as_offer x ≡ old = c ∙ n in absurd (Less-apart less (rw z (le_refl old)))))
          (λ n.
          let z : as_offer x ≡ offered = c ∙ n in
          z ∙ sym (amend_better (net_of ws) (direction_unique (links_of ws)) arc (Laid-arc laid k inside) own h s.held elsewhere (rw z at less)))
          (choose_one old offered)

      kept_best : better (as_offer x) (as_offer y) ≡ false → y.next ≢ x.next → as_offer y ≡ best (over s.held) hearer (net_of ws)
      kept_best e ne =
          let c : old ≡ choose old offered = sym standing ∙ chosen (choose_old (as_offer y) (as_offer x) e) in
          let le : Le old offered = rw (← c) at (choose-Le old offered).1 in
          let from : arc.neighbour ≡ x.next =
          (Laid-over laid k inside way refl).neighbour ∙ ap (λ (o : Offered). o.next) (sym new) in
          standing
          ∙ sym (amend_kept (net_of ws) (direction_unique (links_of ws)) arc (Laid-arc laid k inside) own h s.held elsewhere
          (arcs_rank (links_of ws)) le (λ n. ne (ap (λ (o : Offer). o.next) standing ∙ n ∙ from)))

    -- a line that is taken, the new one or the old one, amends
    amended : {z : Offered} {t' r' : List ℕ} → Took m t r w.hearer y.pair z t' r'
        → ((rest : List ℕ) (s : State) → Holds ws m rest s t r → (h : ℕ → TypeLength) → s.lines hearer ≡ line_over (net_of ws) h hearer
        → ((j : ℕ) → j ≢ k → s.held j ≡ h j) → as_offer z ≡ best (over s.held) hearer (net_of ws))
        → Amended ws m k t r w.hearer t' r'
    amended took elects =
        let is : y.pair ≡ entry_pair t w.hearer = ap (λ (o : Offered). o.pair) stands in
        record {
          after = λ rest s h d b holds line same short fits ne.
              took_Holds laid at.hearer_in is took holds (elects rest s holds h line same) d b short fits ne;
        }

    pub Amended-new : better (as_offer x) (as_offer y) ≡ true → {t' r' : List ℕ} → Took m t r w.hearer y.pair x t' r'
        → Amended ws m k t r w.hearer t' r'
    Amended-new e took = amended took (λ rest s holds h line same. new_best holds line same e)

    pub Amended-kept : better (as_offer x) (as_offer y) ≡ false → y.next ≢ x.next → Amended ws m k t r w.hearer t r
    Amended-kept e ne =
        amended (record { line = stays; told = rw (same_self y.pair) refl }) (λ rest s holds h line same. kept_best holds line same e ne)
      where
        stays : t ≡ with_line t w.hearer (line_of (as_offer y))
        stays =
            sym (ap (λ (o : Offered). with_line t w.hearer (line_of (as_offer o))) stands
            ∙ rw (set-get_or t (4 * w.hearer + 1) 0, set-get_or t (4 * w.hearer + 2) 0, set-get_or t (4 * w.hearer + 3) 0))

  pub Amended-Anew : {t' r' : List ℕ} → Anew ws m t r w.hearer t' r' → Amended ws m k t r w.hearer t' r'
  Amended-Anew a =
      record { after = λ rest s h d b holds line same short fits ne. a.after rest s d b holds short fits ne }
