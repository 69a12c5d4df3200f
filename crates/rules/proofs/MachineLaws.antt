-- The message machine: where nothing waits its lines are stable. What every delivery keeps carries it: a direction holds its sender's
-- pair or has it waiting, and every line is elected over what is held.
--
--   Told h w p         of pair h held and w waiting: what waits is the sender's pair p, and where nothing does h is
--   ToldOver h w R a   that, on the direction of arc a, where the lines are R's
--   line_over net h u  the line that u elects over the pairs held
--   Sound net d s      what holds in every state that the machine comes to
use Prim.Native.Nat.{ℕ}
use mathlib.Core.Path.{◌≡◌, refl, sym, ◌∙◌, ap}
use mathlib.Core.Logic.{inl, inr, ⊎_elim, ◌≢◌}
use mathlib.Core.Bool.{Bool, true, cond, ◌&&◌}
use mathlib.Core.List.{List, ◌∷◌}
use native.Mathlib.Omega.{arith}
use native.Mathlib.Decide.{ℕ_discrete}
use lib.Dec.{eqb}
use borrow.Author.Tests.{eqb-true, eqb-false, eq-eqb}
use Rattle.rules.specs.declared.TypeLength.{TypeLength}
use Rattle.rules.specs.Pairs.{origin_of, unreachable_of, same_as}
use Rattle.rules.specs.Lists.{In, any_of, changed}
use Rattle.rules.specs.Offers.{Arc, Offer, none, best}
use Rattle.rules.specs.Stable.{Line, Routing, own, lost, line_of, told, due, Stable}
use Rattle.rules.specs.Machine.{Waiting, nothing, waits, State, out_of, send, fresh, elected, receiver, deliver, Quiet}
use Rattle.rules.proofs.Tests.{by_cond, and_left, and_right, and_yes, changed_same, changed_other}
use Rattle.rules.proofs.ListLaws.{any_of-true, any_of_one}
use Rattle.rules.proofs.OfferLaws.{pair_same, Ext-range}
use Rattle.rules.proofs.BestLaws.{Source, nowhere, from_arc, best_is, best_Source, best_same}
use Rattle.rules.proofs.ArcLaws.{Directed}
use Rattle.rules.proofs.StableFaces.{due-own, due_off}

abbrev pub Told : TypeLength → Waiting → TypeLength → Type 0
Told h nothing p = h ≡ p
Told h (waits q) p = q ≡ p

abbrev pub ToldOver : (ℕ → TypeLength) → (ℕ → Waiting) → Routing → Arc → Type 0
ToldOver h w R a = Told (h a.direction) (w a.direction) (R a.neighbour).pair

abbrev pub line_over : List Arc → (ℕ → TypeLength) → ℕ → Line
line_over net h u = line_of (best (λ a. h a.direction) u net)

pub record Sound (net : List Arc) (d : ℕ) (s : State) : Type 0 where
  pub told : (a : Arc) → In a net → ToldOver s.held s.waiting s.lines a
  pub own_line : s.lines d ≡ own d
  pub line : (u : ℕ) → u ≢ d → s.lines u ≡ line_over net s.held u

pub Quiet-Stable : (net : List Arc) (d : ℕ) (s : State) → Sound net d s → Quiet net s → Stable net d s.lines
Quiet-Stable net d s ok q u = at (ℕ_discrete u d)
  where
    heard : (a : Arc) → In a net → s.held a.direction ≡ told s.lines a
    heard a m = rw (q a m) at (ok.told a m)

    at : Dec (u ≡ d) → s.lines u ≡ due net d s.lines u
    at (yes e) = rw e (ok.own_line ∙ sym (due-own net d s.lines))
    at (no ne) =
        ok.line u ne ∙ ap line_of (best_same (λ a. s.held a.direction) (told s.lines) u net (λ a m h. heard a m))
        ∙ sym (due_off net d s.lines u ne)

-- What elections and sendings do -----------------------------------------------------------------------------------------

-- over nothing but unreachable there is nothing to elect
best_lost : (u : ℕ) (net : List Arc) → best (λ a. unreachable_of) u net ≡ none u
best_lost u net = go (best_Source (best_is (λ a. unreachable_of) u net))
  where
    go : {o : Offer} → Source (λ a. unreachable_of) u net o → o ≡ none u
    go (nowhere e) = e
    go (from_arc a m h v) = absurd (omega (arith, Ext-range v.ext))

pub same_as-true : (p q : TypeLength) → same_as p q ≡ true → p ≡ q
unfolding same_as
same_as-true p q e =
    let t = eqb-true p.typ q.typ (and_left (eqb p.typ q.typ) _ e) in
    pair_same (t, eqb-true p.length q.length (and_right (eqb p.typ q.typ) _ e))

-- what u sends waits on the directions on which u is the neighbour, and on no other
module _ (net : List Arc) (unique : Directed net) (u : ℕ) (p : TypeLength) (w : ℕ → Waiting) (a : Arc) (m : In a net) where
  abbrev out : Arc → Bool
  out b = eqb b.direction a.direction && eqb b.neighbour u

  pub send_own : a.neighbour ≡ u → send net u p w a.direction ≡ waits p
  unfolding send out_of
  send_own e =
      let t = and_yes _ _ (eq-eqb a.direction a.direction refl) (eq-eqb a.neighbour u e) in
      cc (any_of-true out net a m t)

  pub send_other : a.neighbour ≢ u → send net u p w a.direction ≡ w a.direction
  unfolding send out_of
  send_other ne = by_cond (λ (x : Waiting). x ≡ w a.direction) (any_of out net) _ _ (λ t. absurd (ne (same t))) (λ t. refl)
    where
      same : any_of out net ≡ true → a.neighbour ≡ u
      same t =
          let (b, n, e) = any_of_one out net t in
          let f = eqb-true b.direction a.direction (and_left (eqb b.direction a.direction) _ e) in
          let g = eqb-true b.neighbour u (and_right (eqb b.direction a.direction) _ e) in
          ap (λ (c : Arc). c.neighbour) (unique a b m n (sym f)) ∙ g

-- the receiver over an arc's direction is its hearer
pub receiver_is : (net : List Arc) → Directed net → (a : Arc) → In a net → receiver net a.direction ≡ a.hearer
unfolding receiver
receiver_is mathlib.Core.List.[] unique a m = elim m [ ]
receiver_is (b ∷ net) unique a m =
    by_cond (λ (x : ℕ). x ≡ a.hearer) (eqb b.direction a.direction) b.hearer (receiver net a.direction)
    (λ t. ap (λ (c : Arc). c.hearer) (unique b a (inl refl) m (eqb-true b.direction a.direction t)))
    (λ t. receiver_is net (λ x y k l. unique x y (inr k) (inr l)) a (later (eqb-false b.direction a.direction t)))
  where
    later : b.direction ≢ a.direction → In a net
    later ne = ⊎_elim (λ e. absurd (ne (ap (λ (c : Arc). c.direction) (sym e)))) (λ n. n) m

-- Every state is sound ----------------------------------------------------------------------------------------------------

module _ (net : List Arc) (unique : Directed net) (d : ℕ) where
  pub fresh-Sound : Sound net d (fresh net d)
  unfolding fresh own lost none
  fresh-Sound =
      record {
        told = λ a m. told_first a m (ℕ_discrete a.neighbour d);
        own_line = changed_same lost d (own d) d refl;
        line = λ u ne. changed_other lost d (own d) u ne ∙ sym (ap line_of (best_lost u net));
      }
    where
      told_first : (a : Arc) → In a net → Dec (a.neighbour ≡ d)
          → ToldOver (λ i. unreachable_of) (send net d origin_of (λ i. nothing)) (changed lost d (own d)) a
      told_first a m (yes e) =
          rw (send_own net unique d origin_of (λ i. nothing) a m e, changed_same lost d (own d) a.neighbour e)
      told_first a m (no ne) =
          rw (send_other net unique d origin_of (λ i. nothing) a m ne, changed_other lost d (own d) a.neighbour ne)

  -- an election at u mends u's line and tells of it
  elected-Sound : (u : ℕ) (s : State) → ((a : Arc) → In a net → ToldOver s.held s.waiting s.lines a) → s.lines d ≡ own d
      → ((v : ℕ) → v ≢ d → v ≢ u → s.lines v ≡ line_over net s.held v) → Sound net d (elected net d u s)
  unfolding elected
  elected-Sound u s told own_line line =
      by_cond (Sound net d) (eqb u d) s _
      (λ e. record { told = told; own_line = own_line; line = λ v ne. line v ne (λ f. ne (f ∙ eqb-true u d e)) })
      (λ e. record {
        told = λ a m. told_now a m (ℕ_discrete a.neighbour u);
        own_line = changed_other s.lines u l d (λ f. eqb-false u d e (sym f)) ∙ own_line;
        line = λ v ne. line_now v ne (ℕ_discrete v u);
      })
    where
      l : Line
      l = line_over net s.held u

      line_now : (v : ℕ) → v ≢ d → Dec (v ≡ u) → changed s.lines u l v ≡ line_over net s.held v
      line_now v ne (yes e) = changed_same s.lines u l v e ∙ ap (line_over net s.held) (sym e)
      line_now v ne (no n) = changed_other s.lines u l v n ∙ line v ne n

      same : Bool
      same = same_as (s.lines u).pair l.pair

      told_now : (a : Arc) → In a net → Dec (a.neighbour ≡ u)
          → ToldOver s.held (cond same s.waiting (send net u l.pair s.waiting)) (changed s.lines u l) a
      told_now a m (yes e) =
          rw (changed_same s.lines u l a.neighbour e)
          (by_cond (λ (w : ℕ → Waiting). Told (s.held a.direction) (w a.direction) l.pair) same s.waiting _
          (λ f. rw (ap (λ (v : ℕ). (s.lines v).pair) e ∙ same_as-true _ _ f) at (told a m))
          (λ f. rw (send_own net unique u l.pair s.waiting a m e) refl))
      told_now a m (no ne) =
          rw (changed_other s.lines u l a.neighbour ne)
          (by_cond (λ (w : ℕ → Waiting). ToldOver s.held w s.lines a) same s.waiting _ (λ f. told a m)
          (λ f. rw (send_other net unique u l.pair s.waiting a m ne) (told a m)))

  -- what is delivered was the sender's pair; only the receiver's election hangs on it
  pub deliver-Sound : (i : ℕ) (p : TypeLength) (s : State) → Sound net d s → s.waiting i ≡ waits p → Sound net d (deliver net d i p s)
  unfolding deliver
  deliver-Sound i p s ok w =
      elected-Sound (receiver net i) (record { lines = s.lines; held = h; waiting = changed s.waiting i nothing })
      (λ a m. told_still a m (ℕ_discrete a.direction i)) ok.own_line line
    where
      h : ℕ → TypeLength
      h = changed s.held i p

      told_still : (a : Arc) → In a net → Dec (a.direction ≡ i) → ToldOver h (changed s.waiting i nothing) s.lines a
      told_still a m (yes e) =
          rw (changed_same s.held i p a.direction e, changed_same s.waiting i nothing a.direction e)
          (rw (ap s.waiting e ∙ w) at (ok.told a m))
      told_still a m (no ne) =
          rw (changed_other s.held i p a.direction ne, changed_other s.waiting i nothing a.direction ne) (ok.told a m)

      line : (v : ℕ) → v ≢ d → v ≢ receiver net i → s.lines v ≡ line_over net h v
      line v ne other =
          ok.line v ne ∙ ap line_of (best_same (λ a. s.held a.direction) (λ a. h a.direction) v net
          (λ a m f. sym (changed_other s.held i p a.direction (λ e. other (sym f ∙ at a m e)))))
        where
          at : (a : Arc) → In a net → a.direction ≡ i → a.hearer ≡ receiver net i
          at a m e = sym (receiver_is net unique a m) ∙ ap (receiver net) e
