-- A pass over the links, link by link: what is left of it to tell, with what was told, is always the whole.
--
--   Going ws r w f rest ls t u   u is t after the pass over those links of ls that are not in rest
use Prim.Native.Nat.{ℕ, ◌+◌, ◌*◌, ◌/◌, ◌≤◌, ◌<◌}
use mathlib.Core.Path.{◌≡◌, refl, sym, ◌∙◌, ap, subst}
use mathlib.Core.Logic.{⊎_elim, ◌≢◌}
use mathlib.Core.Bool.{Bool, true, false, ◌&&◌, ◌||◌, and-false, or-false}
use mathlib.Core.List.{List, [], ◌∷◌}
use lib.Dec.{eqb}
use lib.ListN.{length, get_or, set}
use borrow.Author.Tests.{eq-eqb, ne_eqb, eqb-true}
use Rattle.rules.specs.declared.Link.{Link}
use Rattle.rules.specs.Lists.{In}
use Rattle.rules.specs.Network.{links_of, link_in_words}
use Rattle.rules.proofs.Tests.{and_left, and_right}
use Rattle.rules.proofs.ListLaws.{any_of_same}
use Rattle.network.specs.Prefix.{links_from}
use Rattle.network.proofs.Numbers.{same?}
use Rattle.network.proofs.PrefixLaws.{links_next, links_end}
use Rattle.offers.proofs.WayLaws.{link_In}
use Rattle.findings.specs.declared.survey.Way.{Way}
use Rattle.findings.specs.Flags.{ases_in, place, flag}
use Rattle.findings.specs.Tellings.{teller, hearer, tells, heard, Told}
use Rattle.findings.proofs.TellerLaws.{place_one, teller-In, hearer-In}
use Rattle.findings.proofs.FlagLaws.{set_flag, set_other}

-- What one link tells -----------------------------------------------------------------------------------------------------

module _ (r : ℕ) (w : Way) (f : ℕ → Bool) (x : ℕ) (l : Link) where
  pub tells_yes : l.relation ≡ r → hearer w l ≡ x → f (teller w l) ≡ true → tells r w f x l ≡ true
  unfolding tells
  tells_yes p q e = cc (eq-eqb l.relation r p, eq-eqb (hearer w l) x q)

  tells_far : hearer w l ≢ x → tells r w f x l ≡ false
  unfolding tells
  tells_far ne = go (eqb l.relation r) (ne_eqb (hearer w l) x ne)
    where
      go : (a : Bool) → eqb (hearer w l) x ≡ false → (a && eqb (hearer w l) x && f (teller w l)) ≡ false
      go true e = cc
      go false e = refl

  tells_no : (eqb l.relation r && f (teller w l)) ≡ false → tells r w f x l ≡ false
  unfolding tells
  tells_no = go (eqb l.relation r) (eqb (hearer w l) x) (f (teller w l))
    where
      go : (a b d : Bool) → (a && d) ≡ false → (a && b && d) ≡ false
      go true true d e = e
      go true false d e = refl
      go false b d e = refl

  pub tells_means : tells r w f x l ≡ true → (l.relation ≡ r) × (hearer w l ≡ x) × (f (teller w l) ≡ true)
  unfolding tells
  tells_means e =
      let d = and_left (eqb l.relation r && eqb (hearer w l) x) (f (teller w l)) e in (
        eqb-true _ _ (and_left (eqb l.relation r) (eqb (hearer w l) x) d),
        eqb-true _ _ (and_right (eqb l.relation r) (eqb (hearer w l) x) d),
        and_right (eqb l.relation r && eqb (hearer w l) x) (f (teller w l)) e,
      )

-- it depends on the teller's flag alone
tells_same : (r : ℕ) (w : Way) (f g : ℕ → Bool) (x : ℕ) (l : Link) → f (teller w l) ≡ g (teller w l) → tells r w f x l ≡ tells r w g x l
unfolding tells
tells_same r w f g x l e = ap (λ (b : Bool). eqb l.relation r && eqb (hearer w l) x && b) e

-- One link more -----------------------------------------------------------------------------------------------------------

-- a flag that is set, and one that stays
now_set : (u a b : Bool) → b ≡ true → u ≡ true → u ≡ (a || (b || false))
now_set u true b e f = cc
now_set u false b e f = cc

stays : (u a b : Bool) → b ≡ false → u ≡ a → u ≡ (a || (b || false))
stays u true b e f = cc
stays u false b e f = cc

module _ (ws : List ℕ) (r : ℕ) (w : Way) (i : ℕ) (h : 3 * i + 3 ≤ length ws) (f t : List ℕ) where
  abbrev link : Link
  link = link_in_words ws i

  -- nobody is told
  nobody : (eqb link.relation r && flag ws f (teller w link)) ≡ false → Told ws r w f (link ∷ []) t t
  nobody e = record { flags = λ x m. stays _ _ _ (tells_no r w (flag ws f) x link e) refl }

  pub told_off : link.relation ≢ r → Told ws r w f (link ∷ []) t t
  told_off ne = nobody (cc (ne_eqb link.relation r ne))

  pub told_none : get_or f (place ws (teller w link)) 0 ≢ 1 → Told ws r w f (link ∷ []) t t
  told_none ne = nobody (ap (λ (b : Bool). eqb link.relation r && b) (ne_eqb (get_or f (place ws (teller w link)) 0) 1 ne) ∙ and-false (eqb link.relation r))

  -- the hearer is told
  pub told_one : link.relation ≡ r → get_or f (place ws (teller w link)) 0 ≡ 1 → place ws (hearer w link) < length t
      → Told ws r w f (link ∷ []) t (set t (place ws (hearer w link)) 1)
  told_one on tells_it fits =
      let k = place ws (hearer w link) in
      record {
        flags = λ x m. ⊎_elim
            (λ q. now_set _ (flag ws t x) _ (tells_yes r w (flag ws f) x link on q (eq-eqb _ 1 tells_it))
            (ap (λ (y : ℕ). flag ws (set t k 1) y) (sym q) ∙ set_flag t k 1 fits))
            (λ ne. stays _ _ _ (tells_far r w (flag ws f) x link ne)
            (set_other t k 1 (place ws x) (λ e. ne (place_one (ases_in ws) _ x (hearer-In ws link w (link_In ws i h)) m (sym e)))))
            (same? (hearer w link) x);
      }

-- All links ---------------------------------------------------------------------------------------------------------------

pub record Going (ws : List ℕ) (r : ℕ) (w : Way) (f : List ℕ) (rest ls : List Link) (t u : List ℕ) : Type 0 where
  pub flags : (x : ℕ) → In x (ases_in ws) → (flag ws u x || heard r w (flag ws f) x rest) ≡ (flag ws t x || heard r w (flag ws f) x ls)

regroup : (now was here rest whole : Bool) → now ≡ (was || (here || false)) → (was || (here || rest)) ≡ whole → (now || rest) ≡ whole
regroup now true here rest whole e g = cc
regroup now false true rest whole e g = cc
regroup now false false rest whole e g = cc

module _ (ws : List ℕ) (r : ℕ) (w : Way) (f t : List ℕ) where
  pub going_start : Going ws r w f (links_from ws 0) (links_of ws) t t
  going_start = record { flags = λ x m. refl }

  module _ (i : ℕ) where
    -- from link i to link i + 1, and at the end
    pub going_next : {u v : List ℕ} → 3 * i + 3 ≤ length ws → Going ws r w f (links_from ws i) (links_of ws) t u
        → Told ws r w f (link_in_words ws i ∷ []) u v → Going ws r w f (links_from ws (i + 1)) (links_of ws) t v
    going_next {u} {v} h g o =
        let g' = subst (λ (rest : List Link). Going ws r w f rest (links_of ws) t u) (links_next ws i h) g in
        record { flags = λ x m. regroup _ (flag ws u x) _ _ _ (o.flags x m) (g'.flags x m) }

    pub going_done : {u : List ℕ} → length ws / 3 ≤ i → Going ws r w f (links_from ws i) (links_of ws) t u → Told ws r w f (links_of ws) t u
    going_done {u} l g =
        let g' = subst (λ (rest : List Link). Going ws r w f rest (links_of ws) t u) (links_end ws i l) g in
        record { flags = λ x m. sym (or-false _) ∙ g'.flags x m }

pub ruleset told_link = (told_off, told_none, told_one)

pub ruleset going = (going_start, going_next, going_done)

-- A whole pass ------------------------------------------------------------------------------------------------------------

pub heard_same : (ws : List ℕ) (r : ℕ) (w : Way) (f g : ℕ → Bool) (x : ℕ) → ((y : ℕ) → In y (ases_in ws) → f y ≡ g y)
    → heard r w f x (links_of ws) ≡ heard r w g x (links_of ws)
heard_same ws r w f g x h =
    any_of_same (tells r w f x) (tells r w g x) (links_of ws) (λ l m. tells_same r w f g x l (h (teller w l) (teller-In ws l w m)))

-- what the flags are after it, from what they were before
pub told_by : (ws : List ℕ) {r : ℕ} {w : Way} {a t u : List ℕ} (f g : ℕ → Bool) → Told ws r w a (links_of ws) t u
    → ((x : ℕ) → In x (ases_in ws) → flag ws a x ≡ f x) → ((x : ℕ) → In x (ases_in ws) → flag ws t x ≡ g x)
    → (x : ℕ) → In x (ases_in ws) → flag ws u x ≡ (g x || heard r w f x (links_of ws))
told_by ws {r} {w} {a} {t} {u} f g o h k x m =
    let e : flag ws t x ≡ g x = k x m in
    o.flags x m ∙ rw (e, heard_same ws r w (flag ws a) f x h)
