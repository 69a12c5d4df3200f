-- Passes of peeling: an AS on a ring has a customer on the ring, so none of them goes; where a pass takes none away, whoever is left
-- has a customer left, and that makes a ring.
use Prim.Native.Nat.{ℕ, ◌<◌}
use mathlib.Core.Path.{◌≡◌, refl, sym, ◌∙◌, ap, subst}
use mathlib.Core.Logic.{inr}
use mathlib.Core.Bool.{Bool, true, false, false≢true}
use mathlib.Core.List.{List}
use native.Mathlib.Omega.{arith}
use lib.ListN.{length, get_or, replicate}
use Rattle.rules.specs.Lists.{In}
use Rattle.rules.specs.Network.{links_of}
use Rattle.rules.specs.Findings.{ringed}
use Rattle.rules.proofs.Tests.{and_right, and_yes}
use Rattle.rules.proofs.ListLaws.{any_of-true, any_of_one, at_in}
use Rattle.rules.proofs.NetworkLaws.{ases_In, ases_Distinct}
use Rattle.offers.proofs.PlaceLaws.{place_at}
use Rattle.findings.specs.declared.survey.Way.TheVariants.{Up}
use Rattle.findings.specs.Flags.{ases_in, place, flag_at, flag}
use Rattle.findings.specs.Tellings.{teller, hearer, tells, Told}
use Rattle.findings.specs.Peelings.{Peeled, has_customer, Round, RingsLeft, Bare}
use Rattle.findings.proofs.Chains.{Below, below_link, link_Below}
use Rattle.findings.proofs.RingLaws.{ringed-Ring, Ring-ringed, reaches_as, ring_next, Left-Ring}
use Rattle.findings.proofs.FlagLaws.{filled}
use Rattle.findings.proofs.TellerLaws.{place_below}
use Rattle.findings.proofs.TellLaws.{tells_yes, tells_means, told_by}

-- One pass: whom customers that are left tell, from nobody, has a customer left -----------------------------------------------

pub peel_Round : (ws t m u : List ℕ) (n : ℕ) (r : Bool) → n ≡ length (ases_in ws) → length t ≡ n
    → Told ws 1 Up t (links_of ws) (replicate n 0) m → Peeled (length t) m t u r → Round ws t u r
peel_Round ws t m u n r e s o p =
    record {
      flags = λ x i. (let met : flag ws m x ≡ has_customer ws (flag ws t) x = told_by ws (flag ws t) (λ y. false) o (λ y j. refl) (λ y j. filled ws n 0 y e j) x i in
          p.done (place ws x) (omega (arith, place_below ws x i)) ∙ rw met);
      fewer = p.fewer;
    }

-- All passes --------------------------------------------------------------------------------------------------------------

has_customer_lem : (ws : List ℕ) (f : ℕ → Bool) (x w : ℕ) → Below (links_of ws) x w → f w ≡ true → has_customer ws f x ≡ true
unfolding teller hearer
has_customer_lem ws f x w b e =
    let (l, m, r, p, q) = below_link (links_of ws) x w b in
    any_of-true (tells 1 Up f x) (links_of ws) l m (tells_yes 1 Up f x l r p (ap f q ∙ e))

customer_of : (ws : List ℕ) (f : ℕ → Bool) (x : ℕ) → has_customer ws f x ≡ true → (w : ℕ) × Below (links_of ws) x w × In w (ases_in ws) × (f w ≡ true)
unfolding teller hearer
customer_of ws f x e =
    let (l, m, d) = any_of_one (tells 1 Up f x) (links_of ws) e in
    let (r, p, q) = tells_means 1 Up f x l d in
    let b = subst (λ (y : ℕ). Below (links_of ws) y l.b) p (link_Below (links_of ws) l m r) in
    (l.b, b, ases_In (links_of ws) l.b l m (inr refl), q)

module _ (ws t u : List ℕ) where
  -- none goes that is on a ring
  pub rings_kept : (r : Bool) → Round ws t u r → RingsLeft ws t → RingsLeft ws u
  rings_kept r o h x k e =
      let (w, b, (j, c)) = ring_next (links_of ws) x (k, e) in
      o.flags x (reaches_as (links_of ws) k x x e)
      ∙ and_yes (flag ws t x) (has_customer ws (flag ws t) x) (h x k e) (has_customer_lem ws (flag ws t) x w b (h w j c))

  -- where none went, whoever is left has a customer left
  pub quiet_keeps : Round ws t u false → (x : ℕ) → In x (ases_in ws) → flag ws u x ≡ true → has_customer ws (flag ws u) x ≡ true
  quiet_keeps o x m e =
      ap (λ (w : List ℕ). has_customer ws (flag ws w) x) o.fewer
      ∙ and_right (flag ws t x) (has_customer ws (flag ws t) x) (sym (o.flags x m) ∙ e)

  -- after all of them
  pub round_Bare : {s : List ℕ} → (RingsLeft ws s → RingsLeft ws t) → Round ws t u false → Bare ws s u
  round_Bare h o = record { rings = λ g. rings_kept false o (h g); keeps = quiet_keeps o }

-- Who is left in the end --------------------------------------------------------------------------------------------------

module _ (ws t u : List ℕ) (n : length u ≡ length (ases_in ws)) (all : RingsLeft ws t) (b : Bare ws t u) where
  Left : ℕ → Type 0
  Left x = In x (ases_in ws) × (flag ws u x ≡ true)

  next : (x : ℕ) → Left x → (w : ℕ) × Below (links_of ws) x w × Left w
  unfolding Left
  next x (m, e) =
      let (w, d, i, f) = customer_of ws (flag ws u) x (b.keeps x m e) in
      (w, d, (i, f))

  pub one_left : (k : ℕ) → k < length u → flag_at u k ≡ true → ringed (links_of ws) ≡ true
  unfolding Left
  one_left k l e =
      let m = at_in 0 (ases_in ws) k (omega arith) in
      let p = place_at (ases_in ws) (ases_Distinct (links_of ws)) k (omega arith) in
      Ring-ringed (links_of ws) (Left-Ring (links_of ws) Left next (get_or (ases_in ws) k 0) (m, ap (flag_at u) p ∙ e))

  pub none_left : ((k : ℕ) → k < length u → flag_at u k ≡ false) → ringed (links_of ws) ≡ true → ⊥
  none_left h e =
      let (x, k, c) = ringed-Ring (links_of ws) e in
      let below = place_below ws x (reaches_as (links_of ws) k x x c) in
      false≢true (sym (h (place ws x) (omega arith)) ∙ b.rings all x k c)

pub ruleset rounds = (peel_Round)

pub ruleset strips = (rings_kept, round_Bare)

pub ruleset rings_found = (one_left, none_left)
