-- Tops and their peers: who hears from a provider, where everybody tells, is no top; and who hears over a peer link, where one AS
-- tells, is its peer.
use Prim.Native.Nat.{ℕ, ◌<◌}
use mathlib.Core.Path.{◌≡◌, refl, sym, ◌∙◌, ap}
use mathlib.Core.Logic.{⊎_elim, ◌≢◌}
use mathlib.Core.Bool.{Bool, true, false, not, ◌&&◌, ◌||◌, and-true, and_comm, not-not}
use mathlib.Core.List.{List, [], ◌∷◌}
use lib.Dec.{eqb}
use lib.ListN.{length, set, replicate, length-set}
use Rattle.std.proofs.lemmas.List.{length-replicate}
use borrow.Author.Tests.{eq-eqb, ne_eqb}
use Rattle.rules.specs.declared.Link.{Link}
use Rattle.rules.specs.Lists.{any_of}
use Rattle.rules.specs.Network.{links_of}
use Rattle.rules.specs.Findings.{provides, peering, is_top, are_peers}
use Rattle.rules.proofs.ListLaws.{any_of_same}
use Rattle.network.proofs.Numbers.{same?}
use Rattle.findings.specs.declared.survey.Way.TheVariants.{Down, Up}
use Rattle.findings.specs.Flags.{ases_in, flag_at, flag}
use Rattle.findings.specs.Tellings.{teller, hearer, tells, heard, Told}
use Rattle.findings.specs.Joinings.{Everybody, Served, Chosen, Peered}
use Rattle.findings.proofs.FlagLaws.{set_flag, set_other, filled_flag, filled}
use Rattle.findings.proofs.TellLaws.{told_by}

-- Tops --------------------------------------------------------------------------------------------------------------------

heard_served : (ls : List Link) (x : ℕ) → heard 1 Down (λ y. true) x ls ≡ not (is_top ls x)
unfolding tells teller hearer is_top provides
heard_served ls x =
    any_of_same (tells 1 Down (λ y. true) x) (λ (l : Link). provides l.a x l) ls
    (λ l m. same (eqb l.relation 1) (eqb l.b x) (eqb l.a l.a) (eq-eqb l.a l.a refl))
    ∙ sym (not-not (any_of (λ (l : Link). provides l.a x l) ls))
  where
    same : (r b a : Bool) → a ≡ true → (r && b && true) ≡ (r && a && b)
    same true true a e = sym (and-true a ∙ e)
    same true false a e = cc
    same false b a e = refl

-- everybody is left, and tells those who know of no provider yet
module _ (ws : List ℕ) (n : ℕ) (e : n ≡ length (ases_in ws)) where
  pub everybody : Everybody ws (replicate n 1)
  everybody x m = filled ws n 1 x e m

  pub served : (m : ℕ) (u : List ℕ) → m ≡ length (ases_in ws) → Told ws 1 Down (replicate n 1) (links_of ws) (replicate m 0) u → Served ws u
  served m u f o x i =
      told_by ws (λ y. true) (λ y. false) o everybody (λ y j. filled ws m 0 y f j) x i ∙ heard_served (links_of ws) x

pub ruleset starts = (everybody, served)

-- Peers -------------------------------------------------------------------------------------------------------------------

peer_link : (r bv au av bu : Bool) → (r && bv && au || r && av && bu) ≡ (r && (au && bv || av && bu))
peer_link true bv au av bu = ap (λ (x : Bool). x || av && bu) (and_comm bv au)
peer_link false bv au av bu = refl

shuffle : (a b c d x y : Bool) → (a || c) ≡ x → (b || d) ≡ y → (a || b || (c || d)) ≡ (x || y)
shuffle true b c d x y e f = cc
shuffle false true true d x y e f = cc
shuffle false true false d x y e f = cc
shuffle false false c d x y e f = cc

pub heard_peers : (ls : List Link) (u v : ℕ) → (heard 0 Down (λ y. eqb y u) v ls || heard 0 Up (λ y. eqb y u) v ls) ≡ are_peers ls u v
unfolding tells teller hearer are_peers peering
heard_peers [] u v = refl
heard_peers (l ∷ ls) u v =
    shuffle (tells 0 Down (λ y. eqb y u) v l) (heard 0 Down (λ y. eqb y u) v ls) (tells 0 Up (λ y. eqb y u) v l) (heard 0 Up (λ y. eqb y u) v ls) _ _
    (peer_link (eqb l.relation 0) (eqb l.b v) (eqb l.a u) (eqb l.a v) (eqb l.b u)) (heard_peers ls u v)

or_assoc : (now was a b : Bool) (mid : Bool) → now ≡ (mid || b) → mid ≡ (was || a) → now ≡ (was || a || b)
or_assoc now true a b mid e f = cc
or_assoc now false a b mid e f = cc

pub peered : (ws c t a u : List ℕ) → Told ws 0 Down c (links_of ws) t a → Told ws 0 Up c (links_of ws) a u → Peered ws c t u
peered ws c t a u o q = record { flags = λ x m. or_assoc (flag ws u x) (flag ws t x) _ _ (flag ws a x) (q.flags x m) (o.flags x m) }

-- The chosen one ----------------------------------------------------------------------------------------------------------

pub chosen_alone : (n p : ℕ) → p < n → Chosen p (set (replicate n 0) p 1)
chosen_alone n p l k m = at (simp (length-set, length-replicate) at m)
  where
    at : k < n → flag_at (set (replicate n 0) p 1) k ≡ eqb k p
    at below =
        ⊎_elim (λ (e : k ≡ p). ap (flag_at (set (replicate n 0) p 1)) e ∙ set_flag (replicate n 0) p 1 (simp length-replicate l) ∙ sym (eq-eqb k p e))
        (λ (d : k ≢ p). set_other (replicate n 0) p 1 k d ∙ filled_flag n 0 k below ∙ sym (ne_eqb k p d)) (same? k p)

pub ruleset alone = (chosen_alone)

pub ruleset peers_met = (peered)
