-- Marks from single links are hints: whoever is met over a link was met before or is a peer of who is chosen, and one hint after the other
-- says no more.
use Prim.Native.Nat.{ℕ, ◌+◌, ◌*◌, ◌≤◌}
use mathlib.Core.Path.{◌≡◌, refl, sym, ◌∙◌, ap}
use mathlib.Core.Logic.{⊎_elim}
use mathlib.Core.Bool.{Bool, true, false, ◌||◌, or-false}
use mathlib.Core.List.{List, [], ◌∷◌}
use lib.ListN.{length}
use Rattle.rules.specs.Lists.{In}
use Rattle.rules.specs.Network.{links_of, link_in_words}
use Rattle.rules.proofs.Tests.{or_one}
use Rattle.rules.proofs.ListLaws.{any_of-true}
use Rattle.offers.proofs.WayLaws.{link_In}
use Rattle.findings.specs.declared.survey.Way.{Way}
use Rattle.findings.specs.declared.survey.Way.TheVariants.{Down, Up}
use Rattle.findings.specs.Flags.{ases_in, flag}
use Rattle.findings.specs.Tellings.{tells, heard, Told}
use Rattle.findings.specs.Joinings.{Hinted}

-- one of three is true
first : (a b d : Bool) → a ≡ true → (a || b || d) ≡ true
first a true d e = cc
first a false d e = cc

second : (a b d : Bool) → b ≡ true → (a || b || d) ≡ true
second true b d e = cc
second false b d e = cc

third : (a b d : Bool) → d ≡ true → (a || b || d) ≡ true
third true true d e = refl
third true false d e = refl
third false true d e = refl
third false false d e = e

-- what was met before the others
swap : (a b d x : Bool) → (a ≡ true → (x || b || d) ≡ true) → (a || b || d) ≡ true → (x || b || d) ≡ true
swap true b d x h g = h refl
swap false true d x h g = second x true d refl
swap false false d x h g = third x false d g

module _ (ws c : List ℕ) where
  pub Hinted-none : (t : List ℕ) → Hinted ws c t t
  Hinted-none t = record { flags = λ x m e. first _ _ _ e }

  pub Hinted-more : (t u v : List ℕ) → Hinted ws c t u → Hinted ws c u v → Hinted ws c t v
  Hinted-more t u v p q = record { flags = λ x m e. swap (flag ws u x) _ _ (flag ws t x) (p.flags x m) (q.flags x m e) }

  -- a pass over one link, either way
  module _ (i : ℕ) (h : 3 * i + 3 ≤ length ws) (t u : List ℕ) where
    heard_link : (w : Way) (x : ℕ) → tells 0 w (flag ws c) x (link_in_words ws i) ≡ true → heard 0 w (flag ws c) x (links_of ws) ≡ true
    heard_link w x e = any_of-true (tells 0 w (flag ws c) x) (links_of ws) (link_in_words ws i) (link_In ws i h) e

    met_by : (w : Way) (x : ℕ) → Told ws 0 w c (link_in_words ws i ∷ []) t u → In x (ases_in ws) → flag ws u x ≡ true
        → (flag ws t x || tells 0 w (flag ws c) x (link_in_words ws i)) ≡ true
    met_by w x o m e =
        ap (λ (b : Bool). flag ws t x || b) (sym (or-false (tells 0 w (flag ws c) x (link_in_words ws i)))) ∙ sym (o.flags x m) ∙ e

    pub Hinted-down : Told ws 0 Down c (link_in_words ws i ∷ []) t u → Hinted ws c t u
    Hinted-down o =
        record {
          flags = λ x m e. ⊎_elim (first (flag ws t x) _ _) (λ d. second (flag ws t x) _ _ (heard_link Down x d))
              (or_one (flag ws t x) (tells 0 Down (flag ws c) x (link_in_words ws i)) (met_by Down x o m e));
        }

    pub Hinted-up : Told ws 0 Up c (link_in_words ws i ∷ []) t u → Hinted ws c t u
    Hinted-up o =
        record {
          flags = λ x m e. ⊎_elim (first (flag ws t x) _ _) (λ d. third (flag ws t x) _ _ (heard_link Up x d))
              (or_one (flag ws t x) (tells 0 Up (flag ws c) x (link_in_words ws i)) (met_by Up x o m e));
        }

pub ruleset hints = (Hinted-none, Hinted-more, Hinted-down, Hinted-up)
