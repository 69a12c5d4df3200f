-- Ranks that fall along every link from provider to customer and stay above 0 show that nobody with a rank is on a ring: along a ring
-- they would fall below themselves. So to take those away takes none of a ring.
use Prim.Native.Nat.{ℕ, zero, suc, ◌+◌, ◌*◌, ◌/◌, ◌≤◌, ◌<◌}
use mathlib.Core.Path.{◌≡◌, refl, sym, ◌∙◌, ap}
use mathlib.Core.Logic.{◌⊎◌, inl, inr, ◌≢◌}
use mathlib.Core.Bool.{Bool, true, false, not, ◌&&◌, ◌||◌, false≢true}
use mathlib.Core.List.{List}
use native.Mathlib.Omega.{arith}
use lib.Dec.{eqb, ltb}
use borrow.Author.Tests.{eq-eqb, ne_eqb, ltb-true}
use lib.ListN.{length, get_or, set}
use lib.Seq.{get_or-set_other}
use Rattle.rules.specs.declared.Link.{Link}
use Rattle.rules.specs.Lists.{In}
use Rattle.rules.specs.Network.{links_of, link_in_words}
use Rattle.rules.specs.Findings.{reaches}
use Rattle.rules.proofs.ListLaws.{in_at}
use Rattle.rules.proofs.Tests.{and_left, and_right}
use Rattle.network.proofs.PrefixLaws.{count}
use Rattle.network.proofs.Numbers.{same?}
use Rattle.offers.specs.Ways.{no_link}
use Rattle.offers.proofs.WayLaws.{links_at}
use Rattle.findings.specs.Flags.{place}
use Rattle.findings.specs.Peelings.{RingsLeft}
use Rattle.findings.specs.Ranks.{rank, may_fall, falls_at, Falls, Spared}
use Rattle.findings.proofs.Chains.{Below, below_link, reaches_less}

-- Links by number ---------------------------------------------------------------------------------------------------------

link_number : (ws : List ℕ) (l : Link) → In l (links_of ws) → (i : ℕ) × (3 * i + 3 ≤ length ws) × (link_in_words ws i ≡ l)
link_number ws l m =
    let (i, h, e) = in_at no_link (links_of ws) l m in
    let whole : 3 * i + 3 ≤ length ws = omega (arith, count ws) in
    (i, whole, sym (links_at ws i whole) ∙ e)

-- Ranks that fall ---------------------------------------------------------------------------------------------------------

-- what the test says
abbrev Lower : ℕ → ℕ → Type 0
Lower a b = 0 < a → (0 < b) × (b < a)

may_fall-Lower : (a b : ℕ) → may_fall a b ≡ true → Lower a b
may_fall-Lower a b e l =
    let t : (ltb 0 b && ltb b a) ≡ true = other (eqb a 0) (ltb 0 b && ltb b a) (ne_eqb a 0 (λ z. omega arith)) e in
    (ltb-true 0 b (and_left (ltb 0 b) (ltb b a) t), ltb-true b a (and_right (ltb 0 b) (ltb b a) t))
  where
    other : (p q : Bool) → p ≡ false → (p || q) ≡ true → q ≡ true
    other true q f g = absurd (false≢true (sym f))
    other false q f g = g

falls_at-Lower : (ws rk : List ℕ) (i : ℕ) → (link_in_words ws i).relation ≡ 1 → falls_at ws rk i ≡ true
    → Lower (rank ws rk (link_in_words ws i).a) (rank ws rk (link_in_words ws i).b)
falls_at-Lower ws rk i one e =
    may_fall-Lower _ _ (other (eqb (link_in_words ws i).relation 1) _ (eq-eqb _ 1 one) e)
  where
    other : (p q : Bool) → p ≡ true → (not p || q) ≡ true → q ≡ true
    other true q f g = g
    other false q f g = absurd (false≢true f)

module _ (ws rk : List ℕ) (f : Falls ws rk (length ws / 3)) where
  falls_below : (u w : ℕ) → Below (links_of ws) u w → Lower (rank ws rk u) (rank ws rk w)
  falls_below u w b =
      let (l, m, r, p, q) = below_link (links_of ws) u w b in
      let (i, whole, e) = link_number ws l m in
      let upper : rank ws rk (link_in_words ws i).a ≡ rank ws rk u = ap (rank ws rk) (ap (λ (j : Link). j.a) e ∙ p) in
      let lower : rank ws rk (link_in_words ws i).b ≡ rank ws rk w = ap (rank ws rk) (ap (λ (j : Link). j.b) e ∙ q) in
      let fall = falls_at-Lower ws rk i (ap (λ (j : Link). j.relation) e ∙ r) (f i (omega arith)) in
      rw (upper, lower) at fall

  falls_along : (k u v : ℕ) → reaches (links_of ws) k u v ≡ true → Lower (rank ws rk u) (rank ws rk v)
  unfolding reaches
  falls_along zero u v r = falls_below u v r
  falls_along (suc k) u v r =
      let (w, b, c) = reaches_less (links_of ws) k u v r in
      λ l. (let (a, d) = falls_below u w b l in let (g, j) = falls_along k w v c a in (g, omega arith))

  ring_unranked : (x k : ℕ) → reaches (links_of ws) k x x ≡ true → rank ws rk x ≡ 0
  ring_unranked x k r = at (same? (rank ws rk x) 0)
    where
      at : (rank ws rk x ≡ 0) ⊎ (rank ws rk x ≢ 0) → rank ws rk x ≡ 0
      at (inl e) = e
      at (inr ne) = (let (a, b) = falls_along k x x r (omega arith) in absurd (omega arith))

  pub spared_rings : (t u : List ℕ) → Spared rk t u → RingsLeft ws t → RingsLeft ws u
  spared_rings t u q g x k r = ap (λ (w : ℕ). eqb w 1) (q.unranked (place ws x) (ring_unranked x k r)) ∙ g x k r

-- Who is spared -----------------------------------------------------------------------------------------------------------

module _ (rk t u : List ℕ) where
  pub Spared-none : Spared rk t t
  Spared-none = record { unranked = λ k e. refl }

  pub Spared-put : (p : ℕ) → Spared rk t u → get_or rk p 0 ≢ 0 → Spared rk t (set u p 0)
  Spared-put p h ne =
      record { unranked = λ k e. get_or-set_other u p k 0 0 (λ d. ne (ap (λ (j : ℕ). get_or rk j 0) (sym d) ∙ e)) ∙ h.unranked k e }

pub ruleset spares = (Spared-none, Spared-put)

pub ruleset ring_spares = (spared_rings)
