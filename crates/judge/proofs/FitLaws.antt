-- The stable table of links that are words of 32 bits fits the fields of a sheet: its next hops are ASes, and its lengths are below
-- their number. Read off the settled face of stability.
use Prim.Native.Nat.{ℕ, suc, ◌≤◌, ◌<◌}
use mathlib.Core.Path.{◌≡◌, refl}
use mathlib.Core.Logic.{inl, inr, ⊎_elim}
use mathlib.Core.List.{List, [], ◌∷◌}
use native.Mathlib.Omega.{arith}
use native.Mathlib.Decide.{ℕ_discrete, dec_le}
use lib.ListN.{length}
use Rattle.rules.specs.declared.Link.{Link}
use Rattle.rules.specs.Lists.{In}
use Rattle.rules.specs.Network.{links_of, ases_of, arcs_of}
use Rattle.rules.specs.Stable.{Routing}
use Rattle.rules.specs.Solve.{stable_of}
use Rattle.rules.specs.Judge.{Entry, entries_for}
use Rattle.rules.proofs.Faces.{typ, Settled}
use Rattle.rules.proofs.StableFaces.{stable_Settled}
use Rattle.rules.proofs.Exists.{stable_of-Stable}
use Rattle.rules.proofs.WalkLaws.{length_below}
use Rattle.rules.proofs.NetworkLaws.{ases_only}
use Rattle.rules.proofs.ArcLaws.{arcs_ends, arcs_cost, arcs_positive}
use Rattle.rules.proofs.LineLaws.{entries_only}
use Rattle.sheet.specs.Sizes.{Below, Fitting, Fits}

-- every line fits, so all do
each_fits : (es : List Entry) → ((e : Entry) → In e es → Fitting e) → Fits es
each_fits [] all = tt
each_fits (e ∷ es) all = (all e (inl refl), each_fits es (λ f m. all f (inr m)))

-- the ASes of links that are words below a bound are below it
links_below : (bound : ℕ) (ws : List ℕ) → Below bound ws → (l : Link) → In l (links_of ws) → (l.a < bound) × (l.b < bound)
unfolding links_of
links_below bound [] b l m = absurd m
links_below bound (x ∷ []) b l m = absurd m
links_below bound (x ∷ y ∷ []) b l m = absurd m
links_below bound (x ∷ y ∷ r ∷ ws) b l (inl e) = rw e (b 0, b 1)
links_below bound (x ∷ y ∷ r ∷ ws) b l (inr m) = links_below bound ws (λ k. b (suc (suc (suc k)))) l m

module _ (bound : ℕ) (ws : List ℕ) (b : Below bound ws) where
  pub ases_below : (u : ℕ) → In u (ases_of (links_of ws)) → u < bound
  ases_below u m =
      let (l, has, end) = ases_only (links_of ws) u m in
      let w = links_below bound ws b l has in
      ⊎_elim (λ e. omega arith) (λ e. omega arith) end

module _ (ws : List ℕ) (d : ℕ) (has : In d (ases_of (links_of ws))) where
  abbrev us : List ℕ
  us = ases_of (links_of ws)

  abbrev S : Routing
  S = stable_of (arcs_of (links_of ws)) d

  settled : Settled (λ a. In a (arcs_of (links_of ws))) d S
  settled = stable_Settled (arcs_of (links_of ws)) d S (stable_of-Stable (arcs_of (links_of ws)) d)

  -- a next hop is an AS
  next-In : (u : ℕ) → In u us → In (S u).next us
  next-In u m = at (ℕ_discrete u d) (dec_le (typ S u) 3)
    where
      at : Dec (u ≡ d) → Dec (typ S u ≤ 3) → In (S u).next us
      at (yes e) t = rw (e, settled.own_next) has
      at (no ne) (yes t) = (let h = settled.hop u ne t in rw h.next (arcs_ends (links_of ws) h.heard.arc h.heard.has).1)
      at (no ne) (no t) = rw (settled.lost_next u ne (omega (arith, settled.marked.high u))) m

  pub stable_Fits : Below 4294967296 ws → length us ≤ 65536 → Fits (entries_for S us)
  stable_Fits b few = each_fits (entries_for S us) fit
    where
      fit : (e : Entry) → In e (entries_for S us) → Fitting e
      fit e m =
          let (named, line) = entries_only S us e m in
          let u = e.number in
          let short = length_below (λ a. In a (arcs_of (links_of ws))) (arcs_positive (links_of ws)) d S settled us (arcs_ends (links_of ws)) (arcs_cost (links_of ws)) u in
          record {
            number = ases_below 4294967296 ws b u named;
            typ = rw line (omega (arith, settled.marked.high u));
            len = rw line (omega arith);
            next = rw line (ases_below 4294967296 ws b (S u).next (next-In u named));
          }
