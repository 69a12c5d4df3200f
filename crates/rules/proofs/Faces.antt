-- Stability as facts: what of a stable routing theorems use, and what a method that is no election shows of one.
--
--   Ext k t e          the cells of the extension table below 4, as a relation
--   Le x y             x wins against y or is as good: the order of offers as facts
--   Heard Has R u      u's pair is what it hears over some arc
--   Marked Has d R     types and lengths are those of best offers; the tie-break plays no part
--   Hop, Settled       and each next hop is where the line is heard from
use Prim.Native.Nat.{ℕ, ◌+◌, ◌≤◌}
use mathlib.Core.Path.{◌≡◌}
use mathlib.Core.Logic.{◌≢◌}
use Rattle.rules.specs.Offers.{Arc, Offer}
use Rattle.rules.specs.Stable.{Routing}

pub data Ext (k t e : ℕ) : Type 0 where
  cust : k ≡ 1 → t ≡ 1 → e ≡ 1 → Ext k t e
  peer : k ≡ 2 → t ≡ 1 → e ≡ 2 → Ext k t e
  prov : k ≡ 3 → 1 ≤ t → t ≤ 3 → e ≡ 3 → Ext k t e

pub record Le (x y : Offer) : Type 0 where
  pub typ : x.pair.typ ≤ y.pair.typ
  pub len : x.pair.typ ≡ y.pair.typ → x.pair.length ≤ y.pair.length
  pub rank : x.pair.typ ≡ y.pair.typ → x.pair.length ≡ y.pair.length → x.rank ≤ y.rank

-- the type and the length of a line
abbrev pub typ : Routing → ℕ → ℕ
typ R u = (R u).pair.typ

abbrev pub len : Routing → ℕ → ℕ
len R u = (R u).pair.length

pub record Heard (Has : Arc → Type 0) (R : Routing) (u : ℕ) : Type 0 where
  pub arc : Arc
  pub has : Has arc
  pub hearer : arc.hearer ≡ u
  pub ext : Ext arc.kind (typ R arc.neighbour) (typ R u)
  pub long : len R u ≡ len R arc.neighbour + arc.cost

pub record Marked (Has : Arc → Type 0) (d : ℕ) (R : Routing) : Type 0 where
  pub own_typ : typ R d ≡ 1
  pub own_len : len R d ≡ 0
  pub low : (u : ℕ) → 1 ≤ typ R u
  pub high : (u : ℕ) → typ R u ≤ 4
  pub heard : (u : ℕ) → u ≢ d → typ R u ≤ 3 → Heard Has R u
  pub least : (u : ℕ) → u ≢ d → (a : Arc) → Has a → a.hearer ≡ u → (e : ℕ) → Ext a.kind (typ R a.neighbour) e
      → (typ R u ≤ e) × (typ R u ≡ e → len R u ≤ len R a.neighbour + a.cost)
  pub lost_len : (u : ℕ) → u ≢ d → typ R u ≡ 4 → len R u ≡ 0

pub record Hop (Has : Arc → Type 0) (R : Routing) (u : ℕ) : Type 0 where
  pub heard : Heard Has R u
  pub next : (R u).next ≡ heard.arc.neighbour

pub record Settled (Has : Arc → Type 0) (d : ℕ) (R : Routing) : Type 0 where
  pub marked : Marked Has d R
  pub own_next : (R d).next ≡ d
  pub hop : (u : ℕ) → u ≢ d → typ R u ≤ 3 → Hop Has R u
  pub lost_next : (u : ℕ) → u ≢ d → typ R u ≡ 4 → (R u).next ≡ u
