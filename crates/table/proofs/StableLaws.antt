-- The stable table is one: its words are those of the computed routing, and so are those of a table that holds it.
use Prim.Native.Nat.{ℕ}
use mathlib.Core.Path.{◌≡◌, ◌∙◌, ap}
use mathlib.Core.List.{List}
use Rattle.std.specs.Prelude.{Ok}
use Rattle.rules.specs.declared.Link.{Link}
use Rattle.rules.specs.Network.{ases_of, arcs_of}
use Rattle.rules.specs.Entry.{filled}
use Rattle.rules.specs.Stable.{Routing, table_of}
use Rattle.rules.specs.Solve.{stable_of}
use Rattle.rules.proofs.ArcLaws.{arcs_positive}
use Rattle.rules.proofs.Exists.{Stable-only}
use Rattle.table.specs.Entries.{StableTable, Filled}

pub stable_words : (ls : List Link) (d : ℕ) (ws : List ℕ) → StableTable ls d ws → ws ≡ table_of (stable_of (arcs_of ls) d) (ases_of ls)
stable_words ls d ws s =
    s.words ∙ ap (λ (R : Routing). table_of R (ases_of ls)) (Stable-only (arcs_of ls) (arcs_positive ls) d s.routing s.stable)

pub filled_words : (ls : List Link) (d : ℕ) (old new : List ℕ) → Filled ls d old new → new ≡ filled (Ok tt) (table_of (stable_of (arcs_of ls) d) (ases_of ls)) old
filled_words ls d old new f = f.words ∙ ap (λ (ws : List ℕ). filled (Ok tt) ws old) (stable_words ls d f.table f.stable)
