-- A page that is written on: lent bytes, and the place from which on the next is written.
--
--   Fits p k           k bytes more fit
--   Puts old out new   the bytes `out` stand from the old place on, and the next is written behind them
use Rattle.std.specs.Prelude.{ℕ, ◌+◌, ◌≤◌, ◌≡◌, List, length}
use Rattle.linktext.specs.Stored.{Stored}
use Rattle.report.specs.declared.printing.Page.{Page}

abbrev pub Fits : Page → ℕ → Type 0
Fits p k = p.at + k ≤ length p.bytes.now

pub record Puts (old : Page) (out : List ℕ) (new : Page) : Type 0 where
  pub stored : Stored old.bytes.now old.at out new.bytes.now new.at
  pub loan : new.bytes.ghost_name ≡ old.bytes.ghost_name
