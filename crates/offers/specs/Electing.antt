-- The pass, entry by entry and direction by direction.
--
--   entry_offer t i    the offer that entry i stands for
--   with_better t i o  the table with the better of entry i's offer and o at entry i
--   best_after ls t n k each AS's line as the best offer over the first k directions
--   with_heard ls t k b the table b with these lines; with_offers ls t n b  with the best offers over all directions
--   Electing ls ps t n what the pass asks: places of the links' ends, and a table of their ASes whose lengths leave room for one link more
--   Hearer b w         the hearer of w has an entry in b, whose offer is fair
--   Hearing ls t b k   what it asks at direction k: b has the best offers over those before it
use Rattle.std.specs.Prelude.{ℕ, ◌+◌, ◌*◌, ◌≤◌, ◌<◌, ◌≡◌, List, ◌++◌, length, get_or, take, drop}
use Rattle.rules.specs.declared.Link.{Link}
use Rattle.rules.specs.Offers.{choose, best}
use Rattle.rules.specs.Network.{ases_of, arcs_of}
use Rattle.rules.specs.Stable.{Routing, line_of, told, table_of}
use Rattle.offers.specs.declared.Offered.{Offered}
use Rattle.offers.specs.declared.Way.{Way}
use Rattle.offers.specs.Lines.{number_word, entry_pair, next_word, with_line, printed}
use Rattle.offers.specs.Passes.{as_offer, Wide, offers_to}
use Rattle.offers.specs.Steps.{ranked_offer, Fair, Placed}

abbrev pub entry_offer : List ℕ → ℕ → Offered
entry_offer t i = ranked_offer (entry_pair t i) (next_word t i)

abbrev pub with_better : List ℕ → ℕ → Offered → List ℕ
with_better t i o = with_line t i (line_of (choose (as_offer (entry_offer t i)) (as_offer o)))

abbrev pub best_after : List Link → List ℕ → ℕ → ℕ → Routing
best_after ls t n k u = line_of (best (told (printed n t)) u (take k (arcs_of ls)))

abbrev pub with_heard : List Link → List ℕ → ℕ → List ℕ → List ℕ
with_heard ls t k b = table_of (best_after ls t (length (ases_of ls)) k) (ases_of ls) ++ drop (4 * length (ases_of ls)) b

-- 'Table words beyond the last entry stay as they were'
abbrev pub with_offers : List Link → List ℕ → ℕ → List ℕ → List ℕ
with_offers ls t n b = table_of (offers_to ls t n) (ases_of ls) ++ drop (4 * n) b

pub record Electing (ls : List Link) (ps t : List ℕ) (n : ℕ) : Type 0 where
  pub placed : Placed ls ps
  pub count : n ≡ length (ases_of ls)
  pub numbers : (i : ℕ) → i < n → number_word t i ≡ get_or (ases_of ls) i 0
  pub wide : Wide t n
  pub room : 4 * n ≤ length t

pub record Hearer (b : List ℕ) (w : Way) : Type 0 where
  pub within : 4 * w.hearer + 4 ≤ length b
  pub fair : Fair (entry_offer b w.hearer)

pub record Hearing (ls : List Link) (t b : List ℕ) (k : ℕ) : Type 0 where
  pub within : k < 2 * length ls
  pub sofar : take (4 * length (ases_of ls)) b ≡ table_of (best_after ls t (length (ases_of ls)) k) (ases_of ls)
