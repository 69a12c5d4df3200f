-- The shared pass: the best offer to every AS, from what the lines of a table tell.
--
--   as_offer o         an offer in code as an offer of the rules
--   Wide t n           lengths of the first n entries leave room for one link more
--   offers_to ls t n   each AS's line as the best offer that the first n entries of t give it
use Rattle.std.specs.Prelude.{ℕ, ◌<◌, List}
use Rattle.rules.specs.declared.Link.{Link}
use Rattle.rules.specs.Offers.{Offer, best}
use Rattle.rules.specs.Network.{arcs_of}
use Rattle.rules.specs.Stable.{Routing, line_of, told}
use Rattle.offers.specs.declared.Offered.{Offered}
use Rattle.offers.specs.Lines.{length_word, printed}

abbrev pub as_offer : Offered → Offer
as_offer o = record { pair = o.pair; rank = o.rank; next = o.next }

pub record Wide (t : List ℕ) (n : ℕ) : Type 0 where
  pub short : (i : ℕ) → i < n → length_word t i < 4294967295

abbrev pub offers_to : List Link → List ℕ → ℕ → Routing
offers_to ls t n u = line_of (best (told (printed n t)) u (arcs_of ls))
