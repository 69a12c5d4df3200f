-- What the steps of the pass ask and say.
--
--   ranked_offer p next  the offer that a line stands for: ranked by its next hop where it is reachable
--   Fair o             an offer in code no worse than none: reachable, or the mark 'unreachable' at rank 0
--   OverWay w from a   arc a is the direction w from the AS numbered from: the same kind and cost, ranked and followed by that number
--   is_passed_on k t   over a link of kind k a neighbour's type t gives a reachable offer
--   told_offer t w     the offer that the neighbour's entry in t gives over w
--   Telling w t        the neighbour of w has an entry in t whose length leaves room for the link
--   Placed ls ps       the first words of ps are where the ends of the links stand among their ASes
--   Considered o w from p r   r is the better of o and what a neighbour with pair p offers over w
use Rattle.std.specs.Prelude.{ℕ, ◌+◌, ◌*◌, ◌≤◌, ◌<◌, ◌≡◌, List, Bool, cond, not, ltb, eqb, length, take}
use Rattle.rules.specs.declared.TypeLength.{TypeLength}
use Rattle.rules.specs.declared.Link.{Link}
use Rattle.rules.specs.Pairs.{extended_type, extension}
use Rattle.rules.specs.Offers.{Arc, offer, choose}
use Rattle.rules.specs.Network.{ases_of}
use Rattle.offers.specs.declared.Way.{Way}
use Rattle.offers.specs.declared.Offered.{Offered}
use Rattle.offers.specs.Lines.{number_word, length_word, entry_pair}
use Rattle.offers.specs.Ways.{places_of}
use Rattle.offers.specs.Passes.{as_offer}

-- 'then smaller neighbour number'
abbrev pub ranked_offer : TypeLength → ℕ → Offered
ranked_offer p next = record { pair = p; rank = cond (ltb p.typ 4) next 0; next = next }

pub record Fair (o : Offered) : Type 0 where
  pub typ : o.pair.typ ≤ 4
  pub long : o.pair.typ ≡ 4 → o.pair.length ≡ 0
  pub rank : o.pair.typ ≡ 4 → o.rank ≡ 0

pub record OverWay (w : Way) (from : ℕ) (a : Arc) : Type 0 where
  pub kind : a.kind ≡ w.kind
  pub cost : a.cost ≡ w.cost
  pub rank : a.rank ≡ from
  pub neighbour : a.neighbour ≡ from

pub record Considered (o : Offered) (w : Way) (from : ℕ) (p : TypeLength) (r : Offered) : Type 0 where
  pub chosen : (a : Arc) → OverWay w from a → as_offer r ≡ choose (as_offer o) (offer a p)

abbrev pub is_passed_on : ℕ → ℕ → Bool
is_passed_on kind typ = not (eqb (extended_type kind typ) 4)

abbrev pub told_offer : List ℕ → Way → Offered
told_offer t w = ranked_offer (extension w.kind w.cost (entry_pair t w.neighbour)) (number_word t w.neighbour)

pub record Telling (w : Way) (t : List ℕ) : Type 0 where
  pub within : 4 * w.neighbour + 4 ≤ length t
  pub fits : length_word t w.neighbour + w.cost < 4294967296

abbrev pub Placed : List Link → List ℕ → Type 0
Placed ls ps = take (2 * length ls) ps ≡ places_of (ases_of ls) ls
