-- The slot where the search stopped holds a link that joins the pair, or is empty and takes link i.
use Rattle.std.proofs.Common.{sym, ◌+◌, ◌∙◌, arith}
use Rattle.network.specs.Slots.{Stopped}
use Rattle.network.specs.Tables.{is_pair}
use Rattle.network.proofs.SlotLaws.{stopped, stops_inside}
use Rattle.network.proofs.PairTableLaws.{places, places_from, pair_Room, Paired-there, Paired-new}
use Rattle.network.proofs.slots.note_pair.Goals as goal
use Rattle.network.proofs.slots.note_pair.Goals.{After-unwrap}

stop : (c : After-unwrap) → Stopped (is_pair c.args.words.now c.link_at-l.result) c.args.pairs.now c.pair_home-h.result (c.pair_home-h.result + c.unwrap.result)
stop c = stopped (is_pair c.args.words.now c.link_at-l.result) _ _ (omega (arith, c.requires.fits)) _ (sym c.find_pair.ensures ∙ c.unwrap.ensures)

pub find_pair-requires : goal.find_pair-requires
find_pair-requires c = places_from c.pair_home-h.result (places c.requires)

pub unwrap-requires : goal.unwrap-requires
unwrap-requires c = rw c.find_pair.ensures
    (stops_inside (is_pair c.args.words.now c.link_at-l.result) _ _ (omega (arith, c.requires.fits)) (pair_Room c.requires c.pair_home-h.ensures.1))

pub returns-then-pairs-s-eq0 : goal.returns-then-pairs-s-eq0
returns-then-pairs-s-eq0 c = Paired-new c.requires c.link_at-l.ensures c.pair_home-h.ensures.0 (stop (goal.at.returns-then-pairs-s-eq0 c).After-unwrap) c.if-pairs-s-eq0.true

pub returns-else-pairs-s-eq0 : goal.returns-else-pairs-s-eq0
returns-else-pairs-s-eq0 c = Paired-there c.requires c.link_at-l.ensures c.pair_home-h.ensures.0 (stop (goal.at.returns-else-pairs-s-eq0 c).After-unwrap) c.if-pairs-s-eq0.false
