-- `wins` is `better`, by one comparison (`outdone`): what is added where length and rank are smaller is 0 or 1.
use Rattle.std.proofs.Common.{◌≡◌}
use Rattle.offers.proofs.FlatLaws.{outdone, byte_is}
use Rattle.offers.specs.Passes.{as_offer}
use Rattle.offers.proofs.Offered.wins.Goals as goal

pub returns : goal.returns
returns c =
    let mine : c.from.result ≡ c.args.self.pair.typ = c.from.ensures in
    rw (mine, c.from-2.ensures, c.from-tie.ensures, byte_is, c.length_rank-mine.ensures.0, c.length_rank.ensures.0)
    (outdone (as_offer c.args.self) (as_offer c.args.other) c.length_rank-mine.ensures.1 c.length_rank.ensures.1)
