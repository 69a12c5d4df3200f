-- A new offer that wins is taken (`Amended-new`); where the line rests on the same neighbour it is elected anew; any other stays (`Amended-kept`).
use Rattle.std.proofs.Common.{sym, ◌∙◌, ap}
use Rattle.offers.specs.declared.Offered.{Offered}
use Rattle.machine.proofs.StateLaws.{word_fits, elected_Anew}
use Rattle.machine.proofs.AmendLaws.{hearer_in, neighbour_fits, new_fits, Amended-new, Amended-kept, Amended-Anew}
use Rattle.machine.proofs.state.Machine.amend.Goals as goal

pub standing-standing-requires : goal.standing-standing-requires
standing-standing-requires c = hearer_in c.args.self.now.laid c.requires.direction c.requires.way

pub offered-new-requires-clause-way : goal.offered-new-requires-clause-way
offered-new-requires-clause-way c = neighbour_fits c.args.self.now.laid c.requires.direction c.requires.way

pub take_line-requires-clause-place : goal.take_line-requires-clause-place
take_line-requires-clause-place c = hearer_in c.args.self.now.laid c.requires.direction c.requires.way

pub take_line-requires-clause-word : goal.take_line-requires-clause-word
take_line-requires-clause-word c = new_fits c.args.self.now.laid c.requires.direction c.requires.way c.offered-new.ensures

pub elected-best-requires : goal.elected-best-requires
elected-best-requires c = hearer_in c.args.self.now.laid c.requires.direction c.requires.way

pub take_line-requires-then-standing-new-clause-place : goal.take_line-requires-then-standing-new-clause-place
take_line-requires-then-standing-new-clause-place c = hearer_in c.args.self.now.laid c.requires.direction c.requires.way

pub take_line-requires-then-standing-new-clause-word : goal.take_line-requires-then-standing-new-clause-word
take_line-requires-then-standing-new-clause-word c =
    word_fits c.args.self.now.laid (hearer_in c.args.self.now.laid c.requires.direction c.requires.way) c.elected-best.ensures

pub returns-then-wins-clause-amends : goal.returns-then-wins-clause-amends
returns-then-wins-clause-amends c =
    Amended-new c.args.self.now.laid c.requires.direction c.requires.way c.offered-new.ensures c.standing-standing.ensures
    (sym c.wins.ensures ∙ c.if-wins.true) c.take_line.ensures.takes

pub returns-then-standing-new-clause-amends : goal.returns-then-standing-new-clause-amends
returns-then-standing-new-clause-amends c =
    let laid = c.args.self.now.laid in
    let old = ap (λ (o : Offered). o.pair) c.standing-standing.ensures in
    let anew = elected_Anew laid (hearer_in laid c.requires.direction c.requires.way) c.elected-best.ensures old c.take_line-then-standing-new.ensures.takes in
    Amended-Anew laid c.requires.direction c.requires.way anew

pub returns-else-standing-new-clause-amends : goal.returns-else-standing-new-clause-amends
returns-else-standing-new-clause-amends c =
    Amended-kept c.args.self.now.laid c.requires.direction c.requires.way c.offered-new.ensures c.standing-standing.ensures
    (sym c.wins.ensures ∙ c.if-wins.false) c.if-standing-new.false
