-- A refusal at link i is the reply to the whole rest; a link without one takes the tables one place on.
use Rattle.std.proofs.Common.{rules, ◌≡◌, sym, ◌∙◌}
use Rattle.std.specs.Prelude.{Err}
use Rattle.network.proofs.StepLaws.{Open-seats, Pairing-pairs, named, own, pair_again, too_many, next}
use Rattle.network.proofs.steps.Tables.take.Goals as goal

pub note_pair-requires : goal.note_pair-requires
note_pair-requires c = rw c.pair_homes-homes.ensures (Pairing-pairs c.args.self.now.sized c.requires)

pub note_ends-self-requires : goal.note_ends-self-requires
note_ends-self-requires c =
    let sound = named c.link_at-l.result c.args.i (sym c.own_fault.ensures ∙ c.in_ok-own_fault.was) in
    (sound.0, sound.1, rw c.as_homes-homes.ensures (Open-seats c.args.self.now.sized c.requires))

pub returns-in_err-own_fault-clause-step : goal.returns-in_err-own_fault-clause-step
returns-in_err-own_fault-clause-step c =
    let e : c.from_residual.result ≡ Err c.in_err-own_fault.field-0.0 = search rules in
    rw e (own c.args.self.now.sized c.requires c.link_at-l.ensures (sym c.own_fault.ensures ∙ c.in_err-own_fault.was))

pub returns-then-note_pair-clause-step : goal.returns-then-note_pair-clause-step
returns-then-note_pair-clause-step c =
    pair_again c.args.self.now.sized c.requires c.link_at-l.ensures (sym c.own_fault.ensures ∙ c.in_ok-own_fault.was)
    (rw c.pair_homes-homes.ensures at c.note_pair.ensures) c.if-note_pair.true

pub returns-then-self-clause-step : goal.returns-then-self-clause-step
returns-then-self-clause-step c =
    too_many c.args.self.now.sized c.requires c.link_at-l.ensures (sym c.own_fault.ensures ∙ c.in_ok-own_fault.was)
    (rw c.pair_homes-homes.ensures at c.note_pair.ensures) c.if-note_pair.false (rw c.as_homes-homes.ensures at c.note_ends-self.ensures) c.if-self.true

pub returns-clause-step : goal.returns-clause-step
returns-clause-step c =
    next c.args.self.now.sized c.requires c.link_at-l.ensures (sym c.own_fault.ensures ∙ c.in_ok-own_fault.was)
    (rw c.pair_homes-homes.ensures at c.note_pair.ensures) c.if-note_pair.false (rw c.as_homes-homes.ensures at c.note_ends-self.ensures) c.if-self.false
