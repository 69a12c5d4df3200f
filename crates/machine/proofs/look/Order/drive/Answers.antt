-- The fresh start, the choices and the further deliveries, each of every run that is held, make the definition's run (`driven`).
use Rattle.std.proofs.Common.{rules}
use Rattle.machine.proofs.StartLaws.{place_inside, LaidOut-started}
use Rattle.machine.proofs.AnswerLaws.{may_drive, driven}
use Rattle.machine.proofs.look.Order.drive.Goals as goal

pub lay_out-requires : goal.lay_out-requires
lay_out-requires c = (may_drive c.args.self.located c.requires).starting

pub take_choices-chosen-requires-clause-directions : goal.take_choices-chosen-requires-clause-directions
take_choices-chosen-requires-clause-directions c =
    rw (c.send.ensures.stays.links, c.links-links.ensures) (may_drive c.args.self.located c.requires).directions

pub returns : goal.returns
returns c =
    let may = may_drive c.args.self.located c.requires in
    let s = c.send.ensures.stays in
    let a = c.take_choices-chosen.ensures.stays in
    let g = c.go_on-made.ensures.stays in
    let fresh = rw (← c.links-links.ensures) at c.lay_out.ensures in
    let origin = LaidOut-started fresh (place_inside may.starting) c.send.ensures.sent c.pack_pair.ensures in
    let start = rw (← c.send.ensures.table) at origin in
    let chose = rw (s.words, s.links, s.destination) at c.take_choices-chosen.ensures.chooses in
    let went = rw (a.words, a.links, a.destination, s.words, s.links, s.destination) at c.go_on-made.ensures.goes_on in
    let laid = rw (g.words, g.links, a.words, a.links, s.words, s.links) at c.go_on-made.new.self.laid in
    let first = rw (g.links, a.links, s.links) at c.first_waiting.ensures.first in
    rw (← c.links-links.ensures) (driven start chose went laid _ first c.is_none-quiet.ensures (search rules) (search rules))
