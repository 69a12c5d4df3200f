-- `with_findings`: the network is accepted and the room suffices, so the findings come.
use Rattle.std.proofs.Common.{◌∙◌, arith}
use Rattle.report.proofs.WorkLaws.{findings_room, none_found, tells_both}
use Rattle.report.proofs.working.with_findings.Goals as goal

pub returns-in_err-found-clause-value : goal.returns-in_err-found-clause-value
returns-in_err-found-clause-value c = none_found c.requires.counted c.args.room.now (omega arith) c.find_accepted.ensures.value c.in_err-found.was

pub returns-in_err-found-clause-room_after : goal.returns-in_err-found-clause-room_after
returns-in_err-found-clause-room_after c = none_found c.requires.counted c.args.room.now (omega arith) c.find_accepted.ensures.value c.in_err-found.was

pub returns-clause-value : goal.returns-clause-value
returns-clause-value c = tells_both c.requires.counted c.args.room.now (omega arith) c.find_accepted.ensures.value c.args.end c.in_ok-found.was

pub returns-clause-room_after : goal.returns-clause-room_after
returns-clause-room_after c = c.find_accepted.ensures.room_after ∙ findings_room c.requires.counted c.args.room.now (omega arith)
