-- `run_machine`: memory suffices, so only a destination that is not there is refused; the rest is what is told of the run.
use Rattle.std.proofs.Common.{◌≡◌, rules, arith, sym, subst}
use Rattle.std.specs.Prelude.{Err}
use Rattle.rules.specs.Network.{links_of, ases_of}
use Rattle.rules.specs.Entry.{fault_of_destination}
use Rattle.report.specs.Answers.{Worked}
use Rattle.report.proofs.WorkLaws.{run_refused, run_Accepted, run_made, run_told}
use Rattle.report.proofs.working.run_machine.Goals as goal

pub overflow_cast-end : goal.overflow_cast-end
overflow_cast-end c = omega (arith, run_made (record { accepted = c.args.network.accepted }) c.run.ensures (omega arith) (omega arith) c.in_ok-ran.was)

pub tell-requires : goal.tell-requires
tell-requires c = run_Accepted (record { accepted = c.args.network.accepted }) c.run.ensures (omega arith) (omega arith) c.in_ok-ran.was

pub returns-in_err-ran : goal.returns-in_err-ran
returns-in_err-ran c =
    let passed : c.from_residual.result ≡ Err c.in_err-ran.field-0.0 = search rules in
    let ls = links_of c.args.network.words.now in
    subst (λ r. Worked ls c.args.destination (fault_of_destination c.args.destination (ases_of ls)) c.args.table.now c.args.room.now r c.run.new.table c.run.new.room)
    (sym passed) (run_refused (record { accepted = c.args.network.accepted }) c.run.ensures (omega arith) (omega arith) c.in_err-ran.was)

pub returns : goal.returns
returns c =
    run_told (record { accepted = c.args.network.accepted }) c.run.ensures (omega arith) (omega arith) c.in_ok-ran.was c.tell.ensures.value c.tell.ensures.table_after
    c.tell.ensures.room_after
