-- `settle`: the network is accepted and memory suffices, so the stable table comes, and there is only one.
use Rattle.std.proofs.Common.{arith}
use Rattle.report.proofs.WorkLaws.{settles, settles_surely}
use Rattle.report.proofs.working.settle.Goals as goal

pub returns-in_err-accepted_table-clause-value : goal.returns-in_err-accepted_table-clause-value
returns-in_err-accepted_table-clause-value c = settles_surely c.requires c.accepted_table.ensures (omega arith) (omega arith) c.in_err-accepted_table.was

pub returns-in_err-accepted_table-clause-table_after : goal.returns-in_err-accepted_table-clause-table_after
returns-in_err-accepted_table-clause-table_after c = settles_surely c.requires c.accepted_table.ensures (omega arith) (omega arith) c.in_err-accepted_table.was

pub returns-in_ok-accepted_table-clause-table_after : goal.returns-in_ok-accepted_table-clause-table_after
returns-in_ok-accepted_table-clause-table_after c =
    let e = settles c.requires c.accepted_table.ensures (omega arith) (omega arith) in
    rw c.if-end.true e
