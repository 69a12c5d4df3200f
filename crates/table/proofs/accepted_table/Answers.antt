-- `table::accepted_table` meets its contract: the question is refused or answered.
use Rattle.std.proofs.lemmas.Result.{err_from_is_err_and}
use Rattle.rules.specs.Checks.{base_limits}
use Rattle.rules.proofs.AcceptedLinks.{links_few}
use Rattle.network.proofs.ListedLaws.{listed_front}
use Rattle.table.proofs.LookLaws.{counted_accepted, fault-destination, question_sizes, Tabled-refused, Tabled-passes}
use Rattle.table.proofs.accepted_table.Goals as goal

pub list_ases-ases-requires : goal.list_ases-ases-requires
list_ases-ases-requires c = links_few base_limits c.args.words.now c.requires

pub invariant_of-network : goal.invariant_of-network
invariant_of-network c = record { accepted = counted_accepted c.args.words.now _ c.requires c.list_ases-ases.ensures.count }

pub returns-in_err-question : goal.returns-in_err-question
returns-in_err-question c =
    let p = err_from_is_err_and c.from_residual.result c.from_residual.ensures.1 in
    rw (p.1, p.2)
    (Tabled-refused base_limits _ _ _ _ (fault-destination base_limits _ _ _ _ c.requires (listed_front c.list_ases-ases.ensures) c.in_err-question.ensures))

pub returns-in_err-fits : goal.returns-in_err-fits
returns-in_err-fits c =
    let p = err_from_is_err_and c.from_residual-in_err-fits.result c.from_residual-in_err-fits.ensures.1 in
    let q = c.in_ok-question in
    rw (p.1, p.2)
    (Tabled-refused base_limits _ _ _ _
    (question_sizes q.question _ _ _ _ c.requires q.ensures.0 q.ensures.2 c.in_err-fits.ensures))

pub returns : goal.returns
returns c =
    let q = c.in_ok-question in
    Tabled-passes base_limits _ _ _ _
    (question_sizes q.question _ _ _ _ c.requires q.ensures.0 q.ensures.2 c.in_ok-fits.ensures)
    (rw (q.ensures.0, q.ensures.2) at c.answer.ensures.0) c.answer.ensures.1
