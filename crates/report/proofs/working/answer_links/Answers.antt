-- `answer_links`: links that are refused, or the run over the network that they are.
use Rattle.std.proofs.Common.{◌≡◌, sym, subst, rules}
use Rattle.std.specs.Prelude.{Err}
use Rattle.rules.specs.Network.{links_of}
use Rattle.report.proofs.InputLaws.{refuses}
use Rattle.report.specs.Answers.{fault_of_link_words, Worked}
use Rattle.report.proofs.working.answer_links.Goals as goal

pub returns-in_err-check : goal.returns-in_err-check
returns-in_err-check c =
    let A = c.args in
    let passed : c.from_residual.result ≡ Err c.in_err-check.field-0.0 = search rules in
    let ws = A.words.now in
    subst (λ r. Worked (links_of ws) A.destination (fault_of_link_words ws A.destination) A.table.now A.room.now r A.table.now A.room.now) (sym passed)
    (refuses (rw c.in_err-check.ensures))
