-- `words::stable_table`: links or a table that are refused, or the table with four words for each AS.
use Rattle.std.proofs.Common.{◌≡◌, rules, arith}
use Rattle.std.specs.Prelude.{Err}
use Rattle.storefront.proofs.TableLaws.{accepted_ases, no_page, page_passes, page_refuses}
use Rattle.storefront.proofs.words.stable_table.Goals as goal

pub returns-in_err-network : goal.returns-in_err-network
returns-in_err-network c =
    let passed : c.from_residual.result ≡ Err c.in_err-network.field-0.0 = search rules in
    no_page _ _ _ c.in_err-network.ensures passed

pub returns-in_err-tabulate : goal.returns-in_err-tabulate
returns-in_err-tabulate c =
    let passed : c.from_residual-in_err-tabulate.result ≡ Err c.in_err-tabulate.field-0.0 = search rules in
    rw c.in_ok-network.ensures at (page_refuses _ c.tabulate.ensures c.in_err-tabulate.was passed)

pub overflow_mul-result : goal.overflow_mul-result
overflow_mul-result c = omega (arith, (accepted_ases _ c.in_ok-network.network.accepted).few_ases)

pub returns : goal.returns
returns c = rw c.in_ok-network.ensures at (page_passes _ c.tabulate.ensures c.in_ok-network.network.accepted c.in_ok-tabulate.was)
