-- `table::stable_table` meets its contract: a refusal of the links is the whole reply, and else the table of accepted links is.
use Rattle.std.proofs.Common.{sym}
use Rattle.std.proofs.lemmas.Result.{err_from_is_err_and}
use Rattle.rules.specs.Checks.{base_limits}
use Rattle.table.proofs.LookLaws.{fault-links, Tabled-refused}
use Rattle.table.proofs.stable_table.Goals as goal

pub returns-in_err-check_links : goal.returns-in_err-check_links
returns-in_err-check_links c =
    let p = err_from_is_err_and c.from_residual.result c.from_residual.ensures.1 in
    rw (p.1, p.2) (Tabled-refused base_limits _ _ _ _ (fault-links base_limits _ _ _ _ (sym c.in_err-check_links.ensures)))
