-- `sheets::make_for`: the table is the stable one, four words for each AS, and what is written of it is the sheet.
use Rattle.std.proofs.Common.{◌*◌, ◌≤◌, ◌≡◌, refl, sym, rules, arith, length, length-take-le}
use Rattle.std.specs.Prelude.{Err}
use Rattle.storefront.proofs.SheetLaws.{no_table, sheet_made}
use Rattle.storefront.proofs.TableLaws.{accepted_ases}
use Rattle.storefront.proofs.sheets.make_for.Goals as goal
use Rattle.storefront.proofs.sheets.make_for.Goals.{After-tabulate}

room : (c : After-tabulate) → 4 * c.args.network.ases ≤ length c.tabulate.new.table
room c = omega (arith, (accepted_ases _ c.args.network.accepted).few_ases, c.tabulate.auto.table)

pub overflow_mul-table : goal.overflow_mul-table
overflow_mul-table c = omega (arith, (accepted_ases _ c.args.network.accepted).few_ases)

pub slice_bounds-table-end : goal.slice_bounds-table-end
slice_bounds-table-end c = room (goal.at.slice_bounds-table-end c).After-tabulate

pub slice_bounds-write-end : goal.slice_bounds-write-end
slice_bounds-write-end c = sym (length-take-le _ _ (room (goal.at.slice_bounds-write-end c).After-tabulate))

pub returns-in_err-tabulate-clause-reply : goal.returns-in_err-tabulate-clause-reply
returns-in_err-tabulate-clause-reply c =
    let passed : c.from_residual.result ≡ Err c.in_err-tabulate.field-0.0 = search rules in
    (no_table _ _ refl c.tabulate.ensures c.args.sheet.now _ c.in_err-tabulate.was passed).0

pub returns-in_err-tabulate-clause-bytes : goal.returns-in_err-tabulate-clause-bytes
returns-in_err-tabulate-clause-bytes c = (no_table _ _ refl c.tabulate.ensures c.args.sheet.now _ c.in_err-tabulate.was refl).1

pub returns-clause-reply : goal.returns-clause-reply
returns-clause-reply c =
    (sheet_made _ _ refl c.tabulate.ensures c.args.network.accepted c.in_ok-tabulate.was c.args.sheet.now (c.write.ensures.reply, c.write.ensures.bytes)).0

pub returns-clause-bytes : goal.returns-clause-bytes
returns-clause-bytes c =
    (sheet_made _ _ refl c.tabulate.ensures c.args.network.accepted c.in_ok-tabulate.was c.args.sheet.now (c.write.ensures.reply, c.write.ensures.bytes)).1
