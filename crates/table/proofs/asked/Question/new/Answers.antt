-- `table::asked::Question::new` meets its contract: the ASes ascend, so a destination among them has a place.
use Rattle.std.specs.Prelude.{Err, None, is_some}
use Rattle.std.proofs.Common.{◌≡◌, ap, arith, rules}
use Rattle.rules.specs.declared.Refusal.TheVariants.{NoDestination}
use Rattle.table.proofs.LookLaws.{listed_Ascending, missing}
use Rattle.table.proofs.asked.Question.new.Goals as goal

pub place_of-requires : goal.place_of-requires
place_of-requires c = (omega arith, listed_Ascending _ _ c.requires)

pub returns-in_err-ok_or : goal.returns-in_err-ok_or
returns-in_err-ok_or c =
    let none : c.place_of.result ≡ None = search rules in
    let passed_on : c.from_residual.result ≡ Err NoDestination = search rules in
    rw (passed_on, missing c.args.ases.now c.args.destination c.place_of.result c.place_of.ensures (ap is_some none))
