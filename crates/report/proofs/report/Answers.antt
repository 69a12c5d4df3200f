-- `report` prints what was worked out: the text that is stored is the report of the definition, and it fits.
use Rattle.report.proofs.ReportLaws.{refused_place, refused_report, told_few, told_Reported}
use Rattle.report.proofs.report.Goals as goal

pub put_refusal-requires : goal.put_refusal-requires
put_refusal-requires c = refused_place c.args.input.now c.answer.ensures c.in-Err.is

pub put_report-requires : goal.put_report-requires
put_report-requires c = told_few c.args.input.now c.answer.ensures c.in-Ok.is

pub returns-in-Err : goal.returns-in-Err
returns-in-Err c = refused_report c.args.input.now c.answer.ensures c.in-Err.is c.put_refusal.ensures

pub returns-in-Ok : goal.returns-in-Ok
returns-in-Ok c = told_Reported c.args.input.now c.answer.ensures c.in-Ok.is c.put_report.ensures
