-- `text_from`: an LF ends the line and the text begins behind it; without one nothing is left.
use Rattle.report.proofs.InputLaws.{behind_lf, behind_all}
use Rattle.report.proofs.input.text_from.Goals as goal

pub returns-then-end-input : goal.returns-then-end-input
returns-then-end-input c = behind_lf c.args.input.now c.args.end c.requires c.if-end-input.true

pub returns-else-end-input : goal.returns-else-end-input
returns-else-end-input c = behind_all c.args.input.now c.args.end c.requires c.if-end-input.false
