-- `table::asked::Question::choose_lines` meets its contract: what was tried is fit for the election.
use Rattle.table.proofs.FillLaws.{question_Asked, Tried-Electing}
use Rattle.table.proofs.asked.Question.choose_lines.Goals as goal

pub elect_links-requires : goal.elect_links-requires
elect_links-requires c = (Tried-Electing (question_Asked c.args.self) c.requires.0 c.requires.1, c.requires.2)
