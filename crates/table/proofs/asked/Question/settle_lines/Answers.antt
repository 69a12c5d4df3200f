-- `table::asked::Question::settle_lines` meets its contract: what is begun is ready for the phases, and what they leave has the pairs that
-- are due.
use Rattle.std.proofs.Common.{rules}
use Rattle.table.proofs.FillLaws.{question_Asked, begun, begun_Ready, settled_Electing, settled_Agreed}
use Rattle.table.proofs.asked.Question.settle_lines.Goals as goal

pub overflow_cast-n : goal.overflow_cast-n
overflow_cast-n c = let a = question_Asked c.args.self in search rules

pub settle-requires : goal.settle-requires
settle-requires c = begun_Ready (question_Asked c.args.self) _ c.requires.0 (begun _ _ c.lay_fresh_lines.ensures) _ c.requires.1

pub elect_links-requires : goal.elect_links-requires
elect_links-requires c = (
  settled_Electing _ _ _ _ _ _ _ c.args.self.listed (question_Asked c.args.self) c.requires.0 c.requires.1 (begun _ _ c.lay_fresh_lines.ensures) c.settle.ensures,
  c.requires.2,
)

pub returns : goal.returns
returns c =
    settled_Agreed _ _ _ _ _ _ _ c.args.self.listed _ _ (question_Asked c.args.self) c.requires.0 c.requires.1 (begun _ _ c.lay_fresh_lines.ensures)
    c.settle.ensures c.elect_links.ensures
