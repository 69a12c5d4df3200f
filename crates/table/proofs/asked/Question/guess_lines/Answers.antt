-- `table::asked::Question::guess_lines` meets its contract: what is begun is fit for the guess, which changes nothing but pairs.
use Rattle.table.proofs.FillLaws.{question_Asked, Placed-front, asked_Placing, begun, begun_Guessing, begun_Tried}
use Rattle.table.proofs.asked.Question.guess_lines.Goals as goal

pub place_ends-requires : goal.place_ends-requires
place_ends-requires c = asked_Placing (question_Asked c.args.self) c.args.room.now c.requires.words

pub guess_pairs-requires : goal.guess_pairs-requires
guess_pairs-requires c = begun_Guessing (question_Asked c.args.self) _ c.requires.entries (begun _ _ c.lay_fresh_lines.ensures)

pub returns : goal.returns
returns c =
    begun_Tried (question_Asked c.args.self) _ c.requires.entries (begun _ _ c.lay_fresh_lines.ensures) c.guess_pairs.ensures
    (Placed-front _ _ _ c.place_ends.ensures)
