-- `table::asked::Question::answer` meets its contract: what was tried and chosen has the pairs that are due, and with its next hops it is
-- the stable table.
use Rattle.std.proofs.Common.{◌≡◌, length, replicate, rules}
use Rattle.table.proofs.FillLaws.{tried_Agreed, lines_Filled}
use Rattle.table.proofs.asked.Question.answer.Goals as goal

pub returns : goal.returns
returns c =
    let same : length c.guess_lines.new.room ≡ length c.args.room.now = c.guess_lines.auto.room in
    let zero : c.fill.new.self ≡ replicate (length c.args.room.now) 0 = search rules in (
      lines_Filled _ _ _ c.args.self.listed c.requires.0.entries (tried_Agreed c.guess_lines.ensures c.choose_lines.ensures)
          (rw (c.best.ensures.0, c.best.ensures.1) at c.put_hops.ensures),
      zero,
    )
