-- What is given for an entry is its AS with its fresh line.
use Rattle.std.proofs.Common.{sym, ◌∙◌, rules, ◌≡◌, take, get_or}
use Rattle.std.proofs.Math.Seq.{length-take-le, get_or-take}
use Rattle.offers.specs.Lines.{fresh_lines}
use Rattle.offers.proofs.FreshLaws.{fresh_next}
use Rattle.offers.proofs.lay_fresh_lines.Goals as goal

pub returns : goal.returns
returns c =
    c.lay_entries.ensures (take c.args.n c.args.list.now) (fresh_lines c.args.destination)
    (record {
      count = length-take-le _ _ c.requires.1;
      number = λ i e h p. let is : e.0 ≡ get_or c.args.list.now i 0 = search rules in is ∙ sym (get_or-take _ _ i 0 h);
      pair = λ i e h p. search rules;
      next = λ i e h p. fresh_next c.args.destination e.0;
    })
