-- `put_due`: the shared pass and one store for the destination leave the lines that are due (`due_put`).
use Rattle.std.proofs.Common.{rules, arith}
use Rattle.judge.proofs.NetworkLaws.{accepted_Network}
use Rattle.judge.proofs.DueLaws.{placing, electing, due_put}
use Rattle.rules.specs.Stable.{own}
use Rattle.judge.proofs.best.Printed.put_due.Goals as goal

pub place_ends-requires : goal.place_ends-requires
place_ends-requires c = placing (accepted_Network c.args.self.listed c.args.self.network.accepted) _ (omega arith)

pub elect_links-requires : goal.elect_links-requires
elect_links-requires c = (electing (accepted_Network c.args.self.listed c.args.self.network.accepted) c.args.self.told _ c.place_ends.ensures, search rules)

pub returns : goal.returns
unfolding own
returns c =
    due_put (accepted_Network c.args.self.listed c.args.self.network.accepted) c.args.self.told c.args.at c.requires.0 _ c.elect_links.ensures c.put_line.ensures
