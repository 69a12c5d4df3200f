-- `table::due::Best::agrees` meets its contract: a test of each place from 0 on.
use Rattle.std.proofs.Common.{◌≡◌, ◌∙◌, arith, rules, refl, get_or}
use Rattle.std.specs.List.{range_with_len}
use Rattle.std.proofs.lemmas.Iterator.{cases_from_all, YieldsList-from_range}
use Rattle.std.proofs.lemmas.List.FromFn.{length-range_with_len, get_or-range_with_len}
use Rattle.table.specs.Steps.{IsDue}
use Rattle.table.proofs.due.Best.agrees.Goals as goal

pub returns : goal.returns
returns c = λ e i h.
    let due = cases_from_all _ _ c.all.result (λ x. IsDue c.args.self.destination c.args.table.now c.args.self.offers.now x) (λ x. Unit {0}) c.all.ensures.ran
    (YieldsList-from_range 0 c.args.n c.args.n refl (omega arith)) (λ x q k. search rules) (λ x q k. tt) in
    let all = rw e at due in
    let place : get_or (range_with_len 0 c.args.n) i 0 ≡ i = get_or-range_with_len 0 c.args.n i 0 h ∙ omega arith in
    rw place at (all i 0 (omega arith) (omega (arith, length-range_with_len 0 c.args.n)))
