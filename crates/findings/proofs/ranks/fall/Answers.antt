-- A test of each link, from 0 on.
use Rattle.std.proofs.Common.{◌≡◌, ◌∙◌, ◌<◌, arith, rules, refl, true, get_or}
use Rattle.std.specs.List.{range_with_len}
use Rattle.std.proofs.lemmas.Iterator.{cases_from_all, YieldsList-from_range}
use Rattle.std.proofs.lemmas.List.FromFn.{length-range_with_len, get_or-range_with_len}
use Rattle.findings.specs.Ranks.{falls_at}
use Rattle.findings.proofs.ranks.fall.Goals as goal

pub returns : goal.returns
returns c = λ e i h.
    let n = c.links.result in
    let falls = cases_from_all _ _ c.all.result (λ x. falls_at c.args.survey.now.network.words.now c.args.ranks.now x ≡ true) (λ x. Unit {0}) c.all.ensures.ran
    (YieldsList-from_range 0 n n refl (omega arith)) (λ x q k. search rules) (λ x q k. tt) in
    let all = rw e at falls in
    let below : i < n = omega (arith, c.links.ensures, h) in
    let place : get_or (range_with_len 0 n) i 0 ≡ i = get_or-range_with_len 0 n i 0 below ∙ omega arith in
    rw place at (all i 0 (omega arith) (omega (arith, length-range_with_len 0 n, below)))
