-- `put_lines`: the lines up to the shorter count, and then the counts, are the whole check (`lines_judged`).
use Rattle.std.proofs.Common.{rules, min, ◌≡◌, sym, ◌∙◌, ap, length, eq-eqb, ne_eqb}
use Rattle.judge.proofs.StandLaws.{lines_judged}
use Rattle.rules.proofs.VerdictLaws.{stopped}
use Rattle.sheet.specs.Form.{count_of_lines}
use Rattle.judge.proofs.lines.put_lines.Goals as goal

pub returns-in_err-lines_fault-clause-reply : goal.returns-in_err-lines_fault-clause-reply
returns-in_err-lines_fault-clause-reply c =
    let A = c.args in
    let passed_on : c.from_residual.result ≡ c.lines_fault.result = search rules in
    passed_on
    ∙ stopped _ _ _ (c.in_err-lines_fault.was)
    ∙ lines_judged 511 A.ases.now A.sheet.now _ A.told.now (c.min-k.ensures ∙ ap (min _) c.line_count-count.ensures) c.read_lines.ensures c.lines_fault.ensures

pub returns-then-count-ases-clause-reply : goal.returns-then-count-ases-clause-reply
returns-then-count-ases-clause-reply c =
    let A = c.args in
    let whole = lines_judged 511 A.ases.now A.sheet.now _ A.told.now (c.min-k.ensures ∙ ap (min _) c.line_count-count.ensures) c.read_lines.ensures c.lines_fault.ensures in
    let same = eq-eqb _ _ (sym c.line_count-count.ensures ∙ c.if-count-ases.true) in
    rw (c.in_ok-lines_fault.was, same) at whole

pub returns-else-count-ases-clause-reply : goal.returns-else-count-ases-clause-reply
returns-else-count-ases-clause-reply c =
    let A = c.args in
    let whole = lines_judged 511 A.ases.now A.sheet.now _ A.told.now (c.min-k.ensures ∙ ap (min _) c.line_count-count.ensures) c.read_lines.ensures c.lines_fault.ensures in
    let apart = ne_eqb _ _ (λ (q : count_of_lines A.sheet.now ≡ length A.ases.now). c.if-count-ases.false (c.line_count-count.ensures ∙ q)) in
    rw (c.in_ok-lines_fault.was, apart) at whole
