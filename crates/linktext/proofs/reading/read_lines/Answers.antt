use Rattle.std.proofs.Common.{arith, rules, ◌≡◌}
use Rattle.linktext.specs.declared.LineRead.TheVariants.{Skip}
use Rattle.linktext.proofs.TurnLaws.{Turn, begins, line_end, no_skip, no_link, stops_bad, stops_over, skips, takes}
use Rattle.linktext.proofs.reading.read_lines.Goals as goal
use Rattle.linktext.proofs.reading.read_lines.Goals.{After-line_at-given, then-ne+in-Reads+else-most-n, else-ne}

at-line : (c : After-line_at-given)
    → Turn c.args.text.now c.args.words.now c.args.most c.loop-at.at c.loop-at.line c.loop-at.n c.loop-at.words c.line_at-given.result.end c.line_at-given.result.read
at-line c = record { held = c.loop-at.invariant; more = c.loop-at-test.true; given = c.line_at-given.ensures }

pub loop-at-init : goal.loop-at-init
loop-at-init c = begins _ _ _ c.requires

pub returns-in_default : goal.returns-in_default
returns-in_default c =
    let turn = at-line (goal.at.returns-in_default c).After-line_at-given in
    let not_skip : (c.line_at-given.result.read ≡ Skip → ⊥) = search rules in
    stops_bad turn (no_skip _ not_skip) (no_link _ c.in_default.not-Reads)

pub returns-then-most-n : goal.returns-then-most-n
returns-then-most-n c = stops_over (at-line (goal.at.returns-then-most-n c).After-line_at-given) c.in-Reads.is c.if-most-n.true

pub overflow_add-at : goal.overflow_add-at
overflow_add-at c = omega (arith, line_end (at-line (goal.at.overflow_add-at c).After-line_at-given))

pub loop-at-preserved : goal.loop-at-preserved
loop-at-preserved c =
    let turn = at-line (goal.at.loop-at-preserved c).After-line_at-given in
    elim c.if-ne.branch [
      | then-ne+in-Reads+else-most-n w ↦ rw (w.words-is, w.n-is, w.put_link.ensures) (takes turn w.in-Reads.is w.if-most-n.false)
      | else-ne w ↦
          let is_skip : (c.line_at-given.result.read ≡ Skip) = search rules in
          rw (w.words-is, w.n-is) (skips turn is_skip)
    ]
