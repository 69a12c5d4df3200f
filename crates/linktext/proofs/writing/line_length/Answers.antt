-- `line_length` adds up what the line's parts have; each part is short, so nothing wraps.
use Rattle.std.proofs.Common.{arith}
use Rattle.linktext.proofs.TextLaws.{digits_bound, relation_bound}
use Rattle.linktext.proofs.writing.line_length.Goals as goal

pub overflow_add-result : goal.overflow_add-result
overflow_add-result c = (let l = c.args.l in omega (arith, digits_bound 10 l.a, digits_bound 10 l.b, relation_bound l.relation))

pub overflow_add-result-2 : goal.overflow_add-result-2
overflow_add-result-2 c = (let l = c.args.l in omega (arith, digits_bound 10 l.a, digits_bound 10 l.b, relation_bound l.relation))

pub overflow_add-result-3 : goal.overflow_add-result-3
overflow_add-result-3 c = (let l = c.args.l in omega (arith, digits_bound 10 l.a, digits_bound 10 l.b, relation_bound l.relation))
