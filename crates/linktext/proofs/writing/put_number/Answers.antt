use Rattle.std.proofs.Common.{◌≡◌, ◌+◌, ◌-◌, ◌∙◌, refl, arith}
use Rattle.linktext.proofs.DigitLaws.{all_last_digits}
use Rattle.linktext.proofs.StoreLaws.{digit_first}
use Rattle.linktext.proofs.writing.put_number.Goals as goal

pub loop-place-init : goal.loop-place-init
loop-place-init c =
    let long : c.args.at + c.digit_count.result - c.args.at ≡ c.digit_count.result = omega arith in
    (omega arith, rw (long, c.digit_count.ensures, all_last_digits) refl)

pub loop-place-preserved : goal.loop-place-preserved
loop-place-preserved c =
    let l = c.loop-place in
    (omega arith, digit_first l.bytes c.args.at l.place l.left (omega arith) ∙ l.invariant.1)
