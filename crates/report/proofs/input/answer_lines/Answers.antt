-- `answer_lines`: the first line ends where the search for an LF stops; its number and the text behind it decide.
use Rattle.std.proofs.Common.{◌≡◌, sym, arith, length-take-le}
use Rattle.linktext.proofs.PlaceLaws.{place_le}
use Rattle.linktext.specs.Fields.{place_of}
use Rattle.linktext.specs.Lines.{lf}
use Rattle.report.proofs.InputLaws.{refuses, no_number, a_number}
use Rattle.report.proofs.input.answer_lines.Goals as goal

pub slice_bounds-read_number-end : goal.slice_bounds-read_number-end
slice_bounds-read_number-end c =
    let t = c.args.input.now in
    sym (length-take-le c.find-end.result t (omega (arith, place_le lf t)))

pub returns-in_default : goal.returns-in_default
returns-in_default c =
    let A = c.args in
    let f = c.find-end in
    let here : f.result ≡ place_of lf A.input.now = omega arith in
    refuses (no_number A.input.now here c.read_number.ensures (_, c.in_default.is))

pub returns : goal.returns
returns c =
    let A = c.args in
    let f = c.find-end in
    let here : f.result ≡ place_of lf A.input.now = omega arith in
    a_number A.input.now here c.read_number.ensures c.in-Ok.is c.text_from-start.ensures c.answer_text.ensures
