-- `judge_lines`: the place of the destination, the lines that stand, and the offers to them are 7, 11 and 12 in order (`lines_in_order`).
use Rattle.std.specs.Prelude.{Ok, Err, Some, None}
use Rattle.std.proofs.Common.{rules, ◌≡◌, refl, sym, ◌∙◌, arith, length-take}
use Rattle.judge.proofs.DueLaws.{offers_told}
use Rattle.judge.proofs.NetworkLaws.{few_named, accepted_Network, distinct}
use Rattle.judge.proofs.OrderLaws.{lines_in_order}
use Rattle.judge.proofs.StandLaws.{standing-Told, all_read, formed_whole}
use Rattle.rules.proofs.VerdictLaws.{stopped}
use Rattle.rules.specs.declared.Refusal.TheVariants.{NoDestination}
use Rattle.rules.specs.Network.{links_of}
use Rattle.sheet.proofs.StandingLaws.{destination_there, destination_none}
use Rattle.sheet.specs.Form.{destination_of, lines_of}
use Rattle.judge.proofs.lines.judge_lines.Goals as goal

pub destination-requires : goal.destination-requires
destination-requires c = omega (arith, formed_whole _ c.requires.1)

pub returns-in_err-at : goal.returns-in_err-at
returns-in_err-at c =
    let A = c.args in
    let none : c.place_of-place.result ≡ None = search rules in
    let passed_on : c.from_residual.result ≡ Err NoDestination = search rules in
    let unnamed = destination_none (destination_of A.sheet.now) A.ases.now _ (rw c.destination.ensures at c.place_of-place.ensures) none in
    passed_on ∙ lines_in_order 511 _ A.ases.now A.sheet.now (Err NoDestination) _ _ c.requires.0 (sym unnamed) refl refl

pub returns-in_err-put_lines : goal.returns-in_err-put_lines
returns-in_err-put_lines c =
    let A = c.args in
    let some : c.place_of-place.result ≡ Some c.in_ok-at.at = search rules in
    let passed_on : c.from_residual-in_err-put_lines.result ≡ c.put_lines.result = search rules in
    let named = destination_there (destination_of A.sheet.now) A.ases.now _ (rw c.destination.ensures at c.place_of-place.ensures) _ some in
    passed_on
    ∙ stopped _ _ _ (c.in_err-put_lines.was)
    ∙ lines_in_order 511 _ A.ases.now A.sheet.now (Ok tt) _ _ c.requires.0 (sym named.0) c.put_lines.ensures.reply refl

pub slice_bounds-told-end : goal.slice_bounds-told-end
slice_bounds-told-end c = omega (arith, few_named _ _ _ c.requires.0 c.args.network.accepted)

pub slice_bounds-printed-end : goal.slice_bounds-printed-end
slice_bounds-printed-end c = simp length-take (omega (arith, few_named _ _ _ c.requires.0 c.args.network.accepted))

pub invariant_of-printed : goal.invariant_of-printed
invariant_of-printed c =
    let A = c.args in
    let stand = sym c.put_lines.ensures.reply ∙ c.in_ok-put_lines.was in
    let printed = all_read 511 A.ases.now A.sheet.now _ stand c.put_lines.ensures.lines in
    record {
      listed = c.requires.0;
      told = rw printed (standing-Told 511 (omega arith) A.ases.now (distinct (accepted_Network c.requires.0 A.network.accepted)) (lines_of A.sheet.now) stand);
    }

pub returns : goal.returns
returns c =
    let A = c.args in
    let some : c.place_of-place.result ≡ Some c.in_ok-at.at = search rules in
    let named = destination_there (destination_of A.sheet.now) A.ases.now _ (rw c.destination.ensures at c.place_of-place.ensures) _ some in
    let stand = sym c.put_lines.ensures.reply ∙ c.in_ok-put_lines.was in
    let printed = all_read 511 A.ases.now A.sheet.now _ stand c.put_lines.ensures.lines in
    let best = offers_told (links_of A.network.words.now) (lines_of A.sheet.now) c.judge.ensures named.2 printed in
    lines_in_order 511 _ A.ases.now A.sheet.now (Ok tt) (Ok tt) _ c.requires.0 (sym named.0) (sym stand) best
