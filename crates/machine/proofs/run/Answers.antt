-- The limits and the check of the links are the first tests of the verdict; then the ASes stand in the list, so that the search says whether
-- the destination is one of them, and where. The rest is what the order answers.
use Rattle.std.proofs.Common.{◌≡◌, Err, refl, rules, arith}
use Rattle.machine.proofs.AnswerLaws.{many_choices, many_deliveries, bad_links, good_links, may_look, may_search, no_destination, located, at_destination}
use Rattle.machine.proofs.run.Goals as goal
use Rattle.machine.proofs.run.Goals.{then-choices-gt-MOST_CHOICES-via-then-choices-gt-MOST_CHOICES, then-choices-gt-MOST_CHOICES-via-else-choices-gt-MOST_CHOICES+then-further-gt-MOST_DELIVERIES}

pub returns-then-choices-gt-MOST_CHOICES : goal.returns-then-choices-gt-MOST_CHOICES
returns-then-choices-gt-MOST_CHOICES c =
    elim c.then-choices-gt-MOST_CHOICES.branch [
      | then-choices-gt-MOST_CHOICES-via-then-choices-gt-MOST_CHOICES w ↦ many_choices _ _ _ _ _ _ w.if-choices-gt-MOST_CHOICES.true
      | then-choices-gt-MOST_CHOICES-via-else-choices-gt-MOST_CHOICES+then-further-gt-MOST_DELIVERIES w ↦
          many_deliveries _ _ _ _ _ _ w.if-choices-gt-MOST_CHOICES.false w.if-further-gt-MOST_DELIVERIES.true
    ]

pub returns-in_err-net : goal.returns-in_err-net
returns-in_err-net c =
    bad_links _ _ _ _ _ _ c.if-choices-gt-MOST_CHOICES.false c.if-further-gt-MOST_DELIVERIES.false refl c.in_err-net.ensures (search rules)

pub list_ases-n-requires : goal.list_ases-n-requires
list_ases-n-requires c =
    let looking = may_look c.if-choices-gt-MOST_CHOICES.false c.if-further-gt-MOST_DELIVERIES.false c.in_ok-net.net.accepted in
    omega (arith, looking.few_ases)

pub place_of-requires : goal.place_of-requires
place_of-requires c =
    let looking = may_look c.if-choices-gt-MOST_CHOICES.false c.if-further-gt-MOST_DELIVERIES.false c.in_ok-net.net.accepted in
    may_search looking (search rules) c.list_ases-n.ensures

pub returns-in_err-place : goal.returns-in_err-place
returns-in_err-place c =
    let same : c.in_ok-net.net.words.now ≡ c.args.words.now = c.in_ok-net.ensures in
    let accepted = rw same at c.in_ok-net.net.accepted in
    let looking = may_look c.if-choices-gt-MOST_CHOICES.false c.if-further-gt-MOST_DELIVERIES.false c.in_ok-net.net.accepted in
    let none = c.in_err-place.ensures.ok_part in
    let out : c.from_residual-in_err-place.result ≡ Err c.in_err-place.field-0.0 = search rules in
    let answer = no_destination looking (search rules) c.list_ases-n.ensures _ _ c.place_of.ensures none (rw none at c.in_err-place.ensures.value)
    c.args.table.now c.args.room.now out in
    good_links _ _ _ _ _ _ c.if-choices-gt-MOST_CHOICES.false c.if-further-gt-MOST_DELIVERIES.false refl accepted (rw same at answer)

pub invariant_of-order : goal.invariant_of-order
invariant_of-order c =
    let looking = may_look c.if-choices-gt-MOST_CHOICES.false c.if-further-gt-MOST_DELIVERIES.false c.in_ok-net.net.accepted in
    record { located = located looking (search rules) c.list_ases-n.ensures _ _ c.place_of.ensures c.in_ok-place.ensures.ok_part }

pub returns : goal.returns
returns c =
    let same : c.in_ok-net.net.words.now ≡ c.args.words.now = c.in_ok-net.ensures in
    let accepted = rw same at c.in_ok-net.net.accepted in
    let looking = may_look c.if-choices-gt-MOST_CHOICES.false c.if-further-gt-MOST_DELIVERIES.false c.in_ok-net.net.accepted in
    let answer = at_destination looking (search rules) c.list_ases-n.ensures _ _ c.place_of.ensures c.in_ok-place.ensures.ok_part _ _ c.answer.ensures in
    good_links _ _ _ _ _ _ c.if-choices-gt-MOST_CHOICES.false c.if-further-gt-MOST_DELIVERIES.false refl accepted (rw same at answer)
