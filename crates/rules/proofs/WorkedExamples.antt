-- The worked examples: one test that antt computes over all rows of specs/Worked, and one statement that follows from it.
use mathlib.Core.Path.{◌≡◌, refl}
use mathlib.Core.Bool.{true}
use mathlib.Core.List.{List, [], ◌∷◌}
use Prim.Native.Nat.{ℕ}
use lib.Dec.{eqb}
use borrow.Author.Tests.{eqb-true}
use Rattle.rules.specs.Pairs.{extended_type, extension, same_as, beats_of, kind_from_a, kind_from_b}
use Rattle.rules.specs.Lists.{In, all_of, changed}
use Rattle.rules.specs.Offers.{none, offer, better, choose, heard, elect, best}
use Rattle.rules.specs.Network.{links_of, insert, with_ends, ases_from, a_to_b, b_to_a, arcs_from}
use Rattle.rules.specs.Stable.{own, lost, due, table_of}
use Rattle.rules.specs.Solve.{gains, first_gain, sum_over, unknown, shorten, extend, settle, leaving, between, start, up, across, down, typed, marks, stable_of}
use Rattle.rules.specs.Judge.{entries_of, routing_of, stands, standing_from, is_same_line, best_from, judge}
use Rattle.rules.specs.Findings.{provides, peering, reaches, within, ringed, is_top, are_peers, joined}
use Rattle.rules.specs.Machine.{out_of, send, fresh, elected, receiver, deliver, started, chosen, lowest, further, run_of}
use Rattle.rules.specs.Worked.{Example, network_a, two_peerings, ring_of_three, ring_aside, table_to, findings, run_to, judged_to, examples, same_numbers, agrees}
use Rattle.rules.proofs.Tests.{and_left, and_right}
use Rattle.rules.proofs.ListLaws.{all_of_each}

all_agree : all_of agrees examples ≡ true
unfolding extended_type extension same_as beats_of kind_from_a kind_from_b changed none offer better choose heard elect best links_of insert with_ends
    ases_from a_to_b b_to_a arcs_from own lost due table_of gains first_gain sum_over unknown shorten extend settle leaving between start up across
    down typed marks stable_of entries_of routing_of stands standing_from is_same_line best_from judge provides peering reaches within ringed is_top
    are_peers joined out_of send fresh elected receiver deliver started chosen lowest further run_of network_a two_peerings ring_of_three ring_aside table_to
    findings run_to judged_to examples same_numbers agrees
all_agree = refl

numbers_same : (k l : List ℕ) → same_numbers k l ≡ true → k ≡ l
unfolding same_numbers
numbers_same [] [] e = refl
numbers_same [] (y ∷ l) e = cc
numbers_same (x ∷ k) [] e = cc
numbers_same (x ∷ k) (y ∷ l) e =
    let p = eqb-true x y (and_left (eqb x y) (same_numbers k l) e) in
    let q = numbers_same k l (and_right (eqb x y) (same_numbers k l) e) in
    cc

-- one test over rows gives the statement for each row
pub rows_hold : (es : List Example) → all_of agrees es ≡ true → (e : Example) → In e es → e.found ≡ e.expected
unfolding agrees
rows_hold es t e m = numbers_same e.found e.expected (all_of_each agrees es t e m)

-- every row holds
pub worked : (e : Example) → In e examples → e.found ≡ e.expected
worked = rows_hold examples all_agree
