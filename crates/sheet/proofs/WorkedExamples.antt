-- Sheets worked by hand: one test that antt computes over all rows of specs/Worked, and one statement that follows from it.
use mathlib.Core.Path.{◌≡◌, refl}
use mathlib.Core.Bool.{true}
use Rattle.rules.specs.Pairs.{extended_type, extension, same_as, beats_of, kind_from_a, kind_from_b}
use Rattle.rules.specs.Lists.{In, all_of}
use Rattle.rules.specs.Offers.{none, offer, better, choose, heard, elect, best}
use Rattle.rules.specs.Network.{links_of, insert, with_ends, ases_from, a_to_b, b_to_a, arcs_from}
use Rattle.rules.specs.Checks.{is_same_pair, check_from, check_links, check_words}
use Rattle.rules.specs.Stable.{own, lost, due}
use Rattle.rules.specs.Judge.{entries_of, words_of, routing_of, stands, standing_from, is_same_line, best_from, judge}
use Rattle.rules.specs.Worked.{Example, same_numbers, agrees}
use Rattle.rules.proofs.WorkedExamples.{rows_hold}
use Rattle.sheet.specs.Form.{line_bytes, lines_bytes, sheet_of, fault_of_length, fault_of_form, lines_from}
use Rattle.sheet.specs.Entries.{fault_of_table, judge_reply}
use Rattle.sheet.specs.Worked.{sheet_to_40, judged_a, examples}

all_agree : all_of agrees examples ≡ true
unfolding extended_type extension same_as beats_of kind_from_a kind_from_b none offer better choose heard elect best links_of insert with_ends ases_from
    a_to_b b_to_a arcs_from is_same_pair check_from check_links check_words own lost due entries_of words_of routing_of stands standing_from is_same_line best_from
    judge same_numbers agrees line_bytes lines_bytes sheet_of fault_of_length fault_of_form lines_from fault_of_table judge_reply sheet_to_40 judged_a examples
all_agree = refl

pub worked : (e : Example) → In e examples → e.found ≡ e.expected
worked = rows_hold examples all_agree
