-- Reports worked by hand: one test that antt computes over all rows of specs/Worked, and one statement that follows from it.
use mathlib.Core.Path.{◌≡◌, refl}
use mathlib.Core.Bool.{true}
use Rattle.rules.specs.Pairs.{extended_type, extension, same_as, beats_of, kind_from_a, kind_from_b}
use Rattle.rules.specs.Lists.{In, all_of, changed}
use Rattle.rules.specs.Offers.{none, offer, better, choose, heard, elect, best}
use Rattle.rules.specs.Network.{insert, with_ends, ases_from, a_to_b, b_to_a, arcs_from}
use Rattle.rules.specs.Checks.{is_same_pair, check_from, check_links}
use Rattle.rules.specs.Stable.{own, lost}
use Rattle.rules.specs.Findings.{provides, peering, reaches, within, ringed, is_top, are_peers, joined}
use Rattle.rules.specs.Machine.{out_of, send, fresh, elected, receiver, deliver, started, chosen, lowest, further, run_of}
use Rattle.rules.specs.Worked.{Example, same_numbers, agrees}
use Rattle.rules.proofs.WorkedExamples.{rows_hold}
use Rattle.linktext.specs.Lines.{before_bar, after_bar, is_decimal_digit, value_from, is_in_form, numeral_of, relation_of, read_of_line}
use Rattle.linktext.specs.Texts.{lines_of, text_read_from, text_in, digits}
use Rattle.linktext.specs.TextNetworks.{fault_of_network}
use Rattle.report.specs.Report.{first_line, after_first, fault_of_report, refusal_line, line_text, lines_text, report_lines, report_of}
use Rattle.report.specs.Worked.{examples}

all_agree : all_of agrees examples ≡ true
unfolding extended_type extension same_as beats_of kind_from_a kind_from_b changed none offer better choose heard elect best insert with_ends ases_from
    a_to_b b_to_a arcs_from is_same_pair check_from check_links own lost provides peering reaches within ringed is_top are_peers joined out_of send fresh
    elected receiver deliver started chosen lowest further run_of same_numbers agrees before_bar after_bar is_decimal_digit value_from is_in_form numeral_of
    relation_of read_of_line lines_of text_read_from text_in digits fault_of_network first_line after_first fault_of_report refusal_line line_text lines_text
    report_lines report_of examples
all_agree = refl

pub worked : (e : Example) → In e examples → e.found ≡ e.expected
worked = rows_hold examples all_agree
