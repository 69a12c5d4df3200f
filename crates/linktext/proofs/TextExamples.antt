-- Lines and texts with what they give: one test that antt computes over all rows of specs/Samples, and one statement that follows
-- from it.
use mathlib.Core.Path.{◌≡◌, refl}
use mathlib.Core.Bool.{true}
use Rattle.rules.specs.Lists.{In, all_of}
use Rattle.rules.specs.Network.{flat}
use Rattle.rules.specs.Worked.{Example, same_numbers, agrees}
use Rattle.rules.proofs.WorkedExamples.{rows_hold}
use Rattle.linktext.specs.Lines.{before_bar, after_bar, is_decimal_digit, value_from, is_in_form, numeral_of, relation_of, read_of_line}
use Rattle.linktext.specs.Texts.{lines_of, text_read_from, text_in}
use Rattle.linktext.specs.Samples.{bytes, samples}

all_agree : all_of agrees samples ≡ true
unfolding before_bar after_bar is_decimal_digit value_from is_in_form numeral_of relation_of read_of_line lines_of text_read_from text_in flat bytes samples same_numbers agrees
all_agree = refl

-- every row of the samples holds
pub sampled : (e : Example) → In e samples → e.found ≡ e.expected
sampled = rows_hold samples all_agree
