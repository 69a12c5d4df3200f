-- What the printing functions ask and write.
--
--   two_text x y end   two numbers with a space between, and a byte behind them
--   entries_text t i k  the lines of k entries of the table t, from entry i on
--   told_text x t      the report on what is told, with the lines of the table t
--   Printed text old new r   the bytes `new` are the text and behind it those of `old`, and r is the text's length
use Rattle.std.specs.Prelude.{ℕ, zero, suc, ◌+◌, ◌≤◌, ◌≡◌, List, [], ◌∷◌, ◌++◌, length, drop}
use Rattle.linktext.specs.Texts.{decimal}
use Rattle.offers.specs.Lines.{number_word, entry_line}
use Rattle.report.specs.declared.Told.{Told}
use Rattle.report.specs.Report.{sp, word_destination, word_ring, word_joined, yes_no, quiet_or, spaced, line_text}

pub record Printed (text old new : List ℕ) (r : ℕ) : Type 0 where
  pub bytes : new ≡ text ++ drop (length text) old
  pub count : r ≡ length text
  pub fits : r ≤ length new

abbrev pub two_text : ℕ → ℕ → ℕ → List ℕ
two_text x y end = decimal x ++ (sp ∷ (decimal y ++ (end ∷ [])))

unfoldable pub entries_text : List ℕ → ℕ → ℕ → List ℕ
entries_text t i zero = []
entries_text t i (suc k) = line_text (number_word t i) (entry_line t i) ++ entries_text t (suc i) k

unfoldable pub head_text : Told → List ℕ
head_text x =
    spaced word_destination (decimal x.end.destination)
    ++ (spaced word_ring (yes_no x.found.ring) ++ spaced word_joined (yes_no x.found.joined))

unfoldable pub told_text : Told → List ℕ → List ℕ
told_text x t = head_text x ++ (entries_text t 0 x.end.count ++ spaced (quiet_or x.end.quiet) (decimal x.end.made))
