-- What the program prints for its standard input.
--
--   first_line t, after_first t  the destination's line, and the link text behind it
--   fault_of_report limits t    why the input is refused: 1; 9 for the destination; the text's lines; 2 to 6; 7
--   refusal_line r              `refused`, number, place
--   report_lines                destination, two findings, lines, `quiet` or `stopped` with deliveries made
--   report_of limits t          all that is printed
use Rattle.rules.specs.Replies.{Verdict}
use Rattle.std.specs.Prelude.{ℕ, Bool, true, false, cond, List, [], ◌∷◌, ◌++◌, leb, eqb, length, Err, Ok, Result}
use Rattle.rules.specs.declared.Limits.{Limits}
use Rattle.rules.specs.declared.Link.{Link}
use Rattle.rules.specs.declared.Refusal.{Refusal}
use Rattle.rules.specs.declared.Refusal.TheVariants.{OverLimit, Unreadable}
use Rattle.rules.specs.Refusals.{refusal_number, refusal_place}
use Rattle.rules.specs.Network.{ases_of, arcs_of}
use Rattle.rules.specs.Entry.{and_then, unless, fault_of_destination}
use Rattle.rules.specs.Findings.{ringed, joined}
use Rattle.rules.specs.Stable.{Line, Routing}
use Rattle.rules.specs.Machine.{Run, run_of, lowest, is_quiet}
use Rattle.linktext.specs.declared.NumeralFault.{NumeralFault}
use Rattle.linktext.specs.declared.NumeralFault.TheVariants.{NoForm, OverLarge}
use Rattle.linktext.specs.Lines.{lf, numeral_of}
use Rattle.linktext.specs.Texts.{decimal}
use Rattle.linktext.specs.TextNetworks.{links_of_text, fault_of_network}

-- 'first line the destination .. the rest link text, its lines counted from 1 again'
unfoldable pub first_line : List ℕ → List ℕ
first_line [] = []
first_line (c ∷ t) = cond (eqb c lf) [] (c ∷ first_line t)

unfoldable pub after_first : List ℕ → List ℕ
after_first [] = []
after_first (c ∷ t) = cond (eqb c lf) t (after_first t)

-- 'a number as above, else refusal 9, place 0, ahead of the rest; so too for empty input'
abbrev pub fault_of_number : Result ℕ NumeralFault → Verdict
fault_of_number (Ok d) = Ok tt
fault_of_number (Err NoForm) = Err (Unreadable 0)
fault_of_number (Err OverLarge) = Err (Unreadable 0)

abbrev pub value_of : Result ℕ NumeralFault → ℕ
value_of (Ok d) = d
value_of (Err NoForm) = 0
value_of (Err OverLarge) = 0

abbrev pub destination_in : List ℕ → ℕ
destination_in t = value_of (numeral_of (first_line t))

abbrev pub links_behind : Limits → List ℕ → List Link
links_behind limits t = links_of_text limits (after_first t)

-- 'at most 65,536 bytes in all (else refusal 1, before anything else)'
unfoldable pub fault_of_report : Limits → List ℕ → Verdict
fault_of_report limits t =
    and_then (unless (leb (length t) limits.text) OverLimit)
    (and_then (fault_of_number (numeral_of (first_line t)))
    (and_then (fault_of_network limits (after_first t)) (fault_of_destination (destination_in t) (ases_of (links_behind limits t)))))

-- the words of the report
abbrev pub sp : ℕ
sp = 32

abbrev pub word_refused : List ℕ
word_refused = 114 ∷ 101 ∷ 102 ∷ 117 ∷ 115 ∷ 101 ∷ 100 ∷ []

abbrev pub word_destination : List ℕ
word_destination = 100 ∷ 101 ∷ 115 ∷ 116 ∷ 105 ∷ 110 ∷ 97 ∷ 116 ∷ 105 ∷ 111 ∷ 110 ∷ []

abbrev pub word_ring : List ℕ
word_ring = 99 ∷ 117 ∷ 115 ∷ 116 ∷ 111 ∷ 109 ∷ 101 ∷ 114 ∷ 45 ∷ 114 ∷ 105 ∷ 110 ∷ 103 ∷ []

abbrev pub word_joined : List ℕ
word_joined = 106 ∷ 111 ∷ 105 ∷ 110 ∷ 101 ∷ 100 ∷ []

abbrev pub yes_no : Bool → List ℕ
yes_no true = 121 ∷ 101 ∷ 115 ∷ []
yes_no false = 110 ∷ 111 ∷ []

abbrev pub quiet_or : Bool → List ℕ
quiet_or true = 113 ∷ 117 ∷ 105 ∷ 101 ∷ 116 ∷ []
quiet_or false = 115 ∷ 116 ∷ 111 ∷ 112 ∷ 112 ∷ 101 ∷ 100 ∷ []

-- two words and LF
abbrev pub spaced : List ℕ → List ℕ → List ℕ
spaced x y = x ++ (sp ∷ (y ++ (lf ∷ [])))

-- 'A refusal prints one line only: `refused`, number, place, with one space between'
unfoldable pub refusal_line : Refusal → List ℕ
refusal_line r = word_refused ++ (sp ∷ spaced (decimal (refusal_number r)) (decimal (refusal_place r)))

-- 'AS, type, length, next hop'
unfoldable pub line_text : ℕ → Line → List ℕ
line_text u l =
    decimal u ++ (sp ∷ (decimal l.pair.typ ++ (sp ∷ spaced (decimal l.pair.length) (decimal l.next))))

unfoldable pub lines_text : Routing → List ℕ → List ℕ
lines_text R [] = []
lines_text R (u ∷ us) = line_text u (R u) ++ lines_text R us

-- 'destination; two findings; AS, type, length, next hop; `quiet` or `stopped` with deliveries made'
unfoldable pub report_lines : List Link → ℕ → Run → List ℕ
report_lines ls d r =
    spaced word_destination (decimal d)
    ++ (spaced word_ring (yes_no (ringed ls))
    ++ (spaced word_joined (yes_no (joined ls))
    ++ (lines_text r.state.lines (ases_of ls)
    ++ spaced (quiet_or (is_quiet (lowest (arcs_of ls) r.state.waiting))) (decimal r.made))))

-- 'It runs the machine with no choices and 65,536 deliveries'
abbrev pub printed : Limits → List ℕ → Verdict → List ℕ
printed limits t (Ok tt) =
    report_lines (links_behind limits t) (destination_in t) (run_of (arcs_of (links_behind limits t)) (destination_in t) [] 65536)
printed limits t (Err r) = refusal_line r

unfoldable pub report_of : Limits → List ℕ → List ℕ
report_of limits t = printed limits t (fault_of_report limits t)
