-- Lines and texts with what they give: a row for each, on the definitions.
--
--   bytes s            the bytes of a written text, one for each character
--   samples            the rows
use Rattle.std.specs.Prelude.{List, [], ◌∷◌, ℕ, Ok, Err}
use Prim.Native.Char.{code}
use Prim.Native.String.{String}
use Prim.Native.String as string
use Rattle.rules.specs.declared.Link.{Link}
use Rattle.rules.specs.declared.Limits.{Limits}
use Rattle.rules.specs.declared.Refusal.TheVariants.{OverLimit, Unreadable}
use Rattle.rules.specs.Refusals.{refusal_number, refusal_place}
use Rattle.rules.specs.Network.{flat}
use Rattle.rules.specs.Checks.{base_limits}
use Rattle.rules.specs.Worked.{Example, row}
use Rattle.linktext.specs.declared.Reason.{Reason}
use Rattle.linktext.specs.declared.Reason.TheVariants.{Empty, NoNumber, TooLarge, NoRelation, FurtherBar}
use Rattle.linktext.specs.declared.LineRead.{LineRead}
use Rattle.linktext.specs.declared.LineRead.TheVariants.{Skip, Reads, Faulty}
use Rattle.linktext.specs.Lines.{read_of_line}
use Rattle.linktext.specs.Texts.{TextRead, text_in}

unfoldable pub bytes : String → List ℕ
bytes string.[] = []
bytes (string.◌∷◌ c s) = code c ∷ bytes s

-- a line's reason: its place among the reasons, and the byte
abbrev pub reason_said : Reason → List ℕ
reason_said Empty = 1 ∷ []
reason_said (NoNumber at) = 2 ∷ at ∷ []
reason_said (TooLarge at) = 3 ∷ at ∷ []
reason_said (NoRelation at) = 4 ∷ at ∷ []
reason_said (FurtherBar at) = 5 ∷ at ∷ []

abbrev pub line_said : LineRead → List ℕ
line_said Skip = 0 ∷ []
line_said (Reads l) = 1 ∷ l.a ∷ l.b ∷ l.relation ∷ []
line_said (Faulty why) = 2 ∷ reason_said why

-- the link words, or number and place of the refusal
abbrev pub text_said : TextRead → List ℕ
text_said (Ok ls) = 0 ∷ flat ls
text_said (Err r) = refusal_number r ∷ refusal_place r ∷ []

abbrev pub line : String → LineRead → Example
line t gives = row (line_said (read_of_line (bytes t))) (line_said gives)

abbrev pub text : Limits → String → TextRead → Example
text limits t gives = row (text_said (text_in limits (bytes t))) (text_said gives)

abbrev pub link : ℕ → ℕ → ℕ → Link
link a b r = record { a = a; b = b; relation = r }

-- one link, and texts of 14 bytes
abbrev pub small : Limits
small = record { links = 1; ases = 2; text = 14; sheet = 32 }

unfoldable pub samples : List Example
samples =
    -- 'text of one LF (9, line 1); empty text'
    text base_limits "\n" (Err (Unreadable 1))
    ∷ text base_limits "" (Ok [])
    -- 'AS 4,294,967,295 and 4,294,967,296'; 0 is a number
    ∷ line "4294967295|1|0" (Reads (link 4294967295 1 0))
    ∷ line "1|4294967295|0" (Reads (link 1 4294967295 0))
    ∷ line "4294967296|1|0" (Faulty (TooLarge 1))
    ∷ line "1|4294967296|0" (Faulty (TooLarge 3))
    ∷ line "0|0|0" (Reads (link 0 0 0))
    -- 'no leading zero except the number 0 itself', however large
    ∷ line "01|2|0" (Faulty (NoNumber 1))
    ∷ line "04294967296|2|0" (Faulty (NoNumber 1))
    -- 'Outside comments CR, spaces and signs other than in `-1` are refused'
    ∷ line "1|2|0\r" (Faulty (NoRelation 5))
    ∷ line " 1|2|0" (Faulty (NoNumber 1))
    ∷ line "+1|2|0" (Faulty (NoNumber 1))
    ∷ line "-1|2|0" (Faulty (NoNumber 1))
    ∷ line "1|2|-2" (Faulty (NoRelation 5))
    ∷ line "1|2|-1" (Reads (link 1 2 1))
    -- a field that is missing or empty, one that is too many: the leftmost fault counts
    ∷ line "1" (Faulty (NoNumber 2))
    ∷ line "1|" (Faulty (NoNumber 3))
    ∷ line "1||0" (Faulty (NoNumber 3))
    ∷ line "1|2" (Faulty (NoRelation 4))
    ∷ line "1|2|" (Faulty (NoRelation 5))
    ∷ line "1|2|0|" (Faulty (FurtherBar 6))
    ∷ line "1|2|0|x|y" (Faulty (FurtherBar 6))
    ∷ line "1|2|x|" (Faulty (NoRelation 5))
    ∷ line "" (Faulty Empty)
    -- 'A line starting with `#` is skipped', with any bytes; ` #` is no comment
    ∷ line "#\0\r |ÿ" Skip
    ∷ line " #x" (Faulty (NoNumber 1))
    -- 'Lines end in LF; the last LF may be missing'; a comment ends no text
    ∷ text base_limits "#\n1|2|0\n#x\n2|3|-1" (Ok (link 1 2 0 ∷ link 2 3 1 ∷ []))
    ∷ text base_limits "1|2|0\n" (Ok (link 1 2 0 ∷ []))
    ∷ text base_limits "1|2|0\n#" (Ok (link 1 2 0 ∷ []))
    ∷ text base_limits "1|2|0\n\n" (Err (Unreadable 2))
    -- '9 at the first bad line or 1 at the 1,537th readable link line', here the second; 'byte limit' first
    ∷ text small "1|2|0\n#\n1|3|0" (Err OverLimit)
    ∷ text small "1|2|0\n1|3|0\nx" (Err OverLimit)
    ∷ text small "1|2|0\nx\n1|3|0" (Err (Unreadable 2))
    ∷ text small "x\n############x" (Err OverLimit)
    ∷ []
