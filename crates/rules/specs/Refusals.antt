-- Refusals: the number and the place of each.
--
--   refusal_number r   1 to 13
--   refusal_place r    link index, line, byte, choice index, or else 0, and 1 for the working room
use Rattle.std.specs.Prelude.{ℕ}
use Rattle.rules.specs.declared.Refusal.{Refusal}
use Rattle.rules.specs.declared.Refusal.TheVariants.{OverLimit, ZeroAs, NoRelation, EqualEnds, PairAgain, TooManyAses, NoDestination, OutputShort, RoomShort, Unreadable, BrokenForm, CannotStand, NotBest, NoDirection}

abbrev pub refusal_number : Refusal → ℕ
refusal_number OverLimit = 1
refusal_number (ZeroAs link) = 2
refusal_number (NoRelation link) = 3
refusal_number (EqualEnds link) = 4
refusal_number (PairAgain link) = 5
refusal_number (TooManyAses link) = 6
refusal_number NoDestination = 7
refusal_number OutputShort = 8
refusal_number RoomShort = 8
refusal_number (Unreadable line) = 9
refusal_number (BrokenForm byte) = 10
refusal_number (CannotStand line) = 11
refusal_number (NotBest line) = 12
refusal_number (NoDirection choice) = 13

abbrev pub refusal_place : Refusal → ℕ
refusal_place OverLimit = 0
refusal_place (ZeroAs link) = link
refusal_place (NoRelation link) = link
refusal_place (EqualEnds link) = link
refusal_place (PairAgain link) = link
refusal_place (TooManyAses link) = link
refusal_place NoDestination = 0
refusal_place OutputShort = 0
refusal_place RoomShort = 1
refusal_place (Unreadable line) = line
refusal_place (BrokenForm byte) = byte
refusal_place (CannotStand line) = line
refusal_place (NotBest line) = line
refusal_place (NoDirection choice) = choice
