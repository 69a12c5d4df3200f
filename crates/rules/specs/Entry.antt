-- What the entries share: refusals in order, and lent memory afterwards.
--
--   and_then v w        the first refusal of two, in order
--   unless test r      refusal r where the test fails
--   fault_of_links limits ws  1 to 6 of link words
--   fault_of_destination d us  7: d is none of the ASes us
--   fault_of_output need have, fault_of_room need have  8, place 0 and place 1
--   cleared v room     the lent room afterwards; filled v out old   lent output afterwards
use Rattle.rules.specs.Replies.{Verdict}
use Rattle.std.specs.Prelude.{ℕ, Bool, cond, List, ◌++◌, leb, eqb, length, drop, replicate, Err, Ok, Result}
use Rattle.rules.specs.declared.Limits.{Limits}
use Rattle.rules.specs.declared.Refusal.{Refusal}
use Rattle.rules.specs.declared.Refusal.TheVariants.{NoDestination, OutputShort, RoomShort}
use Rattle.rules.specs.Lists.{any_of}
use Rattle.rules.specs.Checks.{check_words}

abbrev pub and_then : Verdict → Verdict → Verdict
and_then (Ok tt) w = w
and_then (Err r) w = Err r

abbrev pub unless : Bool → Refusal → Verdict
unless test r = cond test (Ok tt) (Err r)

abbrev pub verdict_of : Result ℕ Refusal → Verdict
verdict_of (Ok n) = Ok tt
verdict_of (Err r) = Err r

abbrev pub fault_of_links : Limits → List ℕ → Verdict
fault_of_links limits ws = verdict_of (check_words limits ws)

abbrev pub fault_of_destination : ℕ → List ℕ → Verdict
fault_of_destination d us = unless (any_of (eqb d) us) NoDestination

abbrev pub fault_of_output : ℕ → ℕ → Verdict
fault_of_output need have = unless (leb need have) OutputShort

abbrev pub fault_of_room : ℕ → ℕ → Verdict
fault_of_room need have = unless (leb need have) RoomShort

-- 'After an accepted call all lent room is zero'; a refusal 'leaves all lent memory unchanged'
abbrev pub cleared : Verdict → List ℕ → List ℕ
cleared (Ok tt) room = replicate (length room) 0
cleared (Err r) room = room

-- 'output bytes or words beyond the result stay as they were'
abbrev pub filled : Verdict → List ℕ → List ℕ → List ℕ
filled (Ok tt) out old = out ++ drop (length out) old
filled (Err r) out old = old
