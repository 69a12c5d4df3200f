-- What the small steps of the line reader give.
--
--   place_of c l        where the byte c first stands in l, or the end
--   Cut l from end     the field of the line l that begins at `from` ends at `end`: at a bar, or with the line
--   within_32_bits v   the number v, none if it is larger
--   number_at at n     a field as a number, or the reason of a line in which it begins at byte `at`
use Rattle.std.specs.Prelude.{◌≡◌, cond, List, [], ◌∷◌, ℕ, suc, ◌+◌, ◌-◌, ◌≤◌, ◌<◌, leb, eqb, length, take, drop, Option, None, Some, Err, Ok, Result}
use Rattle.linktext.specs.declared.Reason.{Reason}
use Rattle.linktext.specs.declared.NumeralFault.{NumeralFault}
use Rattle.linktext.specs.Lines.{before_bar, after_bar, reason_at}

unfoldable pub place_of : ℕ → List ℕ → ℕ
place_of c [] = 0
place_of c (x ∷ l) = cond (eqb x c) 0 (suc (place_of c l))

pub record Cut (l : List ℕ) (from end : ℕ) : Type 0 where
  pub after : from ≤ end
  pub within : end ≤ length l
  pub field : take (end - from) (drop from l) ≡ before_bar (drop from l)
  pub long : from + length (before_bar (drop from l)) ≡ end
  pub more : end < length l → after_bar (drop from l) ≡ Some (drop (end + 1) l)
  pub last : length l ≤ end → after_bar (drop from l) ≡ None

abbrev pub within_32_bits : ℕ → Option ℕ
within_32_bits v = cond (leb v 4294967295) (Some v) None

abbrev pub number_at : ℕ → Result ℕ NumeralFault → Result ℕ Reason
number_at at (Ok n) = Ok n
number_at at (Err fault) = Err (reason_at at fault)
