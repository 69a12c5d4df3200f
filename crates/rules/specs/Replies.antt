-- The reply of what looks at an input and gives no value.
--
--   Verdict            it passes, `Ok tt`, or there is a refusal
use Rattle.std.specs.Prelude.{Result}
use Rattle.rules.specs.declared.Refusal.{Refusal}

abbrev pub Verdict : Type 0
Verdict = Result (Unit {0}) Refusal
