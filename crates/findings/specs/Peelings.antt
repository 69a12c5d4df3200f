-- Peeling: ASes that have no customer left are taken away, pass after pass. Who is left has a flag in one list, who has a customer left
-- has one in another.
--
--   one_if b           1 if b is true, else 0
--   ones_in t n        how many of the first n flags of t are set
--   Fewer t u r        r says whether u has fewer left than t; else they are the same
--   Peeled p m t u r   u is t with those of the first p places taken away who have no flag in m, and r says whether there was one
--   has_customer ws f x  x has a customer with the flag f
--   Round ws t u r     u is t after a pass, and r says whether one was taken away: who is left has a customer that was left
--   RingsLeft ws t     every AS on a ring is left
--   Bare ws t u        u is t after all passes: who is left has a customer that is left
use Rattle.std.specs.Prelude.{ℕ, zero, suc, ◌+◌, ◌≤◌, ◌<◌, ◌≡◌, Bool, true, false, cond, ◌&&◌, List, length}
use Rattle.rules.specs.Lists.{In}
use Rattle.rules.specs.Network.{links_of}
use Rattle.rules.specs.Findings.{reaches}
use Rattle.findings.specs.declared.survey.Way.TheVariants.{Up}
use Rattle.findings.specs.Flags.{flag_at, flag, ases_in}
use Rattle.findings.specs.Tellings.{heard}

abbrev pub one_if : Bool → ℕ
one_if b = cond b 1 0

unfoldable pub ones_in : List ℕ → ℕ → ℕ
ones_in t zero = 0
ones_in t (suc n) = one_if (flag_at t n) + ones_in t n

abbrev pub Fewer : List ℕ → List ℕ → Bool → Type 0
Fewer t u true = ones_in u (length t) < ones_in t (length t)
Fewer t u false = u ≡ t

pub record Peeled (p : ℕ) (m t u : List ℕ) (r : Bool) : Type 0 where
  pub size : length u ≡ length t
  pub done : (k : ℕ) → k < p → flag_at u k ≡ (flag_at t k && flag_at m k)
  pub rest : (k : ℕ) → p ≤ k → flag_at u k ≡ flag_at t k
  pub fewer : Fewer t u r

abbrev pub has_customer : List ℕ → (ℕ → Bool) → ℕ → Bool
has_customer ws f x = heard 1 Up f x (links_of ws)

pub record Round (ws t u : List ℕ) (r : Bool) : Type 0 where
  pub flags : (x : ℕ) → In x (ases_in ws) → flag ws u x ≡ (flag ws t x && has_customer ws (flag ws t) x)
  pub fewer : Fewer t u r

abbrev pub RingsLeft : List ℕ → List ℕ → Type 0
RingsLeft ws t = (x k : ℕ) → reaches (links_of ws) k x x ≡ true → flag ws t x ≡ true

pub record Bare (ws t u : List ℕ) : Type 0 where
  pub rings : RingsLeft ws t → RingsLeft ws u
  pub keeps : (x : ℕ) → In x (ases_in ws) → flag ws u x ≡ true → has_customer ws (flag ws u) x ≡ true
