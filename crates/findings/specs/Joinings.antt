-- Whether every two different tops are peers: for each top its peers are met, and a top that is not met is looked for.
--
--   Everybody ws u     every AS has its flag set in u
--   Served ws u        who has a provider has its flag set in u
--   Chosen p u         place p alone has its flag set in u
--   Peered ws c t u    u is t with the peers of who is chosen met
--   Hinted ws c t u    u is t with no others met than peers of who is chosen
--   is_met_at s t k    who stands at place k is met or is no top
--   AllMet s t r       r says whether that holds at every place
--   pair_joined ls u v  u and v are no two different tops, or peers
--   meets ls u         u is a peer of every other top, or no top; meets_at ws p   so is the AS at place p
use Rattle.std.specs.Prelude.{ℕ, ◌<◌, ◌≡◌, Bool, true, false, not, ◌&&◌, ◌||◌, List, eqb, length, get_or}
use Rattle.rules.specs.declared.Link.{Link}
use Rattle.rules.specs.Lists.{In, all_of}
use Rattle.rules.specs.Network.{links_of, ases_of}
use Rattle.rules.specs.Findings.{is_top, are_peers}
use Rattle.findings.specs.declared.survey.Way.TheVariants.{Down, Up}
use Rattle.findings.specs.Flags.{flag_at, flag, ases_in}
use Rattle.findings.specs.Tellings.{heard}

abbrev pub Everybody : List ℕ → List ℕ → Type 0
Everybody ws u = (x : ℕ) → In x (ases_in ws) → flag ws u x ≡ true

abbrev pub Served : List ℕ → List ℕ → Type 0
Served ws u = (x : ℕ) → In x (ases_in ws) → flag ws u x ≡ not (is_top (links_of ws) x)

abbrev pub Chosen : ℕ → List ℕ → Type 0
Chosen p u = (k : ℕ) → k < length u → flag_at u k ≡ eqb k p

-- who is met after a pass either way
abbrev pub met_after : List ℕ → List ℕ → List ℕ → ℕ → Bool
met_after ws c t x = flag ws t x || heard 0 Down (flag ws c) x (links_of ws) || heard 0 Up (flag ws c) x (links_of ws)

pub record Peered (ws c t u : List ℕ) : Type 0 where
  pub flags : (x : ℕ) → In x (ases_in ws) → flag ws u x ≡ met_after ws c t x

pub record Hinted (ws c t u : List ℕ) : Type 0 where
  pub flags : (x : ℕ) → In x (ases_in ws) → flag ws u x ≡ true → met_after ws c t x ≡ true

abbrev pub is_met_at : List ℕ → List ℕ → ℕ → Bool
is_met_at s t k = flag_at s k || flag_at t k

abbrev pub AllMet : List ℕ → List ℕ → Bool → Type 0
AllMet s t true = (k : ℕ) → k < length t → is_met_at s t k ≡ true
AllMet s t false = (k : ℕ) × (k < length t) × (is_met_at s t k ≡ false)

abbrev pub pair_joined : List Link → ℕ → ℕ → Bool
pair_joined ls u v = not (is_top ls u && is_top ls v) || eqb u v || are_peers ls u v

abbrev pub meets : List Link → ℕ → Bool
meets ls u = all_of (pair_joined ls u) (ases_of ls)

abbrev pub meets_at : List ℕ → ℕ → Bool
meets_at ws p = meets (links_of ws) (get_or (ases_in ws) p 0)
