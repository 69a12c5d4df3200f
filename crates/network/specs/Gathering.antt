-- The ASes of links gathered as they are met.
--
--   Same xs ys         the two lists have the same members
--   Met t known        what stands in a slot of t that is not empty, 0, is one of the ASes known
--   Holding known seen met n   the first n words of seen have the members of known, and so do the slots of met, where they are not empty
--   Gathering seen met n   there is a word for one more, in tables of their lengths
--   Grown more s t n u v r   tables s and t, which held any known ASes in n words, hold `more` of them as u and v in r, unless r is none
--   Collected seen out r   the first r words of seen have the members of out, unless r is none
--   Tried out l u r    u is l with the list out in its first words, which are r; or it is l and r is none
use Rattle.std.specs.Prelude.{◌≡◌, ℕ, ◌≤◌, ◌≢◌, List, length, take, Option, MatchOption, IfSome}
use Rattle.rules.specs.Lists.{In}
use Rattle.network.specs.Promises.{Listed}
use Rattle.network.specs.Slots.{slot}

pub record Same (xs ys : List ℕ) : Type 0 where
  pub only : (u : ℕ) → In u xs → In u ys
  pub all : (u : ℕ) → In u ys → In u xs

pub record Met (t known : List ℕ) : Type 0 where
  pub only : (s : ℕ) → slot t s ≢ 0 → In (slot t s) known

pub record Holding (known seen met : List ℕ) (n : ℕ) : Type 0 where
  pub same : Same (take n seen) known
  pub slots : Met met known

pub record Gathering (seen met : List ℕ) (n : ℕ) : Type 0 where
  pub seen_long : length seen ≡ 513
  pub met_long : length met ≡ 2112
  pub few : n ≤ 512

-- what is known of m words after one more AS
pub record Held (more : List ℕ → List ℕ) (s t : List ℕ) (n : ℕ) (u v : List ℕ) (m : ℕ) : Type 0 where
  pub few : m ≤ 512
  pub known : (k : List ℕ) → Holding k s t n → Holding (more k) u v m

pub record Grown (more : List ℕ → List ℕ) (s t : List ℕ) (n : ℕ) (u v : List ℕ) (r : Option ℕ) : Type 0 where
  pub seen_long : length u ≡ length s
  pub met_long : length v ≡ length t
  pub held : IfSome r (Held more s t n u v)

pub record Collected (seen out : List ℕ) (r : Option ℕ) : Type 0 where
  pub long : length seen ≡ 513
  pub few : IfSome r (λ n. n ≤ 512)
  pub same : IfSome r (λ n. Same (take n seen) out)

abbrev pub Tried : List ℕ → List ℕ → List ℕ → Option ℕ → Type 0
Tried out l u r = MatchOption r (u ≡ l) (λ n. Listed out l u n)
