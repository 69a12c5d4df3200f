-- Table words by entry: four words per AS, number, type, length, next hop.
--
--   number_word t i, type_word t i, length_word t i, next_word t i  the words of entry i
--   entry_pair t i, entry_line t i  its pair, its line
--   with_line t i l    the table with the line l at entry i; with_entry t i u l   with the number u too
--   printed n t        the routing that the first n entries print
--   fresh_lines d      the lines before anything is told: the destination's own, every other AS unreachable
--   Laying gives n us R   what is given for the first n places are the ASes us with their pairs in R, where each is its own next hop
use Rattle.std.specs.Prelude.{ℕ, ◌+◌, ◌*◌, ◌<◌, ◌≡◌, List, length, get_or, set, take}
use Rattle.rules.specs.declared.TypeLength.{TypeLength}
use Rattle.rules.specs.Lists.{changed}
use Rattle.rules.specs.Stable.{Line, Routing, own, lost}
use Rattle.rules.specs.Judge.{entries_of, routing_of}

abbrev pub number_word : List ℕ → ℕ → ℕ
number_word t i = get_or t (4 * i) 0

abbrev pub type_word : List ℕ → ℕ → ℕ
type_word t i = get_or t (4 * i + 1) 0

abbrev pub length_word : List ℕ → ℕ → ℕ
length_word t i = get_or t (4 * i + 2) 0

abbrev pub next_word : List ℕ → ℕ → ℕ
next_word t i = get_or t (4 * i + 3) 0

abbrev pub entry_pair : List ℕ → ℕ → TypeLength
entry_pair t i = record { typ = type_word t i; length = length_word t i }

abbrev pub entry_line : List ℕ → ℕ → Line
entry_line t i = record { pair = entry_pair t i; next = next_word t i }

abbrev pub with_line : List ℕ → ℕ → Line → List ℕ
with_line t i l = set (set (set t (4 * i + 1) l.pair.typ) (4 * i + 2) l.pair.length) (4 * i + 3) l.next

abbrev pub with_entry : List ℕ → ℕ → ℕ → Line → List ℕ
with_entry t i u l = with_line (set t (4 * i) u) i l

abbrev pub printed : ℕ → List ℕ → Routing
printed n t = routing_of (entries_of (take (4 * n) t))

abbrev pub fresh_lines : ℕ → Routing
fresh_lines d = changed lost d (own d)

pub record Laying (gives : ℕ → ℕ × TypeLength → Type 0) (n : ℕ) (us : List ℕ) (R : Routing) : Type 0 where
  pub count : length us ≡ n
  pub number : (i : ℕ) (e : ℕ × TypeLength) → i < n → gives i e → e.0 ≡ get_or us i 0
  pub pair : (i : ℕ) (e : ℕ × TypeLength) → i < n → gives i e → e.1 ≡ (R e.0).pair
  pub next : (i : ℕ) (e : ℕ × TypeLength) → i < n → gives i e → (R e.0).next ≡ e.0
