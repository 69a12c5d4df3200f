-- What the quick method asks and leaves, and when what it guessed stands.
--
--   Framed n t u       u is t in length, in the numbers and next hops of its entries, and beyond its first n entries
--   Low n t            no length of the first n entries is as high as n
--   Guessing n t       what a guess asks: n entries, few enough for a word, whose lengths are low
--   Guessed n t u      table u is t with other pairs in its first n entries, whose lengths are low
use Rattle.std.specs.Prelude.{ℕ, ◌*◌, ◌≤◌, ◌<◌, ◌≡◌, List, length, get_or}
use Rattle.offers.specs.Lines.{number_word, length_word, next_word}

pub record Framed (n : ℕ) (t u : List ℕ) : Type 0 where
  pub long : length u ≡ length t
  pub number : (i : ℕ) → number_word u i ≡ number_word t i
  pub next : (i : ℕ) → i < n → next_word u i ≡ next_word t i
  pub rest : (w : ℕ) → 4 * n ≤ w → get_or u w 0 ≡ get_or t w 0

abbrev pub Low : ℕ → List ℕ → Type 0
Low n t = (i : ℕ) → i < n → length_word t i < n

pub record Guessing (n : ℕ) (t : List ℕ) : Type 0 where
  pub room : 4 * n ≤ length t
  pub few : n < 4294967296
  pub low : Low n t

pub record Guessed (n : ℕ) (t u : List ℕ) : Type 0 where
  pub framed : Framed n t u
  pub low : Low n u
