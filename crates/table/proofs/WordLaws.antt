-- Two lists of table words that agree in length, in their first n entries and beyond them are one. Word by word.
use Prim.Native.Nat.{ℕ, ◌+◌, ◌*◌, ◌/◌, ◌%◌, ◌≤◌, ◌<◌}
use mathlib.Core.Path.{◌≡◌, sym, ◌∙◌, ap}
use mathlib.Core.List.{List, ◌++◌}
use native.Mathlib.Omega.{arith}
use native.Mathlib.Decide.{ℕ_discrete, dec_le}
use lib.ListN.{length, get_or, drop, length-append, length-drop}
use lib.Seq.{ext_get_or}
use Rattle.rules.specs.Stable.{Line, Routing, table_of}
use Rattle.rules.proofs.LineLaws.{table_length, table_beyond}
use Rattle.offers.specs.Lines.{number_word, entry_line}
use Rattle.offers.proofs.TableLaws.{table_number, table_line}

module _ (n : ℕ) (t u : List ℕ) (number : (i : ℕ) → i < n → number_word t i ≡ number_word u i) (line : (i : ℕ) → i < n → entry_line t i ≡ entry_line u i) where
  -- a word of entry i
  entry_word : (i r : ℕ) → i < n → r < 4 → get_or t (4 * i + r) 0 ≡ get_or u (4 * i + r) 0
  entry_word i r h l = go (ℕ_discrete r 0) (ℕ_discrete r 1) (ℕ_discrete r 2)
    where
      zero : 4 * i + 0 ≡ 4 * i
      zero = omega arith

      go : Dec (r ≡ 0) → Dec (r ≡ 1) → Dec (r ≡ 2) → get_or t (4 * i + r) 0 ≡ get_or u (4 * i + r) 0
      go (yes e) b c = rw (e, zero) (number i h)
      go (no a) (yes e) c = rw e (ap (λ (l : Line). l.pair.typ) (line i h))
      go (no a) (no b) (yes e) = rw e (ap (λ (l : Line). l.pair.length) (line i h))
      go (no a) (no b) (no c) = (let e : r ≡ 3 = omega arith in rw e (ap (λ (l : Line). l.next) (line i h)))

  pub words_same : length t ≡ length u → ((w : ℕ) → 4 * n ≤ w → get_or t w 0 ≡ get_or u w 0) → t ≡ u
  words_same long rest = ext_get_or 0 t u long (λ w h. at w (dec_le (4 * n) w))
    where
      at : (w : ℕ) → Dec (4 * n ≤ w) → get_or t w 0 ≡ get_or u w 0
      at w (yes l) = rest w l
      at w (no l) =
          let e : w ≡ 4 * (w / 4) + w % 4 = omega arith in
          rw e (entry_word (w / 4) (w % 4) (omega arith) (omega arith))

-- a table with R's lines, and an old one's words beyond them
pub table_is : (R : Routing) (us old t : List ℕ) → 4 * length us ≤ length old → length t ≡ length old
    → ((i : ℕ) → i < length us → number_word t i ≡ get_or us i 0) → ((i : ℕ) → i < length us → entry_line t i ≡ R (get_or us i 0))
    → ((w : ℕ) → 4 * length us ≤ w → get_or t w 0 ≡ get_or old w 0) → t ≡ table_of R us ++ drop (4 * length us) old
table_is R us old t room long number line rest =
    words_same (length us) t new (λ i h. number i h ∙ sym (table_number R (drop (4 * length us) old) us i h))
    (λ i h. line i h ∙ sym (table_line R (drop (4 * length us) old) us i h))
    (omega (arith, length-append (table_of R us) (drop (4 * length us) old), table_length R us, length-drop (4 * length us) old))
    (λ w h. rest w h ∙ sym (table_beyond R us old w h))
  where
    new : List ℕ
    new = table_of R us ++ drop (4 * length us) old
