-- Tables by entry: entry i of a table is the line of AS i, a line that is put changes that line alone, and what a table with different
-- ASes prints for AS i is its entry i. By induction along the ASes.
use Prim.Native.Nat.{ℕ, zero, suc, ◌+◌, ◌*◌, ◌≤◌, ◌<◌}
use mathlib.Core.Path.{◌≡◌, refl, sym, ◌∙◌, ap}
use mathlib.Core.Logic.{◌≢◌}
use mathlib.Core.List.{List, [], ◌∷◌, ◌++◌}
use native.Mathlib.Omega.{arith}
use lib.ListN.{length, get_or}
use borrow.Author.Tests.{eq-eqb, ne_eqb}
use Rattle.rules.specs.Lists.{Distinct}
use Rattle.rules.specs.Stable.{Line, Routing, table_of}
use Rattle.rules.specs.Judge.{entries_of, routing_of}
use Rattle.rules.proofs.LineLaws.{table_same}
use Rattle.offers.specs.Lines.{number_word, entry_line, with_line, printed}
use Rattle.offers.proofs.PlaceLaws.{without_at}

-- One entry on -----------------------------------------------------------------------------------------------------------

four_on : (i k : ℕ) → 4 * suc i + k ≡ suc (suc (suc (suc (4 * i + k))))
four_on i k = omega arith

four_up : (i : ℕ) → 4 * suc i ≡ suc (suc (suc (suc (4 * i))))
four_up i = omega arith

module _ (a b c d : ℕ) (t : List ℕ) (i : ℕ) where
  number_next : number_word (a ∷ b ∷ c ∷ d ∷ t) (suc i) ≡ number_word t i
  number_next = rw (four_up i)

  line_next : entry_line (a ∷ b ∷ c ∷ d ∷ t) (suc i) ≡ entry_line t i
  line_next = rw (four_on i 1, four_on i 2, four_on i 3)

  put_next : (l : Line) → with_line (a ∷ b ∷ c ∷ d ∷ t) (suc i) l ≡ a ∷ b ∷ c ∷ d ∷ with_line t i l
  put_next l = rw (four_on i 1, four_on i 2, four_on i 3)

-- Tables of a routing ------------------------------------------------------------------------------------------------------

module _ (R : Routing) (rest : List ℕ) where
  pub table_number : (us : List ℕ) (i : ℕ) → i < length us → number_word (table_of R us ++ rest) i ≡ get_or us i 0
  unfolding table_of
  table_number [] i h = absurd (omega arith)
  table_number (u ∷ us) zero h = refl
  table_number (u ∷ us) (suc i) h = number_next u _ _ _ (table_of R us ++ rest) i ∙ table_number us i (omega arith)

  pub table_line : (us : List ℕ) (i : ℕ) → i < length us → entry_line (table_of R us ++ rest) i ≡ R (get_or us i 0)
  unfolding table_of
  table_line [] i h = absurd (omega arith)
  table_line (u ∷ us) zero h = refl
  table_line (u ∷ us) (suc i) h = line_next u _ _ _ (table_of R us ++ rest) i ∙ table_line us i (omega arith)

  -- S is R but for the line of AS i
  pub table_put : (S : Routing) (us : List ℕ) → Distinct us → (i : ℕ) → i < length us → ((v : ℕ) → v ≢ get_or us i 0 → S v ≡ R v)
      → with_line (table_of R us ++ rest) i (S (get_or us i 0)) ≡ table_of S us ++ rest
  unfolding table_of
  table_put S [] d i h other = absurd (omega arith)
  table_put S (u ∷ us) d zero h other =
      ap (λ (t : List ℕ). u ∷ (S u).pair.typ ∷ (S u).pair.length ∷ (S u).next ∷ (t ++ rest))
      (table_same R S us (λ i g. sym (other (get_or us i 0) (λ e. without_at 0 u us d.0 i g (sym e)))))
  table_put S (u ∷ us) d (suc i) h other =
      let e : S u ≡ R u = other u (without_at 0 u us d.0 i (omega arith)) in
      put_next u _ _ _ (table_of R us ++ rest) i (S (get_or us i 0)) ∙ rw (e, table_put S us d.1 i (omega arith) other)

-- What a table prints --------------------------------------------------------------------------------------------------------

module _ (a b c d : ℕ) (t : List ℕ) (n v : ℕ) where
  first : Line
  first = record { pair = record { typ = b; length = c }; next = d }

  printed-first : v ≡ a → printed (suc n) (a ∷ b ∷ c ∷ d ∷ t) v ≡ first
  unfolding entries_of routing_of first
  printed-first e = rw (four_up n, eq-eqb v a e)

  printed_later : v ≢ a → printed (suc n) (a ∷ b ∷ c ∷ d ∷ t) v ≡ printed n t v
  unfolding entries_of routing_of
  printed_later ne = rw (four_up n, ne_eqb v a ne)

pub printed_at : (us t : List ℕ) → Distinct us → 4 * length us ≤ length t → ((i : ℕ) → i < length us → number_word t i ≡ get_or us i 0)
    → (i : ℕ) → i < length us → printed (length us) t (get_or us i 0) ≡ entry_line t i
unfolding first
printed_at [] t d room same i h = absurd (omega arith)
printed_at (u ∷ us) [] d room same i h = absurd (omega arith)
printed_at (u ∷ us) (a ∷ []) d room same i h = absurd (omega arith)
printed_at (u ∷ us) (a ∷ b ∷ []) d room same i h = absurd (omega arith)
printed_at (u ∷ us) (a ∷ b ∷ c ∷ []) d room same i h = absurd (omega arith)
printed_at (u ∷ us) (a ∷ b ∷ c ∷ e ∷ t) d room same zero h = printed-first a b c e t (length us) u (sym (same 0 (omega arith)))
printed_at (u ∷ us) (a ∷ b ∷ c ∷ e ∷ t) d room same (suc i) h =
    let own : a ≡ u = same 0 (omega arith) in
    printed_later a b c e t (length us) (get_or us i 0) (λ f. without_at 0 u us d.0 i (omega arith) (sym (f ∙ own)))
    ∙ printed_at us t d.1 (omega arith) (λ j g. sym (number_next a b c e t j) ∙ same (suc j) (omega arith)) i (omega arith)
    ∙ sym (line_next a b c e t i)
