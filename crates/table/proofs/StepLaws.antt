-- The table as it begins, with fresh lines; and one turn of the loop that takes next hops over: the entry of the turn is right, those
-- before it stay.
use Prim.Native.Nat.{ℕ, ◌+◌, ◌*◌, ◌≤◌, ◌<◌}
use mathlib.Core.Path.{◌≡◌, ◌∙◌, ap}
use mathlib.Core.Bool.{cond}
use mathlib.Core.List.{List}
use native.Mathlib.Omega.{arith}
use native.Mathlib.Decide.{ℕ_discrete}
use borrow.Author.Count.{below_more}
use lib.Dec.{eqb}
use lib.ListN.{length, get_or}
use Rattle.rules.specs.declared.TypeLength.{TypeLength}
use Rattle.rules.specs.Stable.{Line}
use Rattle.offers.specs.Lines.{number_word, length_word, next_word, entry_pair, with_line, fresh_lines}
use Rattle.offers.proofs.FreshLaws.{LaidTo, laid_long, laid_number, Laid-Line, laid_word, fresh_own, fresh_other, fresh_next}
use Rattle.table.specs.Steps.{Lined, due_hop, Hopped}
use Rattle.table.proofs.LineLaws.{put_word, put_length, put_pair, put_next, put_number, put_other_pair, put_other_next}

-- before anything is told no line has a length
fresh-Short : (d u : ℕ) → (fresh_lines d u).pair.length ≡ 0
fresh-Short d u = go (ℕ_discrete u d)
  where
    go : Dec (u ≡ d) → (fresh_lines d u).pair.length ≡ 0
    go (yes e) = ap (λ (p : TypeLength). p.length) (fresh_own d u e)
    go (no ne) = ap (λ (p : TypeLength). p.length) (fresh_other d u ne)

module _ (d : ℕ) {us old t : List ℕ} (b : LaidTo (fresh_lines d) us (length us) old t) where
  pub begun_Lined : 4 * length us ≤ length old → Lined us old t
  begun_Lined room =
      record {
        long = laid_long b room;
        number = laid_number b;
        next = λ i h. ap (λ (l : Line). l.next) (Laid-Line b i h) ∙ fresh_next d (get_or us i 0);
        rest = laid_word b;
      }

  pub begun_short : (i : ℕ) → i < length us → length_word t i ≡ 0
  begun_short i h = ap (λ (l : Line). l.pair.length) (Laid-Line b i h) ∙ fresh-Short d (get_or us i 0)

module _ (d : ℕ) (best : List ℕ) (i : ℕ) (t u : List ℕ) (room : 4 * i + 4 ≤ length u) (b : Hopped d best i t u) where
  abbrev taken : Line
  taken = record { pair = entry_pair u i; next = due_hop d u best i }

  same_hop : due_hop d u best i ≡ due_hop d t best i
  same_hop =
      ap (λ (n : ℕ). cond (eqb n d) (next_word u i) (next_word best i)) (b.number i)
      ∙ ap (λ (n : ℕ). cond (eqb (number_word t i) d) n (next_word best i)) (b.rest (4 * i + 3) (omega arith))

  pub Hopped-more : Hopped d best (i + 1) t (with_line u i taken)
  Hopped-more =
      record {
        long = put_length u i taken ∙ b.long;
        number = λ j. put_number u i taken j ∙ b.number j;
        pair = λ j. pair j (ℕ_discrete j i) ∙ b.pair j;
        next =
            below_more (λ j. next_word (with_line u i taken) j ≡ due_hop d t best j) i
            (λ j h. put_other_next u i taken j (λ e. omega arith) ∙ b.next j h)
            (put_next u i taken room ∙ same_hop);
        rest = λ w l. put_word u i taken w (λ e. omega arith) (λ e. omega arith) (λ e. omega arith) ∙ b.rest w (omega arith);
      }
    where
      pair : (j : ℕ) → Dec (j ≡ i) → entry_pair (with_line u i taken) j ≡ entry_pair u j
      pair j (yes e) = rw e (put_pair u i taken room)
      pair j (no ne) = put_other_pair u i taken j ne
