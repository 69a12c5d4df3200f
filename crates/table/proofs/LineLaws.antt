-- Table words after one line was put in: the entry has it, and every other word is what it was.
use Prim.Native.Nat.{ℕ, ◌+◌, ◌*◌, ◌≤◌, ◌<◌}
use mathlib.Core.Path.{◌≡◌, refl, ◌∙◌}
use mathlib.Core.Logic.{◌≢◌}
use mathlib.Core.List.{List}
use native.Mathlib.Omega.{arith}
use native.Mathlib.Decide.{ℕ_discrete}
use lib.ListN.{length, get_or, set, length-set}
use lib.Seq.{get_or-set_same, get_or-set_other}
use Rattle.rules.specs.declared.TypeLength.{TypeLength}
use Rattle.rules.specs.Stable.{Line}
use Rattle.rules.proofs.OfferLaws.{pair_same}
use Rattle.offers.specs.Lines.{number_word, type_word, length_word, next_word, entry_pair, with_line}
use Rattle.table.specs.Guess.{Framed}
use Rattle.table.specs.Steps.{Lined}

module _ (t : List ℕ) (i : ℕ) (l : Line) where
  -- a word that is none of the line's
  pub put_word : (w : ℕ) → w ≢ 4 * i + 1 → w ≢ 4 * i + 2 → w ≢ 4 * i + 3 → get_or (with_line t i l) w 0 ≡ get_or t w 0
  put_word w x y z =
      get_or-set_other (set (set t (4 * i + 1) l.pair.typ) (4 * i + 2) l.pair.length) (4 * i + 3) w l.next 0 z
      ∙ get_or-set_other (set t (4 * i + 1) l.pair.typ) (4 * i + 2) w l.pair.length 0 y
      ∙ get_or-set_other t (4 * i + 1) w l.pair.typ 0 x

  pub put_length : length (with_line t i l) ≡ length t
  put_length = simp length-set

  module _ (h : 4 * i + 4 ≤ length t) where
    put_typ : type_word (with_line t i l) i ≡ l.pair.typ
    put_typ =
        get_or-set_other (set (set t (4 * i + 1) l.pair.typ) (4 * i + 2) l.pair.length) (4 * i + 3) (4 * i + 1) l.next 0 (λ e. omega arith)
        ∙ get_or-set_other (set t (4 * i + 1) l.pair.typ) (4 * i + 2) (4 * i + 1) l.pair.length 0 (λ e. omega arith)
        ∙ get_or-set_same t (4 * i + 1) l.pair.typ 0 (omega arith)

    put_len : length_word (with_line t i l) i ≡ l.pair.length
    put_len =
        get_or-set_other (set (set t (4 * i + 1) l.pair.typ) (4 * i + 2) l.pair.length) (4 * i + 3) (4 * i + 2) l.next 0 (λ e. omega arith)
        ∙ get_or-set_same (set t (4 * i + 1) l.pair.typ) (4 * i + 2) l.pair.length 0 (simp length-set (omega arith))

    pub put_pair : entry_pair (with_line t i l) i ≡ l.pair
    put_pair = pair_same (put_typ, put_len)

    pub put_next : next_word (with_line t i l) i ≡ l.next
    put_next =
        get_or-set_same (set (set t (4 * i + 1) l.pair.typ) (4 * i + 2) l.pair.length) (4 * i + 3) l.next 0 (simp length-set (omega arith))

  pub put_number : (j : ℕ) → number_word (with_line t i l) j ≡ number_word t j
  put_number j = put_word (4 * j) (λ e. omega arith) (λ e. omega arith) (λ e. omega arith)

  -- another entry
  pub put_other_pair : (j : ℕ) → j ≢ i → entry_pair (with_line t i l) j ≡ entry_pair t j
  put_other_pair j ne =
      pair_same (
        put_word (4 * j + 1) (λ e. ne (omega arith)) (λ e. omega arith) (λ e. omega arith),
        put_word (4 * j + 2) (λ e. omega arith) (λ e. ne (omega arith)) (λ e. omega arith),
      )

  pub put_other_next : (j : ℕ) → j ≢ i → next_word (with_line t i l) j ≡ next_word t j
  put_other_next j ne = put_word (4 * j + 3) (λ e. omega arith) (λ e. omega arith) (λ e. ne (omega arith))

-- an entry gets another pair
pub Framed-put : (n : ℕ) (t : List ℕ) (i : ℕ) (p : TypeLength) → 4 * n ≤ length t → i < n → Framed n t (with_line t i (record { pair = p; next = next_word t i }))
Framed-put n t i p room within =
    record {
      long = put_length t i new;
      number = put_number t i new;
      next = λ j l. next j (ℕ_discrete j i);
      rest = λ x l. put_word t i new x (λ e. omega arith) (λ e. omega arith) (λ e. omega arith);
    }
  where
    new : Line
    new = record { pair = p; next = next_word t i }

    next : (j : ℕ) → Dec (j ≡ i) → next_word (with_line t i new) j ≡ next_word t j
    next j (yes e) = rw e (put_next t i new (omega arith))
    next j (no ne) = put_other_next t i new j ne

pub Framed-same : {n : ℕ} (t : List ℕ) → Framed n t t
Framed-same t = record { long = refl; number = λ i. refl; next = λ i l. refl; rest = λ w l. refl }

pub Framed-more : {n : ℕ} {t u v : List ℕ} → Framed n t u → Framed n u v → Framed n t v
Framed-more a b =
    record {
      long = b.long ∙ a.long;
      number = λ i. b.number i ∙ a.number i;
      next = λ i l. b.next i l ∙ a.next i l;
      rest = λ w l. b.rest w l ∙ a.rest w l;
    }

-- entries for ASes, in a table by itself, after another, and with other pairs
module _ {us t u : List ℕ} (l : Lined us t u) where
  pub Lined-more : {v : List ℕ} → Lined us u v → Lined us t v
  Lined-more m = record { long = m.long ∙ l.long; number = m.number; next = m.next; rest = λ w h. m.rest w h ∙ l.rest w h }

  pub Lined-Framed : {v : List ℕ} → Framed (length us) u v → Lined us t v
  Lined-Framed f =
      record {
        long = f.long ∙ l.long;
        number = λ i h. f.number i ∙ l.number i h;
        next = λ i h. f.next i h ∙ l.next i h;
        rest = λ w h. f.rest w h ∙ l.rest w h;
      }
