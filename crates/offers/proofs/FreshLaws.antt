-- Entries one after the other, each AS of a list with the line that a routing gives it; and the lines before anything is told.
--
--   LaidTo R us i old new   new is old with the lines of the i ASes us in front
use Prim.Native.Nat.{ℕ, suc, ◌+◌, ◌*◌, ◌≤◌, ◌<◌}
use mathlib.Core.Path.{◌≡◌, refl, sym, ◌∙◌, ap}
use mathlib.Core.Logic.{◌≢◌}
use mathlib.Core.List.{List, [], ◌∷◌, ◌++◌}
use native.Mathlib.Omega.{arith}
use native.Mathlib.Decide.{ℕ_discrete}
use lib.ListN.{length, get_or, take, drop, length-append, length-drop}
use lib.Seq.{take-suc, take_all}
use Rattle.rules.specs.declared.TypeLength.{TypeLength}
use Rattle.rules.specs.Pairs.{origin_of, unreachable_of}
use Rattle.rules.specs.Stable.{Line, Routing, own, lost, table_of}
use Rattle.rules.proofs.Tests.{changed_same, changed_other}
use Rattle.rules.proofs.LineLaws.{table_length, table_append, table_one, table_beyond}
use Rattle.offers.specs.Lines.{number_word, entry_line, with_entry, fresh_lines}
use Rattle.offers.proofs.FillLaws.{fill_four}
use Rattle.offers.proofs.TableLaws.{table_number, table_line}

-- Entries --------------------------------------------------------------------------------------------------------------------

pub record LaidTo (R : Routing) (us : List ℕ) (i : ℕ) (old new : List ℕ) : Type 0 where
  pub count : length us ≡ i
  pub words : new ≡ table_of R us ++ drop (4 * i) old

pub laid_none : (R : Routing) (old : List ℕ) → LaidTo R [] 0 old old
unfolding table_of
laid_none R old = record { count = refl; words = refl }

module _ {R : Routing} {us : List ℕ} {i : ℕ} {old new : List ℕ} (e : LaidTo R us i old new) where
  front : length (table_of R us) ≡ 4 * i
  front = table_length R us ∙ ap (λ (n : ℕ). 4 * n) e.count

  pub laid_long : 4 * i ≤ length old → length new ≡ length old
  laid_long h = omega (arith, simp (length-append, length-drop) at (ap length e.words), front)

  pub laid_number : (j : ℕ) → j < i → number_word new j ≡ get_or us j 0
  laid_number j h = rw e.words (table_number R (drop (4 * i) old) us j (omega (arith, e.count)))

  pub Laid-Line : (j : ℕ) → j < i → entry_line new j ≡ R (get_or us j 0)
  Laid-Line j h = rw e.words (table_line R (drop (4 * i) old) us j (omega (arith, e.count)))

  pub laid_word : (w : ℕ) → 4 * i ≤ w → get_or new w 0 ≡ get_or old w 0
  laid_word w h = rw (e.words, ← e.count) (table_beyond R us old w (omega (arith, e.count)))

  pub laid_more : 4 * i + 4 ≤ length old → (u : ℕ) → LaidTo R (us ++ (u ∷ [])) (suc i) old (with_entry new i u (R u))
  laid_more h u =
      let four : 4 * suc i ≡ 4 * i + 4 = omega arith in
      record {
        count = simp length-append (omega (arith, e.count));
        words =
            ap (λ (b : List ℕ). with_entry b i u (R u)) e.words
            ∙ fill_four (table_of R us) old (4 * i) front u (R u).pair.typ (R u).pair.length (R u).next h
            ∙ rw (four, table_append R us (u ∷ []), table_one R u);
      }

-- one AS more of a list, with what it gets
pub laid_next : {R : Routing} (us : List ℕ) {i : ℕ} {old new : List ℕ} → LaidTo R (take i us) i old new → i < length us → 4 * i + 4 ≤ length old
    → (u : ℕ) (p : TypeLength) → u ≡ get_or us i 0 → p ≡ (R u).pair → (R u).next ≡ u
    → LaidTo R (take (i + 1) us) (i + 1) old (with_entry new i u (record { pair = p; next = u }))
laid_next us {i} e h g u p is f n =
    let one : suc i ≡ i + 1 = omega arith in
    rw (← one, take-suc us i 0 h, ← is, f) (rw n at (laid_more e g u))

pub laid_all : {R : Routing} (us : List ℕ) {i n : ℕ} {old new : List ℕ} → LaidTo R (take i us) i old new → i ≡ n → length us ≡ n
    → new ≡ table_of R us ++ drop (4 * n) old
laid_all us {n = n} e is long = rw (is, take_all n us (omega arith)) at e.words

-- Before anything is told ----------------------------------------------------------------------------------------------------

pub fresh_own : (d u : ℕ) → u ≡ d → (fresh_lines d u).pair ≡ origin_of
unfolding own
fresh_own d u e = ap (λ (l : Line). l.pair) (changed_same lost d (own d) u e)

pub fresh_other : (d u : ℕ) → u ≢ d → (fresh_lines d u).pair ≡ unreachable_of
unfolding lost
fresh_other d u ne = ap (λ (l : Line). l.pair) (changed_other lost d (own d) u ne)

-- every AS is its own next hop
pub fresh_next : (d u : ℕ) → (fresh_lines d u).next ≡ u
unfolding own lost
fresh_next d u = go (ℕ_discrete u d)
  where
    go : Dec (u ≡ d) → (fresh_lines d u).next ≡ u
    go (yes e) = ap (λ (l : Line). l.next) (changed_same lost d (own d) u e) ∙ sym e
    go (no ne) = ap (λ (l : Line). l.next) (changed_other lost d (own d) u ne)
