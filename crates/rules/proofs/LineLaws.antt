-- Lines of a sheet as a routing and back: where each AS is printed once, what is printed is looked up again. And the table of a routing,
-- four words for each AS. By induction on the lines, or along the ASes.
use Prim.Native.Nat.{ℕ, suc, ◌+◌, ◌-◌, ◌*◌, ◌≤◌, ◌<◌}
use mathlib.Core.Path.{◌≡◌, refl, sym, ◌∙◌, ap, ap₂}
use mathlib.Core.Logic.{inl, inr, ◌≢◌}
use mathlib.Core.List.{List, [], ◌∷◌, ◌++◌, map}
use native.Mathlib.Decide.{ℕ_discrete}
use native.Mathlib.Omega.{arith}
use lib.ListN.{length, get_or, drop}
use lib.Seq.{get_or-append-add, get_or-drop}
use borrow.Author.Tests.{eq-eqb, ne_eqb}
use Rattle.rules.specs.Lists.{In, Distinct}
use Rattle.rules.specs.Stable.{Line, Routing, lost, table_of}
use Rattle.rules.specs.Judge.{Entry, entries_of, words_of, entries_for, routing_of}
use Rattle.rules.proofs.Pigeon.{Without-apart}
use Rattle.rules.proofs.EntryLaws as table

abbrev pub numbers : List Entry → List ℕ
numbers es = map (λ (e : Entry). e.number) es

pub routing_first : (e : Entry) (es : List Entry) (u : ℕ) → u ≡ e.number → routing_of (e ∷ es) u ≡ e.line
unfolding routing_of
routing_first e es u p = cc (eq-eqb u e.number p)

pub routing_later : (e : Entry) (es : List Entry) (u : ℕ) → u ≢ e.number → routing_of (e ∷ es) u ≡ routing_of es u
unfolding routing_of
routing_later e es u ne = cc (ne_eqb u e.number ne)

-- an AS that is not printed is unreachable
pub routing_out : (es : List Entry) (u : ℕ) → (In u (numbers es) → ⊥) → routing_of es u ≡ lost u
unfolding routing_of
routing_out [] u out = refl
routing_out (e ∷ es) u out = routing_later e es u (λ p. out (inl p)) ∙ routing_out es u (λ m. out (inr m))

pub entries_same : (R S : Routing) (us : List ℕ) → ((u : ℕ) → In u us → R u ≡ S u) → entries_for R us ≡ entries_for S us
unfolding entries_for
entries_same R S [] same = refl
entries_same R S (u ∷ us) same =
    ap₂ (λ (l : Line) (es : List Entry). record { number = u; line = l } ∷ es) (same u (inl refl))
    (entries_same R S us (λ v m. same v (inr m)))

pub entries_In : (R : Routing) (us : List ℕ) (u : ℕ) → In u us → In (record { number = u; line = R u }) (entries_for R us)
unfolding entries_for
entries_In R [] u x' = elim x' [ ]
entries_In R (v ∷ us) u (inl e) = inl (ap (λ (x : ℕ). record { number = x; line = R x }) e)
entries_In R (v ∷ us) u (inr m) = inr (entries_In R us u m)

pub entries_only : (R : Routing) (us : List ℕ) (e : Entry) → In e (entries_for R us) → In e.number us × (e.line ≡ R e.number)
unfolding entries_for
entries_only R [] e x' = elim x' [ ]
entries_only R (v ∷ us) e (inl q) = rw q (inl refl, refl)
entries_only R (v ∷ us) e (inr m) = (let r = entries_only R us e m in (inr r.0, r.1))

pub entries_numbers : (R : Routing) (us : List ℕ) → numbers (entries_for R us) ≡ us
unfolding entries_for
entries_numbers R [] = refl
entries_numbers R (u ∷ us) = ap (λ (l : List ℕ). u ∷ l) (entries_numbers R us)

pub entries_words : (R : Routing) (us : List ℕ) → words_of (entries_for R us) ≡ table_of R us
unfolding entries_for words_of table_of
entries_words R [] = refl
entries_words R (u ∷ us) =
    ap (λ (l : List ℕ). u ∷ (R u).pair.typ ∷ (R u).pair.length ∷ (R u).next ∷ l) (entries_words R us)

-- a routing printed and looked up
pub printed_looked : (R : Routing) (us : List ℕ) (u : ℕ) → In u us → routing_of (entries_for R us) u ≡ R u
unfolding entries_for
printed_looked R [] u m = elim m [ ]
printed_looked R (v ∷ us) u m = go (ℕ_discrete u v) m (λ h. printed_looked R us u h)
  where
    first : Entry
    first = record { number = v; line = R v }

    go : Dec (u ≡ v) → In u (v ∷ us) → (In u us → routing_of (entries_for R us) u ≡ R u) → routing_of (entries_for R (v ∷ us)) u ≡ R u
    go (yes e) h later = routing_first first (entries_for R us) u e ∙ ap R (sym e)
    go (no ne) (inl e) later = absurd (ne e)
    go (no ne) (inr h) later = routing_later first (entries_for R us) u ne ∙ later h

-- lines looked up and printed
pub looked_printed : (es : List Entry) → Distinct (numbers es) → entries_for (routing_of es) (numbers es) ≡ es
unfolding entries_for
looked_printed [] d = refl
looked_printed (e ∷ es) d =
    ap₂ (λ (l : Line) (rest : List Entry). record { number = e.number; line = l } ∷ rest) (routing_first e es e.number refl)
    (entries_same (routing_of (e ∷ es)) (routing_of es) (numbers es)
    (λ u m. routing_later e es u (Without-apart (numbers es) d.0 m))
    ∙ looked_printed es d.1)

-- Tables of a routing ------------------------------------------------------------------------------------------------------

pub table_length : (R : Routing) (us : List ℕ) → length (table_of R us) ≡ 4 * length us
unfolding table_of
table_length R [] = refl
table_length R (u ∷ us) = omega (arith, table_length R us)

pub table_append : (R : Routing) (us vs : List ℕ) → table_of R (us ++ vs) ≡ table_of R us ++ table_of R vs
unfolding table_of
table_append R [] vs = refl
table_append R (u ∷ us) vs = ap (λ (t : List ℕ). u ∷ (R u).pair.typ ∷ (R u).pair.length ∷ (R u).next ∷ t) (table_append R us vs)

pub table_one : (R : Routing) (u : ℕ) → table_of R (u ∷ []) ≡ u ∷ (R u).pair.typ ∷ (R u).pair.length ∷ (R u).next ∷ []
unfolding table_of
table_one R u = refl

-- tables of two routings that agree on the ASes
pub table_same : (R S : Routing) (us : List ℕ) → ((i : ℕ) → i < length us → R (get_or us i 0) ≡ S (get_or us i 0)) → table_of R us ≡ table_of S us
unfolding table_of
table_same R S [] same = refl
table_same R S (u ∷ us) same =
    let e : R u ≡ S u = same 0 (omega arith) in
    rw (e, table_same R S us (λ i h. same (suc i) (omega arith)))

-- the words beyond the last entry
pub table_beyond : (R : Routing) (us old : List ℕ) (w : ℕ) → 4 * length us ≤ w → get_or (table_of R us ++ drop (4 * length us) old) w 0 ≡ get_or old w 0
table_beyond R us old w h =
    let k = w - 4 * length us in
    let e : w ≡ length (table_of R us) + k = omega (arith, table_length R us) in
    let f : 4 * length us + k ≡ w = omega arith in
    ap (λ (x : ℕ). get_or (table_of R us ++ drop (4 * length us) old) x 0) e ∙ get_or-append-add (table_of R us) (drop (4 * length us) old) k 0
    ∙ get_or-drop (4 * length us) old k 0 ∙ ap (λ (x : ℕ). get_or old x 0) f

-- a table's entries are its lines
pub table_entries : (R : Routing) (us : List ℕ) → entries_of (table_of R us) ≡ entries_for R us
table_entries R us = ap entries_of (sym (entries_words R us)) ∙ table.entries_words (entries_for R us)
