-- Table words as entries and back, whole and at a place. Each follows from what `entries_of` and `words_of` do with four words.
use Prim.Native.Nat.{ℕ, zero, suc, ◌+◌, ◌*◌, ◌/◌, ◌≤◌, ◌<◌}
use mathlib.Core.Path.{◌≡◌, refl, ap, ◌∙◌}
use mathlib.Core.List.{List, [], ◌∷◌, ◌++◌}
use native.Mathlib.Omega.{arith}
use lib.ListN.{length, get_or, take, drop}
use lib.Seq.{drop-cons}
use Rattle.rules.specs.Judge.{Entry, entry, entries_of, words_of}

pub entries_words : (es : List Entry) → entries_of (words_of es) ≡ es
unfolding entries_of words_of
entries_words [] = refl
entries_words (e ∷ es) = ap (λ (l : List Entry). e ∷ l) (entries_words es)

pub words_entries : (k : ℕ) (ws : List ℕ) → length ws ≡ 4 * k → words_of (entries_of ws) ≡ ws
unfolding entries_of words_of
words_entries k [] h = refl
words_entries k (u ∷ []) h = absurd (omega arith)
words_entries k (u ∷ t ∷ []) h = absurd (omega arith)
words_entries k (u ∷ t ∷ l ∷ []) h = absurd (omega arith)
words_entries zero (u ∷ t ∷ l ∷ n ∷ ws) h = absurd (omega arith)
words_entries (suc k) (u ∷ t ∷ l ∷ n ∷ ws) h = ap (λ (r : List ℕ). u ∷ t ∷ l ∷ n ∷ r) (words_entries k ws (omega arith))

pub length_entries : (ws : List ℕ) → length (entries_of ws) ≡ length ws / 4
unfolding entries_of
length_entries [] = refl
length_entries (u ∷ []) = refl
length_entries (u ∷ t ∷ []) = refl
length_entries (u ∷ t ∷ l ∷ []) = refl
length_entries (u ∷ t ∷ l ∷ n ∷ ws) = omega (arith, length_entries ws)

pub length_words : (es : List Entry) → length (words_of es) ≡ 4 * length es
unfolding words_of
length_words [] = refl
length_words (e ∷ es) = omega (arith, length_words es)

pub words_append : (es fs : List Entry) → words_of (es ++ fs) ≡ words_of es ++ words_of fs
unfolding words_of
words_append [] fs = refl
words_append (e ∷ es) fs = rw (words_append es fs)

-- one entry on
four : (u t l n : ℕ) (ws : List ℕ) → entries_of (u ∷ t ∷ l ∷ n ∷ ws) ≡ entry u t l n ∷ entries_of ws
unfolding entries_of
four u t l n ws = refl

pub entries_next : (ws : List ℕ) (i : ℕ) → 4 * i + 4 ≤ length ws → entries_of (drop (4 * i) ws)
    ≡ entry (get_or ws (4 * i) 0) (get_or ws (4 * i + 1) 0) (get_or ws (4 * i + 2) 0) (get_or ws (4 * i + 3) 0) ∷ entries_of (drop (4 * (i + 1)) ws)
entries_next ws i h =
    let p : suc (4 * i) ≡ 4 * i + 1 = omega arith in
    let q : suc (4 * i + 1) ≡ 4 * i + 2 = omega arith in
    let r : suc (4 * i + 2) ≡ 4 * i + 3 = omega arith in
    let s : suc (4 * i + 3) ≡ 4 * (i + 1) = omega arith in
    ap entries_of
    (drop-cons ws (4 * i) 0 (omega arith)
    ∙ rw (p, drop-cons ws (4 * i + 1) 0 (omega arith), q, drop-cons ws (4 * i + 2) 0 (omega arith), r, drop-cons ws (4 * i + 3) 0 (omega arith), s))
    ∙ four (get_or ws (4 * i) 0) (get_or ws (4 * i + 1) 0) (get_or ws (4 * i + 2) 0) (get_or ws (4 * i + 3) 0) (drop (4 * (i + 1)) ws)

-- fewer words than an entry are no entry
pub entries_few : (ws : List ℕ) → length ws < 4 → entries_of ws ≡ []
unfolding entries_of
entries_few [] h = refl
entries_few (u ∷ []) h = refl
entries_few (u ∷ t ∷ []) h = refl
entries_few (u ∷ t ∷ l ∷ []) h = refl
entries_few (u ∷ t ∷ l ∷ n ∷ ws) h = absurd (omega arith)

-- the first k entries
take-four : (k : ℕ) (ws : List ℕ) → take (4 * suc k) ws ≡ take (suc (suc (suc (suc (4 * k))))) ws
take-four k ws =
    let e : 4 * suc k ≡ suc (suc (suc (suc (4 * k)))) = omega arith in
    rw e

pub entries_take : (k : ℕ) (ws : List ℕ) → entries_of (take (4 * k) ws) ≡ take k (entries_of ws)
unfolding entries_of
entries_take zero ws = refl
entries_take (suc k) [] = ap entries_of (take-four k [])
entries_take (suc k) (u ∷ []) = ap entries_of (take-four k (u ∷ []))
entries_take (suc k) (u ∷ t ∷ []) = ap entries_of (take-four k (u ∷ t ∷ []))
entries_take (suc k) (u ∷ t ∷ l ∷ []) = ap entries_of (take-four k (u ∷ t ∷ l ∷ []))
entries_take (suc k) (u ∷ t ∷ l ∷ n ∷ ws) =
    ap entries_of (take-four k (u ∷ t ∷ l ∷ n ∷ ws)) ∙ ap (λ (es : List Entry). entry u t l n ∷ es) (entries_take k ws)
