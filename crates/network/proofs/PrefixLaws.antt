-- A list of link words at a place: one link on, and at the end. Each follows from what `links_of` does with three words. So do the ASes
-- of the links before a place, which grow to all of them.
use Rattle.std.proofs.Common.{◌≡◌, ℕ, zero, suc, ◌+◌, ◌*◌, ◌<◌, ◌≤◌, List, [], ◌∷◌, length, get_or, drop, sym, refl, ap, ◌∙◌, add-one, arith, length-drop, drop-cons}
use Rattle.rules.specs.Network.{links_of, link_in_words, ases_from, ases_of}
use Rattle.network.specs.Promises.{count_of, HasLink}
use Rattle.network.specs.Prefix.{links_from, ases_at}
use Rattle.rules.proofs.NetworkLaws.{ases_from-length}

three : (a b c : ℕ) (ws : List ℕ) → links_of (a ∷ b ∷ c ∷ ws) ≡ record { a = a; b = b; relation = c } ∷ links_of ws
unfolding links_of
three a b c ws = refl

-- fewer words than a link are no link
few : (ws : List ℕ) → length ws < 3 → links_of ws ≡ []
unfolding links_of
few [] h = refl
few (a ∷ []) h = refl
few (a ∷ b ∷ []) h = refl
few (a ∷ b ∷ c ∷ ws) h = absurd (omega arith)

pub count : (ws : List ℕ) → length (links_of ws) ≡ count_of ws
unfolding links_of
count [] = refl
count (a ∷ []) = refl
count (a ∷ b ∷ []) = refl
count (a ∷ b ∷ c ∷ ws) = omega (arith, count ws)

pub links_next : (ws : List ℕ) (i : ℕ) → HasLink ws i → links_from ws i ≡ link_in_words ws i ∷ links_from ws (i + 1)
links_next ws i h =
    let p : suc (3 * i) ≡ 3 * i + 1 = omega arith in
    let q : suc (3 * i + 1) ≡ 3 * i + 2 = omega arith in
    let r : suc (3 * i + 2) ≡ 3 * (i + 1) = omega arith in
    ap links_of
    (drop-cons ws (3 * i) 0 (omega arith)
    ∙ rw (p, drop-cons ws (3 * i + 1) 0 (omega arith), q, drop-cons ws (3 * i + 2) 0 (omega arith), r))
    ∙ three (get_or ws (3 * i) 0) (get_or ws (3 * i + 1) 0) (get_or ws (3 * i + 2) 0) (drop (3 * (i + 1)) ws)

pub links_end : (ws : List ℕ) (i : ℕ) → count_of ws ≤ i → links_from ws i ≡ []
links_end ws i h = few (drop (3 * i) ws) (simp length-drop (omega arith))

-- ASes
ases_left : (ws : List ℕ) (i : ℕ) → i ≤ count_of ws → ases_from (ases_at ws i) (links_from ws i) ≡ ases_of (links_of ws)
unfolding ases_from
ases_left ws zero h = refl
ases_left ws (suc i) h =
    ap (λ (j : ℕ). ases_from (ases_at ws (suc i)) (links_from ws j)) (sym (add-one i))
    ∙ sym (ap (ases_from (ases_at ws i)) (links_next ws i (omega arith)))
    ∙ ases_left ws i (omega arith)

pub ases_few : (ws : List ℕ) (i : ℕ) → i ≤ count_of ws → length (ases_at ws i) ≤ length (ases_of (links_of ws))
ases_few ws i h = omega (arith, ap length (ases_left ws i h), ases_from-length (ases_at ws i) (links_from ws i))

pub ases_all : (ws : List ℕ) (i : ℕ) → i ≤ count_of ws → count_of ws ≤ i → ases_at ws i ≡ ases_of (links_of ws)
unfolding ases_from
ases_all ws i h g = sym (ap (ases_from (ases_at ws i)) (links_end ws i g)) ∙ ases_left ws i h
