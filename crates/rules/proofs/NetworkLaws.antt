-- A list of links: as words it is the same list again, and its ASes are the ends of its links, ascending. By induction along the
-- list, from what `insert` does.
--
--   Ends u l           u is an end of link l
use Prim.Native.Nat.{ℕ, ◌+◌, ◌*◌, ◌%◌, ◌≤◌}
use mathlib.Core.Path.{◌≡◌, refl, ap}
use mathlib.Core.Logic.{◌⊎◌, inl, inr, ⊎_elim}
use mathlib.Core.List.{List, [], ◌∷◌}
use native.Mathlib.Omega.{arith}
use lib.ListN.{length}
use Rattle.rules.specs.declared.Link.{Link}
use Rattle.rules.specs.Lists.{In, Distinct}
use Rattle.rules.specs.Network.{links_of, flat, insert, with_ends, ases_from, ases_of}
use Rattle.rules.specs.Ascending.{Ascending}
use Rattle.rules.proofs.Ascending.{Ascending-Distinct, insert-In, insert_keeps, insert_only, insert-Ascending, insert-length}

-- words
pub links_of-flat : (ls : List Link) → links_of (flat ls) ≡ ls
unfolding links_of flat
links_of-flat [] = refl
links_of-flat (l ∷ ls) = ap (λ (k : List Link). l ∷ k) (links_of-flat ls)

pub flat-links_of : (ws : List ℕ) → length ws % 3 ≡ 0 → flat (links_of ws) ≡ ws
unfolding links_of flat
flat-links_of [] h = refl
flat-links_of (a ∷ []) h = absurd (omega arith)
flat-links_of (a ∷ b ∷ []) h = absurd (omega arith)
flat-links_of (a ∷ b ∷ r ∷ ws) h = ap (λ (k : List ℕ). a ∷ b ∷ r ∷ k) (flat-links_of ws (omega arith))

pub flat-length : (ls : List Link) → length (flat ls) ≡ 3 * length ls
unfolding flat
flat-length [] = refl
flat-length (l ∷ ls) = omega (arith, flat-length ls)

-- ASes
abbrev pub Ends : ℕ → Link → Type 0
Ends u l = (u ≡ l.a) ⊎ (u ≡ l.b)

pub with_ends-Ascending : (l : Link) (known : List ℕ) → Ascending known → Ascending (with_ends l known)
unfolding with_ends
with_ends-Ascending l known h = insert-Ascending l.b (insert l.a known) (insert-Ascending l.a known h)

with_ends_keeps : (l : Link) (known : List ℕ) (u : ℕ) → In u known → In u (with_ends l known)
unfolding with_ends
with_ends_keeps l known u m = insert_keeps l.b u (insert l.a known) (insert_keeps l.a u known m)

with_ends-In : (l : Link) (known : List ℕ) (u : ℕ) → Ends u l → In u (with_ends l known)
unfolding with_ends
with_ends-In l known u (inl e) = rw e (insert_keeps l.b l.a (insert l.a known) (insert-In l.a known))
with_ends-In l known u (inr e) = rw e (insert-In l.b (insert l.a known))

with_ends_only : (l : Link) (known : List ℕ) (u : ℕ) → In u (with_ends l known) → Ends u l ⊎ In u known
unfolding with_ends
with_ends_only l known u m =
    ⊎_elim (λ e. inl (inr e)) (λ n. ⊎_elim (λ e. inl (inl e)) (λ k. inr k) (insert_only l.a u known n))
    (insert_only l.b u (insert l.a known) m)

pub with_ends-length : (l : Link) (known : List ℕ)
    → (length known ≤ length (with_ends l known)) × (length (with_ends l known) ≤ 2 + length known)
unfolding with_ends
with_ends-length l known = omega (arith, insert-length l.a known, insert-length l.b (insert l.a known))

-- none is lost, and a link brings in two at most
pub ases_from-length : (known : List ℕ) (ls : List Link)
    → (length known ≤ length (ases_from known ls)) × (length (ases_from known ls) ≤ length known + 2 * length ls)
unfolding ases_from
ases_from-length known [] = omega arith
ases_from-length known (l ∷ ls) = omega (arith, with_ends-length l known, ases_from-length (with_ends l known) ls)

pub ases_from-Ascending : (known : List ℕ) (ls : List Link) → Ascending known → Ascending (ases_from known ls)
unfolding ases_from
ases_from-Ascending known [] h = h
ases_from-Ascending known (l ∷ ls) h = ases_from-Ascending (with_ends l known) ls (with_ends-Ascending l known h)

pub ases_Ascending : (ls : List Link) → Ascending (ases_of ls)
ases_Ascending ls = ases_from-Ascending [] ls tt

pub ases_Distinct : (ls : List Link) → Distinct (ases_of ls)
ases_Distinct ls = Ascending-Distinct (ases_of ls) (ases_Ascending ls)

ases_from_keeps : (known : List ℕ) (ls : List Link) (u : ℕ) → In u known → In u (ases_from known ls)
unfolding ases_from
ases_from_keeps known [] u m = m
ases_from_keeps known (l ∷ ls) u m = ases_from_keeps (with_ends l known) ls u (with_ends_keeps l known u m)

ases_from-In : (known : List ℕ) (ls : List Link) (u : ℕ) (l : Link) → In l ls → Ends u l → In u (ases_from known ls)
unfolding ases_from
ases_from-In known [] u l x'' h = elim x'' [ ]
ases_from-In known (k ∷ ls) u l (inl e) h = ases_from_keeps (with_ends k known) ls u (with_ends-In k known u (rw e at h))
ases_from-In known (k ∷ ls) u l (inr m) h = ases_from-In (with_ends k known) ls u l m h

ases_from_only : (known : List ℕ) (ls : List Link) (u : ℕ) → In u (ases_from known ls) → In u known ⊎ ((l : Link) × In l ls × Ends u l)
unfolding ases_from
ases_from_only known [] u m = inl m
ases_from_only known (l ∷ ls) u m =
    ⊎_elim (λ n. ⊎_elim (λ e. inr (l, inl refl, e)) (λ k. inl k) (with_ends_only l known u n)) (λ f. inr (f.0, inr f.1, f.2))
    (ases_from_only (with_ends l known) ls u m)

pub ases_In : (ls : List Link) (u : ℕ) (l : Link) → In l ls → Ends u l → In u (ases_of ls)
ases_In ls u l m h = ases_from-In [] ls u l m h

pub ases_only : (ls : List Link) (u : ℕ) → In u (ases_of ls) → (l : Link) × In l ls × Ends u l
ases_only ls u m = ⊎_elim (λ n. absurd n) (λ f. f) (ases_from_only [] ls u m)
