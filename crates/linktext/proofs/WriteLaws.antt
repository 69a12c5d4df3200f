-- One turn of each loop over the links: what is left of a definition from link i on, and from link i + 1 on.
use Prim.Native.Nat.{ℕ, zero, suc, ◌+◌, ◌/◌, ◌%◌, ◌≤◌, ◌<◌}
use mathlib.Core.Path.{◌≡◌, ◌∙◌, sym, ap}
use mathlib.Core.List.{List, [], ◌++◌}
use native.Mathlib.Numerals.{add-one}
use native.Mathlib.Omega.{arith}
use lib.ListN.{length, length-append}
use borrow.Author.Tests.{lt-ltb, le-ltb, eq-eqb, ne_eqb}
use Rattle.std.specs.Prelude.{Err, Ok, sum_by}
use Rattle.std.specs.List.{range_with_len}
use Rattle.std.proofs.lemmas.List.Sums.{sum_by-cons}
use Rattle.rules.specs.declared.Limits.{Limits}
use Rattle.rules.specs.declared.Refusal.TheVariants.{OverLimit}
use Rattle.rules.specs.Network.{links_of, link_in_words}
use Rattle.linktext.specs.Texts.{line_text, text_of, fault_of_relations, fault_of_text}
use Rattle.network.specs.Prefix.{links_from}
use Rattle.network.proofs.PrefixLaws.{count, links_next, links_end}

-- ---- the first link without a relation

pub fault_later : (ws : List ℕ) (i : ℕ) → i < length ws / 3 → (link_in_words ws i).relation ≤ 1
    → fault_of_relations i (links_from ws i) ≡ fault_of_relations (i + 1) (links_from ws (i + 1))
unfolding fault_of_relations
fault_later ws i h b = ap (fault_of_relations i) (links_next ws i (omega arith)) ∙ simp (le-ltb 1 (link_in_words ws i).relation b, add-one i)

pub fault_none : (ws : List ℕ) (i : ℕ) → length ws / 3 ≤ i → fault_of_relations i (links_from ws i) ≡ Ok tt
unfolding fault_of_relations
fault_none ws i h = ap (fault_of_relations i) (links_end ws i h)

-- ---- the text

pub text_next : (ws : List ℕ) (i : ℕ) → i < length ws / 3 → text_of (links_from ws i) ≡ line_text (link_in_words ws i) ++ text_of (links_from ws (i + 1))
unfolding text_of
text_next ws i h = ap text_of (links_next ws i (omega arith))

pub text_none : (ws : List ℕ) (i : ℕ) → length ws / 3 ≤ i → text_of (links_from ws i) ≡ []
unfolding text_of
text_none ws i h = ap text_of (links_end ws i h)

pub length_next : (ws : List ℕ) (i : ℕ) → i < length ws / 3
    → length (text_of (links_from ws i)) ≡ length (line_text (link_in_words ws i)) + length (text_of (links_from ws (i + 1)))
length_next ws i h = ap length (text_next ws i h) ∙ length-append (line_text (link_in_words ws i)) (text_of (links_from ws (i + 1)))

-- the bytes of the line of link i, and of n lines from link i on
abbrev pub length_at : List ℕ → ℕ → ℕ
length_at ws i = length (line_text (link_in_words ws i))

lengths_from : (ws : List ℕ) (i n : ℕ) → i + n ≡ length ws / 3 → sum_by (length_at ws) (range_with_len i n) ≡ length (text_of (links_from ws i))
lengths_from ws i zero h = sym (ap length (text_none ws i (omega arith)))
lengths_from ws i (suc n) h =
    sum_by-cons (length_at ws) i (range_with_len (i + 1) n)
    ∙ ap (λ (k : ℕ). length_at ws i + k) (lengths_from ws (i + 1) n (omega arith))
    ∙ sym (length_next ws i (omega arith))

pub lengths_all : (ws : List ℕ) → sum_by (length_at ws) (range_with_len 0 (length ws / 3)) ≡ length (text_of (links_of ws))
lengths_all ws = lengths_from ws 0 (length ws / 3) (omega arith)

-- ---- the number of words, and then the first link without a relation

pub fault_ragged : (limits : Limits) (ws : List ℕ) → (length ws % 3 ≡ 0 → ⊥) → fault_of_text limits ws ≡ Err OverLimit
unfolding fault_of_text
fault_ragged limits ws h = simp (ne_eqb (length ws % 3) 0 h)

pub fault_many : (limits : Limits) (ws : List ℕ) → length ws % 3 ≡ 0 → limits.links < length ws / 3 → fault_of_text limits ws ≡ Err OverLimit
unfolding fault_of_text
fault_many limits ws h b = simp (eq-eqb (length ws % 3) 0 h, count ws, lt-ltb limits.links (length ws / 3) b)

pub fault_links : (limits : Limits) (ws : List ℕ) → length ws % 3 ≡ 0 → length ws / 3 ≤ limits.links
    → fault_of_text limits ws ≡ fault_of_relations 0 (links_of ws)
unfolding fault_of_text
fault_links limits ws h b = simp (eq-eqb (length ws % 3) 0 h, count ws, le-ltb limits.links (length ws / 3) b)
