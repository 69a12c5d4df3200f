-- What the loop of `to_words` uses of numbers and lists. The words after i links are those links' words, and the rest as they were; one link
-- more is `more_words` of the crate linktext.
use mathlib.Core.Path.{◌≡◌, refl, sym, ◌∙◌, ap}
use Prim.Native.Nat.{ℕ, suc, ◌+◌, ◌*◌, ◌<◌, ◌≤◌}
use native.Mathlib.Omega.{arith}
use native.Mathlib.Nat.{le_of_lt}
use native.Mathlib.Numerals.{add-one}
use mathlib.Core.List.{List, ◌++◌}
use lib.ListN.{length, get_or, take, drop, length-append, length-drop}
use lib.Seq.{take-suc, length-take-le}
use Rattle.rules.specs.declared.Link.{Link}
use Rattle.rules.specs.Network.{flat}
use Rattle.rules.proofs.NetworkLaws.{flat-length}
use Rattle.network.specs.Promises.{with_link}
use Rattle.linktext.proofs.ScratchLaws.{more_words}

-- what stands past the end of a list of links
abbrev pub no_link : Link
no_link = record { a = 0; b = 0; relation = 0 }

abbrev pub part : List Link → List ℕ → ℕ → List ℕ
part ys ws i = flat (take i ys) ++ drop (3 * i) ws

module _ (ys : List Link) (ws : List ℕ) (fits : 3 * length ys ≤ length ws) where
  pub part_length : (i : ℕ) → i ≤ length ys → length (part ys ws i) ≡ length ws
  part_length i l =
      omega (arith, length-append (flat (take i ys)) (drop (3 * i) ws), flat-length (take i ys), length-take-le i ys l, length-drop (3 * i) ws)

  pub part-suc : (i : ℕ) → i < length ys → with_link (part ys ws i) i (get_or ys i no_link) ≡ part ys ws (suc i)
  part-suc i l =
      more_words (take i ys) (get_or ys i no_link) ws (part ys ws i) i (length-take-le i ys (le_of_lt l)) (omega arith) (part_length i (le_of_lt l)) refl
      ∙ ap (λ (us : List Link). flat us ++ drop (3 * (i + 1)) ws) (sym (take-suc ys i no_link l))
      ∙ ap (λ (k : ℕ). flat (take (suc i) ys) ++ drop (3 * k) ws) (add-one i)
