-- A memory of ASes that were met: what its slots hold stays in a list that grows, and so does an AS that is put into a slot and into the
-- list. A slot holds what was put there last or what it held before.
use Rattle.std.proofs.Common.{◌≡◌, ℕ, zero, suc, ◌⊎◌, List, [], ◌∷◌, set, replicate, sym, refl, ◌∙◌, subst, inl, inr, ⊎_elim}
use Rattle.rules.specs.Lists.{In}
use Rattle.rules.specs.Network.{insert}
use Rattle.rules.proofs.Ascending.{insert-In, insert_keeps}
use Rattle.network.specs.Slots.{slot}
use Rattle.network.specs.Gathering.{Met}
use Rattle.network.proofs.SlotLaws.{slot_none}

pub Met-none : (n : ℕ) (known : List ℕ) → Met (replicate n 0) known
Met-none n known = record { only = λ s ns. absurd (ns (slot_none n s)) }

new_or_old : (t : List ℕ) (r v s : ℕ) → (slot (set t r v) s ≡ v) ⊎ (slot (set t r v) s ≡ slot t s)
new_or_old [] r v s = inr refl
new_or_old (y ∷ t) zero v zero = inl refl
new_or_old (y ∷ t) zero v (suc s) = inr refl
new_or_old (y ∷ t) (suc r) v zero = inr refl
new_or_old (y ∷ t) (suc r) v (suc s) = new_or_old t r v s

pub Met-put : {t known : List ℕ} → Met t known → (r x : ℕ) → Met (set t r x) (insert x known)
Met-put {t} {known} m r x = record {
  only = λ s ns. ⊎_elim
      (λ e. subst (λ (y : ℕ). In y (insert x known)) (sym e) (insert-In x known))
      (λ e. subst (λ (y : ℕ). In y (insert x known)) (sym e) (insert_keeps x (slot t s) known (m.only s (λ z. ns (e ∙ z)))))
      (new_or_old t r x s);
}
