-- The promise leaves nothing open: two answers to one input agree in the reply and in every byte and word.
use Prim.Native.Nat.{ℕ}
use mathlib.Core.Path.{◌≡◌, sym, ◌∙◌}
use mathlib.Core.List.{List}
use Rattle.rules.specs.declared.Limits.{Limits}
use Rattle.report.specs.Entries.{Reported}

pub Reported-once : {limits : Limits} {t room out : List ℕ} {r s : ℕ} {room' out' room'' out'' : List ℕ}
    → Reported limits t room out r room' out' → Reported limits t room out s room'' out'' → (r ≡ s) × (room' ≡ room'') × (out' ≡ out'')
Reported-once a b = (a.replies ∙ sym b.replies, a.zeroed ∙ sym b.zeroed, a.written ∙ sym b.written)
