-- The entry's reply and what it leaves, by its three cases: a refusal of the words, too little room, and the text.
use Prim.Native.Nat.{ℕ, ◌%◌, ◌≤◌}
use mathlib.Core.Path.{◌≡◌, sym}
use mathlib.Core.List.{List}
use lib.Dec.{ltb, eqb}
use lib.ListN.{length}
use lib.Seq.{sets}
use borrow.Author.Tests.{le-ltb, ltb-false}
use Rattle.std.specs.Prelude.{Ok}
use Rattle.rules.specs.Replies.{Verdict}
use Rattle.rules.specs.declared.Limits.{Limits}
use Rattle.rules.specs.Network.{links_of}
use Rattle.rules.proofs.Tests.{by_cond, clash}
use Rattle.rules.proofs.StoreLaws.{sets_front}
use Rattle.linktext.specs.Texts.{fault_of_relations, fault_of_text}
use Rattle.linktext.specs.Entries.{fitted, room_fault, filled}

-- ---- room

pub fitted_room : (room need value : ℕ) → need ≤ room → fitted room need value ≡ Ok value
fitted_room room need value h = simp (le-ltb room need h)

pub room_fits : (room need : ℕ) → Ok tt ≡ room_fault room need → need ≤ room
room_fits room need =
    by_cond (λ (v : Verdict). Ok tt ≡ v → need ≤ room) (ltb room need) _ _ (λ b e. clash (cc)) (λ b e. ltb-false room need b)

pub filled_room : (out old : List ℕ) → length out ≤ length old → filled out old ≡ sets old 0 out
filled_room out old h = simp (le-ltb (length old) (length out) h) (sym (sets_front out old h))

-- ---- the words

record Passed (limits : Limits) (ws : List ℕ) : Type 0 where
  count : length (links_of ws) ≤ limits.links
  relations : fault_of_relations 0 (links_of ws) ≡ Ok tt

passed : (limits : Limits) (ws : List ℕ) → fault_of_text limits ws ≡ Ok tt → Passed limits ws
unfolding fault_of_text
passed limits ws =
    by_cond (λ (v : Verdict). v ≡ Ok tt → Passed limits ws) (eqb (length ws % 3) 0) _ _
    (λ d. by_cond (λ (v : Verdict). v ≡ Ok tt → Passed limits ws) (ltb limits.links (length (links_of ws))) _ _ (λ b e. clash (cc))
    (λ b e. record { count = ltb-false limits.links (length (links_of ws)) b; relations = e }))
    (λ d e. clash (cc))

pub passes_count : (limits : Limits) (ws : List ℕ) → fault_of_text limits ws ≡ Ok tt → length (links_of ws) ≤ limits.links
passes_count limits ws e = (passed limits ws e).count

pub passes_relations : (limits : Limits) (ws : List ℕ) → fault_of_text limits ws ≡ Ok tt → fault_of_relations 0 (links_of ws) ≡ Ok tt
passes_relations limits ws e = (passed limits ws e).relations
