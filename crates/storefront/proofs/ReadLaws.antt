-- A text read into words: the words hold the text's links, so what is checked of the one is checked of the other.
use Prim.Native.Nat.{ℕ, ◌*◌}
use mathlib.Core.Path.{◌≡◌}
use mathlib.Core.List.{List}
use Rattle.std.specs.Prelude.{Err, Ok, Result}
use Rattle.rules.specs.declared.Refusal.{Refusal}
use Rattle.rules.specs.Checks.{base_limits}
use Rattle.linktext.specs.Texts.{text_in}
use Rattle.linktext.specs.TextNetworks.{fault_of_network}
use Rattle.linktext.specs.Scratch.{ReadInto}
use Rattle.linktext.proofs.ScratchLaws.{got, lost}
use Rattle.linktext.proofs.WordNetworks.{got_links, got_fault, lost_fault}
use Rattle.storefront.specs.Steps.{ReadList}

module _ (t old ws : List ℕ) {r : Result ℕ Refusal} (into : ReadInto (text_in base_limits t) old ws r) where
  pub read_links : (m : ℕ) → r ≡ Ok m → ReadList t (3 * m) ws
  read_links m e =
      let g = got (text_in base_limits t) old ws r m into e in
      record { within = g.room; given = record { links = got_links base_limits t g; fault = got_fault base_limits t g } }

  pub read_refused : (why : Refusal) → r ≡ Err why → fault_of_network base_limits t ≡ Err why
  read_refused why e = lost_fault base_limits t (lost (text_in base_limits t) old ws r why into e)
