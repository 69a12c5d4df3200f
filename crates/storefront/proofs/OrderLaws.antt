-- Refusals in order. The working room always suffices where the links are accepted, so that its refusal never comes; and every place
-- that an entry refuses at fits.
use Prim.Native.Nat.{ℕ, ◌+◌, ◌*◌, ◌≤◌}
use mathlib.Core.Path.{◌≡◌, ◌∙◌, ap}
use mathlib.Core.Bool.{◌&&◌}
use mathlib.Core.List.{List}
use native.Mathlib.Omega.{arith}
use lib.Dec.{leb, eqb}
use lib.ListN.{length}
use borrow.Author.Tests.{le-leb, leb-true}
use Rattle.std.specs.Prelude.{Ok}
use Rattle.rules.specs.declared.Refusal.TheVariants.{OverLimit, NoDestination, OutputShort}
use Rattle.rules.specs.Lists.{any_of}
use Rattle.rules.specs.Network.{links_of, ases_of}
use Rattle.rules.specs.Checks.{base_limits, needed_room}
use Rattle.rules.specs.Entry.{unless, fault_of_links, fault_of_destination, fault_of_output, fault_of_room}
use Rattle.rules.proofs.Tests.{and_left, and_right}
use Rattle.rules.proofs.AcceptedLinks.{links_accepted, links_few}
use Rattle.rules.proofs.VerdictLaws.{test_passes}
use Rattle.rules.proofs.RefusalPlaces.{then_Below}
use Rattle.rules.specs.declared.Link.{Link}
use Rattle.rules.specs.Network.{flat}
use Rattle.rules.specs.Entry.{verdict_of}
use Rattle.rules.proofs.NetworkLaws.{links_of-flat}
use Rattle.rules.proofs.VerdictLaws.{both_pass}
use Rattle.linktext.specs.Texts.{text_in}
use Rattle.linktext.specs.TextNetworks.{fault_of_text, links_of_text, fault_of_network}
use Rattle.linktext.proofs.RefusalPlaces.{network_Below}
use Rattle.linktext.proofs.WordNetworks.{check_flat}
use Rattle.sheet.specs.Form.{fault_of_form, destination_of, lines_of}
use Rattle.storefront.specs.Page.{fault_of_sheet, fault_of_judging, fault_of_run, fault_of_page}
use Rattle.storefront.specs.Steps.{room_words}
use Rattle.storefront.proofs.PlaceLaws.{Fits, unless-Fits, links_fit, form_Fits, judge-Fits, choices_fit}

-- the parts of an entry's verdict
output_Fits : (need have : ℕ) → Fits (fault_of_output need have)
output_Fits need have = unless-Fits (leb need have) OutputShort (omega arith)

destination_Fits : (d : ℕ) (us : List ℕ) → Fits (fault_of_destination d us)
destination_Fits d us = unless-Fits (any_of (eqb d) us) NoDestination (omega arith)

module _ (ws : List ℕ) where
  abbrev us : List ℕ
  us = ases_of (links_of ws)

  abbrev need : ℕ
  need = needed_room (length (links_of ws)) (length us)

  module _ (e : fault_of_links base_limits ws ≡ Ok tt) where
    pub few_ases : length us ≤ 512
    few_ases = links_few base_limits ws e

    -- 'so the program's own working room of 16,384 words always suffices'
    pub room_suffices : fault_of_room need room_words ≡ Ok tt
    room_suffices = rw (le-leb need room_words (omega (arith, few_ases, (links_accepted base_limits ws e).2.few_links)))

  pub page_Fits : (d table : ℕ) → Fits (fault_of_page base_limits ws d table)
  unfolding fault_of_page
  page_Fits d table =
      then_Below 268435456 (fault_of_links base_limits ws) _ (links_fit ws)
      (λ links. then_Below 268435456 (fault_of_destination d us) _ (destination_Fits d us) (λ named. output_Fits (4 * length us) table))

module _ (t : List ℕ) where
  abbrev ls : List Link
  ls = links_of_text base_limits t

  pub text_fits : Fits (fault_of_network base_limits t)
  text_fits = network_Below 268435456 base_limits t (omega arith) (omega arith)

  text_few : fault_of_network base_limits t ≡ Ok tt → length (ases_of ls) ≤ 512
  unfolding fault_of_network
  text_few e =
      let checked = (both_pass (fault_of_text (text_in base_limits t)) _ e).1 in
      rw links_of-flat at (links_few base_limits (flat ls) (ap verdict_of (check_flat base_limits ls) ∙ checked))

  pub sheet_Fits : (d room : ℕ) → Fits (fault_of_sheet base_limits t d room)
  unfolding fault_of_sheet
  sheet_Fits d room =
      then_Below 268435456 (fault_of_network base_limits t) _ text_fits
      (λ read. then_Below 268435456 (fault_of_destination d (ases_of ls)) _ (destination_Fits d (ases_of ls)) (λ named. output_Fits (10 + 11 * length (ases_of ls)) room))

  pub judging_Fits : (s : List ℕ) → Fits (fault_of_judging base_limits 511 t s)
  unfolding fault_of_judging
  judging_Fits s =
      let small = leb (length t) 65536 && leb (length s) 65536 in
      then_Below 268435456 (unless small OverLimit) _ (unless-Fits small OverLimit (omega arith))
      (λ size. then_Below 268435456 (fault_of_network base_limits t) _ text_fits
      (λ read. then_Below 268435456 (fault_of_form s) _
      (form_Fits s (leb-true (length s) 65536 (and_right (leb (length t) 65536) (leb (length s) 65536) (test_passes small (Ok tt) OverLimit size).0)))
      (λ form. then_Below 268435456 (fault_of_destination (destination_of s) (ases_of ls)) _ (destination_Fits (destination_of s) (ases_of ls))
      (λ named. judge-Fits ls (destination_of s) 511 (lines_of s) (text_few read)))))

  pub run_Fits : (d : ℕ) (cs : List ℕ) (n table : ℕ) → Fits (fault_of_run base_limits t d cs n table)
  unfolding fault_of_run
  run_Fits d cs n table =
      let small = leb (length t) 65536 && leb (length cs) 65536 && leb n 65536 in
      then_Below 268435456 (unless small OverLimit) _ (unless-Fits small OverLimit (omega arith))
      (λ size. then_Below 268435456 (fault_of_network base_limits t) _ text_fits
      (λ read. then_Below 268435456 (fault_of_destination d (ases_of ls)) _ (destination_Fits d (ases_of ls))
      (λ named. then_Below 268435456 (fault_of_output (4 * length (ases_of ls)) table) _ (output_Fits (4 * length (ases_of ls)) table)
      (λ output. choices_fit (2 * length ls) 0 cs
      (omega (
        arith,
        leb-true (length cs) 65536 (and_right (leb (length t) 65536) (leb (length cs) 65536)
            (and_left (leb (length t) 65536 && leb (length cs) 65536) (leb n 65536) (test_passes small (Ok tt) OverLimit size).0)),
      ))))))
