-- `text::read`: what is read into the words are the links of the text, or the text is refused.
use Rattle.std.proofs.Common.{◌≡◌, refl, sym, subst, rules, arith, List, ℕ, Bor, MatchResult}
use Rattle.std.specs.Prelude.{Err, Result}
use Rattle.rules.specs.declared.Refusal.{Refusal}
use Rattle.rules.specs.Checks.{base_limits}
use Rattle.linktext.specs.TextNetworks.{fault_of_network}
use Rattle.storefront.specs.Steps.{Given}
use Rattle.storefront.proofs.ReadLaws.{read_links, read_refused}
use Rattle.storefront.proofs.text.read.Goals as goal

pub overflow_mul-result : goal.overflow_mul-result
overflow_mul-result c = omega (arith, (read_links _ _ _ c.in_ok-links.ensures _ refl).within)

pub shared_ref_as_front-result : goal.shared_ref_as_front-result
shared_ref_as_front-result c = omega (arith, (read_links _ _ _ c.in_ok-links.ensures _ refl).within)

pub returns-in_err-links : goal.returns-in_err-links
returns-in_err-links c =
    let t = c.args.text.now in
    let passed : c.from_residual.result ≡ Err c.in_err-links.field-0.0 = search rules in
    subst (λ (r : Result (Bor (List ℕ)) Refusal). MatchResult r (λ ws. Given t ws.now) (λ why. fault_of_network base_limits t ≡ Err why)) (sym passed)
    (read_refused _ _ _ c.in_err-links.ensures _ refl)

pub returns : goal.returns
returns c = (read_links _ _ _ c.in_ok-links.ensures _ refl).given
