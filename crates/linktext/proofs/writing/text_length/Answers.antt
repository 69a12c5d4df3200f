-- The sum over the links is the length of the text (`lengths_all`).
use Rattle.std.proofs.Common.{rules, tests, ◌/◌, ◌∙◌, arith, length, refl}
use Rattle.std.proofs.lemmas.Iterator.{YieldsList-from_range, YieldsList-from_map}
use Rattle.std.proofs.lemmas.Iterator.Consumers.{YieldsList-at, sum_by_from_yields_List, fits_by_from_yields_list}
use Rattle.linktext.proofs.TextLaws.{text_bound}
use Rattle.linktext.proofs.WriteLaws.{length_at, lengths_all}
use Rattle.rules.specs.Network.{links_of}
use Rattle.linktext.proofs.writing.text_length.Goals as goal

pub sum-requires-clause-fits : goal.sum-requires-clause-fits
sum-requires-clause-fits c =
    let ws = c.args.words.now in
    fits_by_from_yields_list _ _ c.map.result _
    (YieldsList-from_map _ (length_at ws) (YieldsList-at c.map.ensures.source (YieldsList-from_range 0 (length ws / 3) (length ws / 3) refl (omega arith))) c.map.ensures.closure (λ x r q k. search (rules, tests)))
    (omega (arith, lengths_all ws, text_bound (links_of ws)))

pub returns : goal.returns
returns c =
    let ws = c.args.words.now in
    sum_by_from_yields_List _ _ c.map.result _ c.sum.ensures.ran
    (YieldsList-from_map _ (length_at ws) (YieldsList-at c.map.ensures.source (YieldsList-from_range 0 (length ws / 3) (length ws / 3) refl (omega arith))) c.map.ensures.closure (λ x r q k. search (rules, tests)))
    ∙ lengths_all ws
