use Rattle.std.proofs.Common.{◌≡◌, ◌∙◌, rules, sym, refl, arith}
use Rattle.rules.specs.Network.{links_of, ases_of}
use Rattle.rules.specs.Stable.{lost}
use Rattle.network.proofs.PrefixLaws.{count}
use Rattle.offers.specs.Lines.{number_word}
use Rattle.offers.proofs.PassLaws.{heard_none, heard_all}
use Rattle.offers.proofs.elect_links.Goals as goal

pub loop-i-init : goal.loop-i-init
unfolding lost
loop-i-init c =
    heard_none c.requires.0
    (c.lay_entries.ensures (ases_of (links_of c.args.words.now)) lost
    (record {
      count = sym c.requires.0.count;
      number = λ i e h p. let is : e.0 ≡ number_word c.args.told.now i = search rules in is ∙ c.requires.0.numbers i h;
      pair = λ i e h p. search rules;
      next = λ i e h p. refl;
    }))

pub returns : goal.returns
returns c = heard_all c.loop-i.invariant c.requires.0 (omega (arith, count c.args.words.now))
