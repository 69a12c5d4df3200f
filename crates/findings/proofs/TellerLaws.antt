-- Who tells and who hears over a link, by the places of its ends: words 2i and 2i + 1 are the places of a and b of link i.
use Prim.Native.Nat.{ℕ, ◌+◌, ◌*◌, ◌≤◌, ◌<◌}
use mathlib.Core.Path.{◌≡◌, refl, sym, ◌∙◌, ap}
use mathlib.Core.Logic.{inl, inr}
use mathlib.Core.List.{List}
use native.Mathlib.Omega.{arith}
use lib.ListN.{length, get_or}
use Rattle.rules.specs.declared.Link.{Link}
use Rattle.rules.specs.Lists.{In}
use Rattle.rules.specs.Network.{links_of, link_in_words}
use Rattle.rules.proofs.NetworkLaws.{ases_In}
use Rattle.network.proofs.PrefixLaws.{count}
use Rattle.offers.specs.Ways.{ends_of, index_in, places_of}
use Rattle.offers.proofs.PlaceLaws.{place-In, ends_at, places_at}
use Rattle.offers.proofs.WayLaws.{links_at, link_In}
use Rattle.findings.specs.declared.survey.Way.{Way}
use Rattle.findings.specs.declared.survey.Way.TheVariants.{Down, Up}
use Rattle.findings.specs.Flags.{ases_in, place}
use Rattle.findings.specs.Tellings.{teller, hearer}

-- two ASes at one place are one
pub place_one : (us : List ℕ) (x y : ℕ) → In x us → In y us → index_in us x ≡ index_in us y → x ≡ y
place_one us x y m n e = sym (place-In us x m).1 ∙ ap (λ (k : ℕ). get_or us k 0) e ∙ (place-In us y n).1

-- every AS has its place
pub place_below : (ws : List ℕ) (x : ℕ) → In x (ases_in ws) → place ws x < length (ases_in ws)
place_below ws x m = (place-In (ases_in ws) x m).0

-- both ends are ASes of the network
pub teller-In : (ws : List ℕ) (l : Link) (w : Way) → In l (links_of ws) → In (teller w l) (ases_in ws)
unfolding teller
teller-In ws l Down m = ases_In (links_of ws) l.a l m (inl refl)
teller-In ws l Up m = ases_In (links_of ws) l.b l m (inr refl)

pub hearer-In : (ws : List ℕ) (l : Link) (w : Way) → In l (links_of ws) → In (hearer w l) (ases_in ws)
unfolding hearer
hearer-In ws l Down m = ases_In (links_of ws) l.b l m (inr refl)
hearer-In ws l Up m = ases_In (links_of ws) l.a l m (inl refl)

-- the words of link i, in words ps that hold the places
module _ (ws ps : List ℕ) (i : ℕ) (p : ps ≡ places_of (ases_in ws) (links_of ws)) (h : 3 * i + 3 ≤ length ws) where
  pub place_a : get_or ps (2 * i) 0 ≡ place ws (link_in_words ws i).a
  place_a =
      let z : 2 * i ≡ 2 * i + 0 = omega arith in
      ap (λ (q : List ℕ). get_or q (2 * i) 0) p ∙ places_at (ases_in ws) (links_of ws) (2 * i) (omega (arith, count ws))
      ∙ ap (index_in (ases_in ws))
      (ap (λ (k : ℕ). get_or (ends_of (links_of ws)) k 0) z ∙ (ends_at (links_of ws) i).0 ∙ ap (λ (l : Link). l.a) (links_at ws i h))

  pub place_b : get_or ps (2 * i + 1) 0 ≡ place ws (link_in_words ws i).b
  place_b =
      ap (λ (q : List ℕ). get_or q (2 * i + 1) 0) p ∙ places_at (ases_in ws) (links_of ws) (2 * i + 1) (omega (arith, count ws))
      ∙ ap (index_in (ases_in ws)) ((ends_at (links_of ws) i).1 ∙ ap (λ (l : Link). l.b) (links_at ws i h))

  pub a_within : get_or ps (2 * i) 0 < length (ases_in ws)
  a_within = rw place_a (place_below ws (link_in_words ws i).a (ases_In (links_of ws) (link_in_words ws i).a (link_in_words ws i) (link_In ws i h) (inl refl)))

  pub b_within : get_or ps (2 * i + 1) 0 < length (ases_in ws)
  b_within = rw place_b (place_below ws (link_in_words ws i).b (ases_In (links_of ws) (link_in_words ws i).b (link_in_words ws i) (link_In ws i h) (inr refl)))

pub ruleset placed_ends = (place_a, place_b, a_within, b_within)
