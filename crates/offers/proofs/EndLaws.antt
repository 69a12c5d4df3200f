-- The places of the ends, one link after the other: what a search says of an AS that is there, and two words more after those of the
-- links before.
use Prim.Native.Nat.{ℕ, zero, suc, ◌+◌, ◌*◌, ◌≤◌, ◌<◌}
use mathlib.Core.Path.{◌≡◌, refl, sym, ◌∙◌, ap, subst}
use mathlib.Core.List.{List, [], ◌∷◌, ◌++◌}
use native.Mathlib.Omega.{arith}
use lib.ListN.{length, get_or, take, drop}
use lib.Seq.{length-take-le, take-length}
use Rattle.std.specs.Prelude.{Option, Some, None, IsSome}
use Rattle.rules.specs.declared.Link.{Link}
use Rattle.rules.specs.Lists.{In}
use Rattle.rules.specs.Ascending.{Ascending}
use Rattle.rules.specs.Network.{links_of, link_in_words, ases_of}
use Rattle.rules.proofs.NetworkLaws.{Ends, ases_Ascending, ases_Distinct, ases_In}
use Rattle.network.specs.Promises.{Stands}
use Rattle.network.proofs.PrefixLaws.{count}
use Rattle.offers.specs.Ways.{ends_of, index_in, places_of, no_link}
use Rattle.offers.specs.Placing.{put_ends, with_places}
use Rattle.offers.proofs.PlaceLaws.{place-In, place_at, places_length}
use Rattle.offers.proofs.WayLaws.{link_In}
use Rattle.offers.proofs.FillLaws.{fill_two}

-- What a search says ------------------------------------------------------------------------------------------------------

pub searchable : (ls : List Link) {us : List ℕ} → us ≡ ases_of ls → Ascending (take (length us) us)
searchable ls {us} listed = rw (take-length us, listed) (ases_Ascending ls)

-- what stands at a place stands nowhere else
pub only_place : (ls : List Link) {us : List ℕ} → us ≡ ases_of ls → (i : ℕ) {x : ℕ} → i < length us → get_or us i 0 ≡ x → i ≡ index_in us x
only_place ls {us} listed i h e = sym (place_at us (rw listed (ases_Distinct ls)) i h) ∙ ap (index_in us) e

-- an AS that is there is found
pub found : (us : List ℕ) (x : ℕ) → In x us → (r : Option ℕ) → Stands us (length us) x r → IsSome r
found us x m (Some i) s = refl
found us x m None s = let p = place-In us x m in absurd (s (index_in us x) p.0 p.1)

-- and at its place
pub found_place : (ls : List Link) {us : List ℕ} → us ≡ ases_of ls → (x : ℕ) {i : ℕ} {r : Option ℕ} → Stands us (length us) x r → r ≡ Some i → i ≡ index_in us x
found_place ls {us} listed x {i} s e = let p = subst (Stands us (length us) x) e s in only_place ls listed i p.0 p.1

-- the ends of the links are among the ASes
pub ends_In : (ws : List ℕ) {us : List ℕ} → us ≡ ases_of (links_of ws) → (i : ℕ) {x : ℕ} → i < length (links_of ws) → Ends x (link_in_words ws i) → In x us
ends_In ws listed i {x} h e = rw listed (ases_In (links_of ws) x (link_in_words ws i) (link_In ws i (omega (arith, count ws))) e)

-- One link more -------------------------------------------------------------------------------------------------------------

places_more : (us : List ℕ) (ls : List Link) (i : ℕ) → i < length ls
    → places_of us (take (suc i) ls) ≡ places_of us (take i ls) ++ (index_in us (get_or ls i no_link).a ∷ index_in us (get_or ls i no_link).b ∷ [])
unfolding places_of ends_of
places_more us [] i h = absurd (omega arith)
places_more us (l ∷ ls) zero h = refl
places_more us (l ∷ ls) (suc i) h =
    ap (λ (t : List ℕ). index_in us l.a ∷ index_in us l.b ∷ t) (places_more us ls i (omega arith))

-- after i links
pub record EndsAt (ls : List Link) (i : ℕ) (old new : List ℕ) : Type 0 where
  pub words : new ≡ places_of (ases_of ls) (take i ls) ++ drop (2 * i) old

module _ {ls : List Link} {i : ℕ} {old new : List ℕ} (e : EndsAt ls i old new) (room : 2 * length ls ≤ length old) where
  pub ends_all : i ≡ length ls → new ≡ with_places ls old
  ends_all h = e.words ∙ rw h (ap (λ (ks : List Link). places_of (ases_of ls) ks ++ drop (2 * length ls) old) (take-length ls))

  pub ends_more : i < length ls → (l : Link) → l ≡ get_or ls i no_link → EndsAt ls (i + 1) old (put_ends (ases_of ls) new i l)
  ends_more h l is =
      let us = ases_of ls in
      let f : suc i ≡ i + 1 = omega arith in
      let g : 2 * suc i ≡ 2 * i + 2 = omega arith in
      let long = places_length us (take i ls) ∙ ap (λ (n : ℕ). 2 * n) (length-take-le i ls (omega arith)) in
      let t = fill_two (places_of us (take i ls)) old (2 * i) long (index_in us l.a) (index_in us l.b) (omega arith) in
      record {
        words =
            ap (λ (q : List ℕ). put_ends us q i l) e.words ∙ t
            ∙ rw (← f, g, is, places_more us ls i h);
      }

pub ends_none : (ls : List Link) (old : List ℕ) → EndsAt ls 0 old old
unfolding places_of ends_of
ends_none ls old = record { words = refl }
