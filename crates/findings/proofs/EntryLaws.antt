-- The entry: what an accepted list is, and the replies in the order of the definition.
use Prim.Native.Nat.{ℕ, ◌+◌, ◌*◌, ◌/◌, ◌≤◌, ◌<◌}
use mathlib.Core.Path.{◌≡◌, ◌∙◌, ap}
use mathlib.Core.List.{List, [], ◌++◌}
use native.Mathlib.Omega.{arith}
use lib.ListN.{length, replicate, drop}
use Rattle.std.proofs.lemmas.List.{append-nil, drop_all}
use borrow.Author.Tests.{le-leb, lt-leb}
use Rattle.std.specs.Prelude.{Err, Ok, Result}
use Rattle.rules.specs.declared.Refusal.{Refusal}
use Rattle.rules.specs.declared.Refusal.TheVariants.{RoomShort}
use Rattle.rules.specs.Network.{links_of}
use Rattle.rules.specs.Findings.{ringed, joined}
use Rattle.rules.specs.Checks.{base_limits, check_words, needed_room}
use Rattle.rules.specs.Entry.{and_then, verdict_of, fault_of_room}
use Rattle.rules.proofs.AcceptedLinks.{check_words-Accepted}
use Rattle.network.proofs.PrefixLaws.{count}
use Rattle.offers.specs.Ways.{places_of}
use Rattle.offers.specs.Placing.{with_places}
use Rattle.offers.proofs.PlaceLaws.{places_length}
use Rattle.findings.specs.Entries.{fault_of_findings, findings_reply, final_room}
use Rattle.findings.specs.Flags.{ases_in}
use Rattle.findings.specs.Peelings.{RingsLeft}
use Rattle.findings.specs.Joinings.{Everybody}
use Rattle.findings.proofs.RingLaws.{reaches_as}

-- everybody is left, who is on a ring too
pub rings_start : (ws t : List ℕ) → Everybody ws t → RingsLeft ws t
rings_start ws t h x k e = h x (reaches_as (links_of ws) k x x e)

-- the places of the ends, in just as many words
pub placed_whole : (ws t : List ℕ) → length t ≡ 2 * (length ws / 3) → with_places (links_of ws) t ≡ places_of (ases_in ws) (links_of ws)
placed_whole ws t e =
    let none : drop (2 * length (links_of ws)) t ≡ [] = drop_all (2 * length (links_of ws)) t (omega (arith, count ws)) in
    ap (λ (r : List ℕ). places_of (ases_in ws) (links_of ws) ++ r) none ∙ append-nil (places_of (ases_in ws) (links_of ws))

pub placed_long : (ws t : List ℕ) → t ≡ places_of (ases_in ws) (links_of ws) → length t ≡ 2 * (length ws / 3)
placed_long ws t e = omega (arith, ap length e, count ws, places_length (ases_in ws) (links_of ws))

-- What an accepted list is ------------------------------------------------------------------------------------------------

module _ (ws : List ℕ) (n : ℕ) (e : check_words base_limits ws ≡ Ok n) where
  pub ases_counted : n ≡ length (ases_in ws)
  ases_counted = let (w, a) = check_words-Accepted base_limits ws n e in a.count

  pub ases_few : n ≤ 512
  ases_few = let (w, a) = check_words-Accepted base_limits ws n e in omega (arith, a.few_ases)

  pub links_few : length ws ≤ 4608
  links_few = let (w, a) = check_words-Accepted base_limits ws n e in omega (arith, a.few_links, count ws)

  pub links_counted : length (links_of ws) ≡ length ws / 3
  links_counted = count ws

  -- Replies ---------------------------------------------------------------------------------------------------------------

  fault_is : (have : ℕ) → fault_of_findings base_limits ws have ≡ fault_of_room (needed_room (length (links_of ws)) (length (ases_in ws))) have
  unfolding fault_of_findings
  fault_is have = ap (λ (d : Result ℕ Refusal). and_then (verdict_of d) (fault_of_room (needed_room (length (links_of ws)) (length (ases_in ws))) have)) e

  module _ (t : List ℕ) where
    pub short_reply : length t < 8 * (length ws / 3) + 8 * n → Err RoomShort ≡ findings_reply base_limits ws (length t)
    unfolding findings_reply
    short_reply l =
        let k : length t < needed_room (length (links_of ws)) (length (ases_in ws)) = omega (arith, count ws, ases_counted) in
        rw (fault_is (length t), lt-leb _ (length t) k)

    pub short_room : length t < 8 * (length ws / 3) + 8 * n → t ≡ final_room base_limits ws t
    unfolding final_room
    short_room l =
        let k : length t < needed_room (length (links_of ws)) (length (ases_in ws)) = omega (arith, count ws, ases_counted) in
        rw (fault_is (length t), lt-leb _ (length t) k)

    pub found_reply : 8 * (length ws / 3) + 8 * n ≤ length t
        → findings_reply base_limits ws (length t) ≡ Ok (record { ring = ringed (links_of ws); joined = joined (links_of ws) })
    unfolding findings_reply
    found_reply l =
        let k : needed_room (length (links_of ws)) (length (ases_in ws)) ≤ length t = omega (arith, count ws, ases_counted) in
        rw (fault_is (length t), le-leb _ (length t) k)

    pub found_room : 8 * (length ws / 3) + 8 * n ≤ length t → final_room base_limits ws t ≡ replicate (length t) 0
    unfolding final_room
    found_room l =
        let k : needed_room (length (links_of ws)) (length (ases_in ws)) ≤ length t = omega (arith, count ws, ases_counted) in
        rw (fault_is (length t), le-leb _ (length t) k)

module _ (ws t : List ℕ) (r : Refusal) (e : check_words base_limits ws ≡ Err r) where
  pub refused_reply : findings_reply base_limits ws (length t) ≡ Err r
  unfolding findings_reply fault_of_findings
  refused_reply = rw e

  pub refused_room : final_room base_limits ws t ≡ t
  unfolding final_room fault_of_findings
  refused_room = rw e

pub ruleset accepted = (placed_whole, placed_long, ases_counted, ases_few, links_few, links_counted)

pub ruleset replies = (short_reply, short_room, found_reply, found_room, refused_reply, refused_room)

pub ruleset starts = (rings_start)
