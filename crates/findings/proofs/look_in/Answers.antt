-- The first words of the room are the places, and the links are accepted.
use Rattle.std.proofs.Common.{◌≡◌, ◌∙◌, sym, ◌≤◌, length, length-take, arith, ◌*◌, ◌/◌}
use Rattle.findings.proofs.EntryLaws.{placed_whole, ases_counted, ases_few, links_few}
use Rattle.findings.proofs.look_in.Goals as goal

pub invariant_of-survey : goal.invariant_of-survey
invariant_of-survey c =
    let ws = c.args.network.words.now in
    let ok = c.args.network.accepted in
    let long : length c.split_at_mut-places.result.0.now ≡ 2 * (length ws / 3) = omega (arith, c.split_at_mut-places.ensures.front_len, c.links.ensures) in
    record {
      placed = c.place_ends.ensures ∙ placed_whole ws c.split_at_mut-places.result.0.now long;
      two_each = c.place_ends.auto.places ∙ long;
      counted = ases_counted ws c.args.network.ases ok;
      few_ases = ases_few ws c.args.network.ases ok;
      few_links = links_few ws c.args.network.ases ok;
    }

pub split_at_mut-chosen-requires : goal.split_at_mut-chosen-requires
split_at_mut-chosen-requires c =
    let counted : c.list_ases-n.result ≡ c.args.network.ases
    = c.list_ases-n.ensures.count ∙ sym (ases_counted c.args.network.words.now c.args.network.ases c.args.network.accepted) in
    omega (arith, counted, c.requires, c.links.ensures, c.split_at_mut-places.ensures.back_len, c.split_at_mut-left.ensures.back_len, c.split_at_mut-served.ensures.back_len)

pub slice_bounds-look-end : goal.slice_bounds-look-end
slice_bounds-look-end c =
    let counted : c.list_ases-n.result ≡ c.args.network.ases
    = c.list_ases-n.ensures.count ∙ sym (ases_counted c.args.network.words.now c.args.network.ases c.args.network.accepted) in
    let long : c.list_ases-n.result ≤ length c.split_at_mut-chosen.result.1.now
    = omega (arith, counted, c.requires, c.links.ensures, c.split_at_mut-places.ensures.back_len, c.split_at_mut-left.ensures.back_len, c.split_at_mut-served.ensures.back_len, c.split_at_mut-chosen.ensures.back_len) in
    simp length-take (omega (arith, long))
