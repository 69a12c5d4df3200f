-- The line ends where the search for an LF stops.
use Rattle.std.proofs.Common.{arith}
use Rattle.linktext.proofs.PlaceLaws.{place_within}
use Rattle.linktext.proofs.reading.any_line.Goals as goal

pub slice_bounds-read_line-end : goal.slice_bounds-read_line-end
slice_bounds-read_line-end c = place_within 10 _ _ _ (omega arith) c.find-end.ensures
