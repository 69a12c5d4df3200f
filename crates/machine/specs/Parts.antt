-- Where the parts of the room of m links begin.
use Rattle.std.specs.Prelude.{ℕ, ◌*◌}
use Rattle.machine.specs.declared.room.Part.{Part}
use Rattle.machine.specs.declared.room.Part.TheVariants.{Places, Held, Waiting, Nexts, Heads}

abbrev pub start_of : Part → ℕ → ℕ
start_of Places m = 0
start_of Held m = 2 * m
start_of Waiting m = 4 * m
start_of Nexts m = 6 * m
start_of Heads m = 8 * m
