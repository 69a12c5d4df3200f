-- What the methods of `Machine` say: what their steps say of the table and the room that the machine has.
--
--   Stays a b          b is the machine a, in the same lent memory, with other words there
--   Puts a k w b       the word w waits on direction k in b
--   Moves a k b        what waits on direction k in a is held there in b, where nothing waits
--   Takes, Amends, Delivers   the steps of a delivery
--   ChoosesAll, GoesOn parts of a run
use Rattle.std.specs.Prelude.{ℕ, ◌+◌, ◌*◌, ◌/◌, ◌≡◌, true, List, set}
use Rattle.rules.specs.declared.TypeLength.{TypeLength}
use Rattle.offers.specs.declared.Offered.{Offered}
use Rattle.machine.specs.declared.Counts.{Counts}
use Rattle.machine.specs.declared.state.Machine.{Machine}
use Rattle.machine.specs.Room.{waiting_word}
use Rattle.machine.specs.Steps.{Took, Amended, Delivered}
use Rattle.machine.specs.Runs.{ChoseAll, WentOn}

pub record Stays (a b : Machine) : Type 0 where
  pub words : b.words.now ≡ a.words.now
  pub links : b.links ≡ a.links
  pub destination : b.destination ≡ a.destination
  pub table_loan : b.table.ghost_name ≡ a.table.ghost_name
  pub room_loan : b.room.ghost_name ≡ a.room.ghost_name

pub record Puts (a : Machine) (k w : ℕ) (b : Machine) : Type 0 where
  pub table : b.table.now ≡ a.table.now
  pub room : b.room.now ≡ set a.room.now (4 * a.links + k) w
  pub flags : b.flags ≡ set a.flags (k / 48) true

pub record Moves (a : Machine) (k : ℕ) (b : Machine) : Type 0 where
  pub table : b.table.now ≡ a.table.now
  pub room : b.room.now ≡ set (set a.room.now (2 * a.links + k) (waiting_word a.links a.room.now k)) (4 * a.links + k) 0

abbrev pub Takes : Machine → ℕ → TypeLength → Offered → Machine → Type 0
Takes a u old o b = Took a.links a.table.now a.room.now u old o b.table.now b.room.now

abbrev pub Amends : Machine → ℕ → ℕ → Machine → Type 0
Amends a k u b = Amended a.words.now a.links k a.table.now a.room.now u b.table.now b.room.now

abbrev pub Delivers : Machine → ℕ → Machine → Type 0
Delivers a k b = Delivered a.words.now a.links a.destination k a.table.now a.room.now b.table.now b.room.now

abbrev pub ChoosesAll : Machine → List ℕ → Machine → Counts → Type 0
ChoosesAll a cs b c = ChoseAll a.words.now a.links a.destination cs a.table.now a.room.now c b.table.now b.room.now

abbrev pub GoesOn : Machine → ℕ → Counts → Machine → Counts → Type 0
GoesOn a n c b c' = WentOn a.words.now a.links a.destination n c a.table.now a.room.now c' b.table.now b.room.now
