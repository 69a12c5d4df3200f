-- `machine::look::Order::fits` meets its contract: one test after the other.
use Rattle.std.proofs.Common.{arith, refl, ◌∙◌, le-leb}
use borrow.Author.Tests.{lt-leb}
use Rattle.machine.proofs.AnswerLaws.{few_parts, memory_tests}
use Rattle.machine.proofs.look.Order.fits.Goals as goal

pub overflow_mul-self : goal.overflow_mul-self
overflow_mul-self c = let few = few_parts c.args.self.located in omega (arith, few.1)

pub overflow_mul-links : goal.overflow_mul-links
overflow_mul-links c = let few = few_parts c.args.self.located in omega (arith, few.0, c.links-links.ensures)

pub room_need-requires : goal.room_need-requires
room_need-requires c = let few = few_parts c.args.self.located in omega (arith, few.0, few.1, c.links-links.ensures)

pub returns-then-table-self : goal.returns-then-table-self
returns-then-table-self c =
    rw (lt-leb _ _ c.if-table-self.true) at (memory_tests c.args.self.located c.args.table c.args.room refl refl)

pub returns-then-room-room_need : goal.returns-then-room-room_need
returns-then-room-room_need c =
    rw (le-leb _ _ c.if-table-self.false, lt-leb _ _ c.if-room-room_need.true) at
    (memory_tests c.args.self.located c.args.table c.args.room c.links-links.ensures c.room_need.ensures)

pub returns : goal.returns
returns c =
    c.choice_fault.ensures ∙ (rw (le-leb _ _ c.if-table-self.false, le-leb _ _ c.if-room-room_need.false) at
    (memory_tests c.args.self.located c.args.table c.args.room c.links-links.ensures c.room_need.ensures))
