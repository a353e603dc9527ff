-- `need_of` meets its contract, by its tests.
use Rattle.blocks.proofs.Tests.{tests}
use Rattle.entries.specs.Entry.{need}
use Rattle.needing.proofs.need.need_of.Goals as goal
use Rattle.needing.proofs.need.need_of.Goals.{else-slot-ne0-via-then-slot-ne0+else-alpha-slot, else-slot-ne0-via-else-slot-ne0}

pub returns-in-Err : goal.returns-in-Err
unfolding need
returns-in-Err c = rw c.in-Err.is

pub returns-then-alpha-slot : goal.returns-then-alpha-slot
unfolding need
returns-then-alpha-slot c = rw c.in-Ok.is (search tests)

pub returns-else-slot-ne0 : goal.returns-else-slot-ne0
unfolding need
returns-else-slot-ne0 c = elim c.else-slot-ne0.branch [
  | else-slot-ne0-via-then-slot-ne0+else-alpha-slot w ↦ rw c.in-Ok.is (search (tests, ← c.fresh_need.ensures))
  | else-slot-ne0-via-else-slot-ne0 w ↦ rw c.in-Ok.is (search (tests, ← c.fresh_need.ensures))
]
