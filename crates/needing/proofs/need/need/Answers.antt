-- `need` meets its contract, by its tests.
use Rattle.blocks.proofs.Tests.{tests}
use Rattle.entries.specs.Entry.{need_by}
use Rattle.needing.proofs.need.need.Goals as goal
use Rattle.needing.proofs.need.need.Goals.{else-slot-ne0-via-then-slot-ne0+else-owner-active, else-slot-ne0-via-else-slot-ne0}

pub returns-in-Err : goal.returns-in-Err
unfolding need_by
returns-in-Err c = rw c.in-Err.is

pub returns-then-owner-active : goal.returns-then-owner-active
unfolding need_by
returns-then-owner-active c = rw c.in-Ok.is (search tests)

pub returns-else-slot-ne0 : goal.returns-else-slot-ne0
unfolding need_by
returns-else-slot-ne0 c = elim c.else-slot-ne0.branch [
  | else-slot-ne0-via-then-slot-ne0+else-owner-active w ↦ rw c.in-Ok.is (search (tests, ← c.fresh_need.ensures))
  | else-slot-ne0-via-else-slot-ne0 w ↦ rw c.in-Ok.is (search (tests, ← c.fresh_need.ensures))
]
