-- `is_blank` meets its contract, by its test.
use Rattle.blocks.proofs.Tests.{tests}
use Rattle.needing.proofs.blank.is_blank.Goals as goal

pub returns-then-p-ne0 : goal.returns-then-p-ne0
returns-then-p-ne0 c = search tests

pub returns : goal.returns
returns c = search (tests, ← c.all_zero.ensures)
