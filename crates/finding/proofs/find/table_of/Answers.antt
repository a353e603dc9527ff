-- `table_of` meets its contract, by its test.
use Rattle.blocks.proofs.Tests.{tests}
use Rattle.entries.specs.Entry.{table_of, phi_at}
use Rattle.finding.proofs.find.table_of.Goals as goal

pub returns-then-d-eq1 : goal.returns-then-d-eq1
unfolding table_of
returns-then-d-eq1 c = search tests

pub returns : goal.returns
unfolding table_of phi_at
returns c = search (tests, ← c.start.ensures, ← c.get_u32.ensures)
