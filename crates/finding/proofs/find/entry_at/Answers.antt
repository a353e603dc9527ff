-- `entry_at` meets its contract, by what `get_u32` ensures.
use Rattle.entries.specs.Entry.{entry_at}
use Rattle.finding.proofs.find.entry_at.Goals as goal

pub returns : goal.returns
unfolding entry_at
returns c = cc
