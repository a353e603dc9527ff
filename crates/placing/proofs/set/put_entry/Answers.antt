-- `put_entry` meets its contract: a put into a block is a store of that block.
use Rattle.entries.proofs.SetLaws.{entry_put}
use Rattle.placing.proofs.set.put_entry.Goals as goal

pub returns : goal.returns
returns c = entry_put _ _ _ _ _ c.requires.0 c.requires.1 (rw (← c.start.ensures) c.put_u32.ensures)
