-- `put_with_table` meets its contract: the entry is put past the first 40 bytes.
use Rattle.entries.proofs.SetLaws.{phi_put_in}
use Rattle.placing.proofs.set.put_with_table.Goals as goal

pub returns-clause-card_after : goal.returns-clause-card_after
returns-clause-card_after c = phi_put_in _ _ _ _ _ _ _ c.requires.0 c.requires.1 c.put_descriptor.ensures.d_len c.put_descriptor.ensures.card_after (rw (← c.start.ensures) c.put_u32.ensures)
