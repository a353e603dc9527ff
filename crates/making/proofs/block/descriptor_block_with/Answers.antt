-- `descriptor_block_with` meets its contract: the entry is put past the first 40 bytes.
use Rattle.entries.proofs.SetLaws.{phi_put}
use Rattle.making.proofs.block.descriptor_block_with.Goals as goal

pub returns : goal.returns
returns c = phi_put _ _ _ _ _ _ c.descriptor_block-b.ensures.d_len c.descriptor_block-b.ensures.value c.put_u32.ensures
