-- `descriptor_block` meets its contract: the block as it stands, with the head put over its first 40 bytes.
use Rattle.blocks.specs.Bytes.{block_at}
use Rattle.blocks.proofs.DescriptorLaws.{block_made}
use Rattle.making.proofs.block.descriptor_block.Goals as goal

pub returns-clause-value : goal.returns-clause-value
unfolding block_at
returns-clause-value c = block_made _ _ _ _ _ c.requires c.put_head.ensures.d_len (rw (← c.start.ensures) c.array_at-b.ensures) c.put_head.ensures.block_after
