-- `put_head` meets its contract: the fields, put one after the other, are the first 40 bytes.
use Rattle.blocks.proofs.DescriptorLaws.{head_put, head_length}
use Rattle.blocks.proofs.descriptor.put_head.Goals as goal

pub returns : goal.returns
returns c = record { block_after = head_put _ _ _ _ _ _ _ _ c.args.d c.requires c.put_name.ensures.name_len c.put_bytes.ensures c.put_u32.ensures c.put_u32-2.ensures c.put_u32-3.ensures c.put_u32-4.ensures c.put_u32-5.ensures c.put_name.ensures.block_after; d_len = head_length c.args.d c.put_name.ensures.name_len }
