-- `put_record_bytes` meets its contract: the fields, put one after the other, are the bytes of the record.
use Rattle.boundary.proofs.RecordLaws.{record_put}
use Rattle.boundary.proofs.record.put_record_bytes.Goals as goal

pub returns : goal.returns
returns c =
    record_put _ _ _ _ _ _ c.args.r c.requires c.put_name.ensures.name_len c.put_name.ensures.block_after c.put_u32.ensures c.put_u32-2.ensures c.put_u32-3.ensures
