-- `mantreuy_pad_name` meets its contract, by its tests.
use Rattle.boundary.proofs.ExportedLaws.{padding_other, padding_none, padding_made}
use Rattle.mantreuy.proofs.mantreuy_pad_name.Goals as goal

pub returns-then-name-ne-NAME_SIZE : goal.returns-then-name-ne-NAME_SIZE
returns-then-name-ne-NAME_SIZE c = rw c.number.ensures (padding_other _ _ c.if-name-ne-NAME_SIZE.true)

pub returns-then-not-is_name : goal.returns-then-not-is_name
returns-then-not-is_name c = rw c.number-then-not-is_name.ensures (padding_none _ _ c.if-name-ne-NAME_SIZE.false _ c.pad_name-padded.ensures _ c.is_name.ensures c.if-not-is_name.true)

pub returns : goal.returns
returns c = rw c.copy_from_slice.ensures.after (padding_made _ _ c.if-name-ne-NAME_SIZE.false _ c.pad_name-padded.ensures _ c.is_name.ensures c.if-not-is_name.false)
