-- `table_block` meets its contract, by its test.
use mathlib.Core.Path.{sym, ◌∙◌}
use Rattle.blocks.specs.Bytes.{block_at}
use Rattle.entries.specs.Entry.{table_with}
use Rattle.making.proofs.block.table_block.Goals as goal
use Rattle.making.proofs.block.table_block.Goals.{then-is_nil, else-is_nil}

pub returns : goal.returns
unfolding table_with block_at
returns c = elim c.if-is_nil.branch [
  | then-is_nil w ↦ rw (sym c.is_nil.ensures ∙ w.if-is_nil.true, ← w.b-is) c.put_u32.ensures
  | else-is_nil w ↦ rw (sym c.is_nil.ensures ∙ w.if-is_nil.false, ← w.start.ensures, ← w.array_at-b.ensures, ← w.b-is) c.put_u32.ensures
]
