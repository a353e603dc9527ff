-- `put_new_table` meets its contract, by its test.
use mathlib.Core.Path.{sym, ◌∙◌}
use borrow.Author.Tests.{eqb-true, eqb-false}
use Rattle.entries.proofs.SetLaws.{table_cleared, table_copied}
use Rattle.placing.proofs.set.put_new_table.Goals as goal
use Rattle.placing.proofs.set.put_new_table.Goals.{then-is_nil, else-is_nil}

pub returns : goal.returns
returns c = elim c.if-is_nil.branch [
  | then-is_nil w ↦ table_cleared _ _ _ _ _ _ c.requires.0 c.requires.2 c.put_entry.ensures _ (eqb-true _ _ (sym c.is_nil.ensures ∙ w.if-is_nil.true)) (w.card-is ∙ w.clear_block.ensures)
  | else-is_nil w ↦ table_copied _ _ _ _ _ _ c.requires.0 c.requires.2 c.put_entry.ensures _ (eqb-false _ _ (sym c.is_nil.ensures ∙ w.if-is_nil.false)) c.requires.1 (w.card-is ∙ w.copy_block.ensures)
]
