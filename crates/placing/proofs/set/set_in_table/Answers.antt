-- `set_in_table` meets its contract: two stores in place, or one where they are of the same block.
use mathlib.Core.Path.{◌≡◌, sym, ◌∙◌}
use lib.ListN.{length}
use borrow.Author.Rules.{rules}
use borrow.Author.Tests.{eqb-true, eqb-false, not-true, not-false}
use Rattle.entries.proofs.SetLaws.{table_set, table_set_over}
use Rattle.placing.proofs.set.set_in_table.Goals as goal
use Rattle.placing.proofs.set.set_in_table.Goals.{then-ne, else-ne}

pub returns : goal.returns
returns c =
    let name_long : length c.args.d.name ≡ 16 = search rules in
    elim c.if-ne.branch [
      | then-ne w ↦ table_set _ _ c.args.d _ _ c.requires.0 c.requires.1 _ _ w.extended.ensures w.put_descriptor.ensures.d_len (eqb-false _ _ (not-true _ (sym c.ne.ensures ∙ w.if-ne.true))) (w.card-is ∙ w.put_descriptor.ensures.card_after) c.put_entry.ensures
      | else-ne w ↦ table_set_over _ _ c.args.d _ _ c.requires.0 c.requires.1 name_long (eqb-true _ _ (not-false _ (sym c.ne.ensures ∙ w.if-ne.false))) (rw (← w.card-is) c.put_entry.ensures)
    ]
