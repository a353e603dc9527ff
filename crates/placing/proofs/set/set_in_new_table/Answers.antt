-- `set_in_new_table` meets its contract: two stores in place, or one where they are of the same block.
use mathlib.Core.Path.{sym, ap, ◌∙◌}
use Prim.Native.Nat.{ℕ, ◌/◌}
use Rattle.blocks.specs.Bytes.{store_block}
use Rattle.blocks.specs.Descriptor.{descriptor_block, tail_at}
use Rattle.entries.specs.Entry.{tail_with}
use native.Mathlib.Omega.{arith}
use borrow.Author.Tests.{eqb-true, eqb-false, not-true, not-false}
use Rattle.entries.proofs.SetLaws.{new_table_set, new_table_set_over}
use Rattle.placing.proofs.set.set_in_new_table.Goals as goal
use Rattle.placing.proofs.set.set_in_new_table.Goals.{then-ne, else-ne}

pub returns : goal.returns
returns c = elim c.if-ne.branch [
  | then-ne w ↦ new_table_set _ _ c.args.d _ _ c.requires.0 c.requires.1 c.requires.2 (omega (arith, c.requires.4)) _ c.extended.ensures c.put_with_table.ensures.d_len _ (λ e. eqb-false _ _ (not-true _ (sym c.ne.ensures ∙ w.if-ne.true)) (sym e)) (w.card-is ∙ w.put_new_table.ensures) c.put_with_table.ensures.card_after
  | else-ne w ↦
      let same = eqb-true _ _ (not-false _ (sym c.ne.ensures ∙ w.if-ne.false)) in
      new_table_set_over _ _ c.args.d _ _ c.requires.0 c.requires.1 c.requires.2 (omega (arith, c.requires.4)) _ c.extended.ensures c.put_with_table.ensures.d_len same
      (rw (← w.card-is) c.put_with_table.ensures.card_after
      ∙ ap (λ (b : ℕ). store_block c.args.card.now b (descriptor_block c.extended.result (tail_with (tail_at c.args.card.now b) (c.args.l.0 / 128) c.args.d.beta.0))) (sym same))
]
