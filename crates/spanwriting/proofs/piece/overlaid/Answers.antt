-- `overlaid` meets its contract, by its test.
use mathlib.Core.Path.{ap, ◌∙◌}
use Prim.Native.Nat.{ℕ}
use Rattle.blocks.specs.Bytes.{part}
use Rattle.spanwriting.proofs.PieceLaws.{overlaid_nil, overlaid_block}
use Rattle.spanwriting.proofs.piece.overlaid.Goals as goal
use Rattle.spanwriting.proofs.piece.overlaid.Goals.{then-is_nil, else-is_nil}

pub returns : goal.returns
returns c = elim c.if-is_nil.branch [
  | then-is_nil w ↦ overlaid_nil _ _ _ _ _ _ w.if-is_nil.ensures w.block-is c.put_bytes.ensures
  | else-is_nil w ↦ overlaid_block _ _ _ _ _ _ w.if-is_nil.ensures (w.block-is ∙ w.array_at-block.ensures ∙ ap (λ (n : ℕ). part c.args.card.now n 512) w.start.ensures) c.put_bytes.ensures
]
