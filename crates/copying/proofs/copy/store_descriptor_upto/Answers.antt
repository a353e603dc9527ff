-- `store_descriptor_upto` meets its contract: at i the first i bytes are those of the head; then come those of the old block from there on.
use mathlib.Core.Path.{refl, ap, ◌∙◌}
use Prim.Native.Nat.{ℕ}
use native.Mathlib.Omega.{arith}
use lib.ListN.{replicate}
use Rattle.blocks.proofs.ByteLaws.{copied}
use Rattle.copying.proofs.CopyLaws.{pass_made}
use Rattle.copying.proofs.copy.store_descriptor_upto.Goals as goal

pub returns : goal.returns
returns c =
    let r = c.requires in
    let first = c.loop-i.invariant ∙ ap (λ (at : ℕ). copied c.args.card.now at c.put_head.new.block c.loop-i.i) c.start-b.ensures in
    pass_made _ _ _ _ _ r.0 r.1 r.2 c.put_head.ensures.d_len _ _ _ _ (replicate 40 0) _ c.min-split.ensures refl c.put_head.ensures.block_after first (omega arith) (omega arith) c.copy_rest.ensures
