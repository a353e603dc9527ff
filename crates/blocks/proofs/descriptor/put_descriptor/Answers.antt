-- `put_descriptor` meets its contract: what is put into the first 40 bytes of a block is a store of that block.
use mathlib.Core.Path.{◌∙◌, ap}
use Prim.Native.Nat.{ℕ}
use native.Mathlib.Omega.{arith}
use Rattle.blocks.specs.Bytes.{splice}
use Rattle.blocks.specs.Descriptor.{head_bytes}
use Rattle.blocks.proofs.ByteLaws.{part_put}
use Rattle.blocks.proofs.DescriptorLaws.{descriptor_put}
use Rattle.blocks.proofs.descriptor.put_descriptor.Goals as goal

pub returns : goal.returns
returns c =
    let n = c.put_head.ensures.d_len in
    let put = part_put _ _ _ _ _ (omega (arith, n)) (omega arith) c.put_head.ensures.block_after ∙ ap (λ (at : ℕ). splice c.args.card.now at (head_bytes c.args.d)) c.start-start.ensures in
    record { card_after = descriptor_put _ _ _ _ c.requires n put; d_len = n }
