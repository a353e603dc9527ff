-- `clear_block` meets its contract: the bytes written are zeros.
use mathlib.Core.Path.{◌≡◌, ◌∙◌, ap}
use Prim.Native.Nat.{ℕ, ◌+◌, ◌-◌}
use native.Mathlib.Omega.{arith}
use lib.ListN.{replicate}
use Rattle.blocks.specs.Bytes.{splice, store_block, zero_block}
use Rattle.blocks.proofs.ByteLaws.{part_written, length_part}
use Rattle.blocks.proofs.bytes.clear_block.Goals as goal

pub returns : goal.returns
unfolding store_block
returns c =
    let start = c.start-start.result in
    let n : start + 512 - start ≡ 512 = omega arith in
    let zeros = c.fill.ensures.after (λ y e. e) ∙ ap (λ (k : ℕ). replicate k 0) (length_part c.args.card.now start (start + 512 - start) (omega arith) ∙ n) in
    part_written _ _ _ _ _ zeros (omega arith) ∙ ap (λ (k : ℕ). splice c.args.card.now k zero_block) c.start-start.ensures
