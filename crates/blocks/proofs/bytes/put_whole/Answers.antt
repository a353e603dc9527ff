-- `put_whole` meets its contract: the first 512 bytes of the block are the block.
use mathlib.Core.Path.{◌∙◌, ap, sym}
use Prim.Native.Nat.{ℕ}
use lib.ListN.{take}
use lib.Seq.{take-length}
use Rattle.blocks.specs.Bytes.{splice}
use Rattle.blocks.proofs.bytes.put_whole.Goals as goal

pub returns : goal.returns
returns c =
    let block = c.args.block.now in
    c.put_bytes.ensures ∙ ap (splice c.args.area.now c.args.at) (c.array_at-copy.ensures ∙ ap (λ (n : ℕ). take n block) (sym c.requires.0) ∙ take-length block)
