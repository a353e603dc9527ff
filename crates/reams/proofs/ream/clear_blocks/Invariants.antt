-- `clear_blocks` meets its contract: after i turns i blocks are zeros.
use mathlib.Core.Path.{◌≡◌}
use lib.ListN.{length}
use Rattle.blocks.specs.Bytes.{store_all}
use Rattle.blocks.specs.Descriptor.{clearing}
use Rattle.reams.proofs.ream.clear_blocks.Given as goal

abbrev pub invariant-loop-i : goal.invariant-loop-i
invariant-loop-i l = (length l.card ≡ length l.initial.card) × (l.card ≡ store_all l.initial.card (clearing l.first.0 l.i))
