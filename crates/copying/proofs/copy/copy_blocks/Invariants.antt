-- `copy_blocks` meets its contract: after i turns i blocks are copied, and those still to be copied are as they were.
use mathlib.Core.Path.{◌≡◌}
use Rattle.blocks.specs.Bytes.{store_all}
use Rattle.blocks.specs.Descriptor.{copying}
use Rattle.copying.proofs.copy.copy_blocks.Given as goal

abbrev pub invariant-loop-i : goal.invariant-loop-i
invariant-loop-i l = l.card ≡ store_all l.initial.card (copying l.initial.card l.from.0 l.to.0 l.i)
