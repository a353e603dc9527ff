-- `clear_blocks` meets its contract: after i turns i blocks are zeros.
use mathlib.Core.Path.{refl}
use native.Mathlib.Omega.{arith}
use Rattle.calls.proofs.StepLaws.{cleared_none, cleared_more, cleared_all}
use Rattle.reams.proofs.ream.clear_blocks.Goals as goal

pub loop-i-init : goal.loop-i-init
loop-i-init c = (refl, cleared_none _ _)

pub loop-i-preserved : goal.loop-i-preserved
loop-i-preserved c = (omega (arith, c.clear_block.auto.card), search cleared_more)

pub returns : goal.returns
returns c = search cleared_all
