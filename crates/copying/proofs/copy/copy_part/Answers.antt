-- `copy_part` meets its contract: at i the bytes from start up to i are copied, and the next one is as it was.
use mathlib.Core.Path.{◌≡◌}
use Prim.Native.Nat.{◌-◌}
use native.Mathlib.Omega.{arith}
use Rattle.blocks.proofs.ByteLaws.{copied_none}
use Rattle.copying.proofs.CopyLaws.{part_more, part_end}
use Rattle.copying.proofs.copy.copy_part.Goals as goal

pub loop-i-init : goal.loop-i-init
loop-i-init c = let e : c.args.start - c.args.start ≡ 0 = omega arith in rw e (copied_none _ _ _)

pub loop-i-preserved : goal.loop-i-preserved
loop-i-preserved c =
    rw (c.start-a.ensures, c.start-b.ensures)
    (part_more _ c.args.from.0 c.args.«to».0 _ _ c.requires.0 c.requires.1 c.requires.2 c.requires.3 _ _ (omega arith) (omega arith) c.loop-i.invariant)

pub returns : goal.returns
returns c = part_end _ c.args.from.0 c.args.«to».0 _ _ c.requires.0 c.requires.1 c.requires.2 c.requires.3 _ _ (omega arith) (omega arith) c.loop-i.invariant
