-- `copy_part` meets its contract: at i the bytes from start up to i are copied, and the next one is as it was.
use mathlib.Core.Path.{◌≡◌}
use Prim.Native.Nat.{◌+◌, ◌*◌, ◌-◌}
use Rattle.blocks.specs.Bytes.{part}
use Rattle.blocks.proofs.ByteLaws.{copied}
use Rattle.copying.proofs.copy.copy_part.Given as goal

abbrev pub invariant-loop-i : goal.invariant-loop-i
invariant-loop-i l = l.card ≡ copied l.initial.card (512 * l.fn.to.0 + l.start) (part l.initial.card (512 * l.fn.from.0 + l.start) (l.end - l.start)) (l.i - l.start)
