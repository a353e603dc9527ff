-- `put_bytes` meets its contract: at i the first i bytes are copied.
use mathlib.Core.Path.{◌≡◌}
use Rattle.blocks.proofs.ByteLaws.{copied}
use Rattle.blocks.proofs.bytes.put_bytes.Given as goal

abbrev pub invariant-loop-i : goal.invariant-loop-i
invariant-loop-i l = l.area ≡ copied l.initial.area l.at l.from l.i
