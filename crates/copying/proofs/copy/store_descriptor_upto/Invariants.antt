-- `store_descriptor_upto` meets its contract: at i the first i bytes are those of the head; then come those of the old block from there on.
use mathlib.Core.Path.{◌≡◌}
use Rattle.blocks.proofs.ByteLaws.{copied}
use Rattle.copying.proofs.copy.store_descriptor_upto.Given as goal

abbrev pub invariant-loop-i : goal.invariant-loop-i
invariant-loop-i l = l.card ≡ copied l.initial.card l.b l.head l.i
