-- `blocks_in_place` meets its contract: after each turn what is left of the blocks decides.
use mathlib.Core.Path.{◌≡◌}
use Prim.Native.Nat.{◌≤◌, ◌-◌}
use Rattle.calls.specs.Spans.{misplaced_from}
use Rattle.spanreading.proofs.groups.blocks_in_place.Given as goal

abbrev pub invariant-loop-l : goal.invariant-loop-l
invariant-loop-l l = (l.first ≤ l.l) × (l.l ≤ l.end) × (misplaced_from l.chain.card.now l.d l.first (l.end - l.first) ≡ misplaced_from l.chain.card.now l.d l.l (l.end - l.l))

abbrev pub decreases-loop-l : goal.decreases-loop-l
decreases-loop-l l = l.end - l.l
