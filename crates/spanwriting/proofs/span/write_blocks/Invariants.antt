-- `write_blocks` meets its contract: after i turns the first i blocks are written.
use mathlib.Core.Path.{◌≡◌}
use Prim.Native.Nat.{◌-◌}
use lib.ListN.{length}
use Rattle.calls.specs.Spans.{span_card}
use Rattle.spanwriting.specs.Planned.{ActiveCard}
use Rattle.spanwriting.proofs.span.write_blocks.Given as goal

abbrev pub invariant-loop-i : goal.invariant-loop-i
invariant-loop-i l = (length l.card ≡ length l.initial.card) × (length l.starts ≡ length l.initial.starts) × (l.card ≡ span_card l.initial.card l.offset l.bytes l.i) × ActiveCard l.card l.starts (length l.starts - 1) l.d
