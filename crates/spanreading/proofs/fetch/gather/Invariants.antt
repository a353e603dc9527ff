-- `gather` meets its contract: after i turns the pieces of the first i blocks are filled.
use mathlib.Core.Path.{◌≡◌}
use lib.ListN.{length}
use Rattle.blocks.specs.Bytes.{splice}
use Rattle.calls.specs.Spans.{gathered}
use Rattle.spanreading.proofs.fetch.gather.Given as goal

abbrev pub invariant-loop-i : goal.invariant-loop-i
invariant-loop-i l = (length l.out ≡ length l.initial.out) × (l.out ≡ splice l.initial.out 0 (gathered l.card l.d l.offset (length l.initial.out) l.i))
