-- `entries_in_place` meets its contract: after i turns i entries were in place.
use mathlib.Core.Path.{◌≡◌}
use Prim.Native.Nat.{◌+◌, ◌-◌}
use Rattle.spanreading.specs.Fetched.{placed_from}
use Rattle.spanreading.proofs.groups.entries_in_place.Given as goal

abbrev pub invariant-loop-i : goal.invariant-loop-i
invariant-loop-i l = placed_from l.chain.card.now l.d l.m.0 l.j l.k ≡ placed_from l.chain.card.now l.d l.m.0 (l.j + l.i) (l.k - l.i)
