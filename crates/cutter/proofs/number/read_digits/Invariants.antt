-- `read_digits` meets its contract: the digits so far say v.
use mathlib.Core.Path.{◌≡◌}
use Prim.Native.Nat.{◌≤◌}
use Rattle.cutter.specs.ReadNumber.{digits_number}
use Rattle.cutter.proofs.NumberLaws.{digits_left}
use Rattle.cutter.proofs.number.read_digits.Given as goal

abbrev pub invariant-loop-b : goal.invariant-loop-b
invariant-loop-b l = (l.v ≤ 65535) × (digits_number 0 l.digits ≡ digits_left l.digits l.v l.b-index)
