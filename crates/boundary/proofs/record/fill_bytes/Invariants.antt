-- `fill_bytes` puts one record after the other: after k turns the first k are there.
use Rattle.std.proofs.Common.{◌≡◌}
use Rattle.boundary.specs.RecordBytes.{filled_bytes_to}
use Rattle.boundary.proofs.record.fill_bytes.Given as goal

abbrev pub invariant-loop-k : goal.invariant-loop-k
invariant-loop-k l = l.area ≡ filled_bytes_to l.card l.starts l.initial.area l.n l.k
