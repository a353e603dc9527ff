-- `fill` fills one record after the other: after k turns the first k are those of the first k regions.
use Rattle.std.proofs.Common.{◌≡◌, ◌++◌, drop}
use Rattle.calls.specs.Listing.{filled_to}
use Rattle.listing.proofs.list.fill.Given as goal

abbrev pub invariant-loop-k : goal.invariant-loop-k
invariant-loop-k l = l.r-items ++ drop l.n l.fn.records ≡ filled_to l.card l.starts l.fn.records l.n l.k
