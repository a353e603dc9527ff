-- `is_short` meets its contract: as many links have been followed as turns have passed, and as many as are left may follow.
use Rattle.std.proofs.Common.{◌≡◌, ◌-◌}
use Rattle.chains.specs.Walk.{ends_within}
use Rattle.walking.proofs.chain.is_short.Given as goal

abbrev pub invariant-loop : goal.invariant-loop
invariant-loop l = ends_within l.card 8 0 ≡ ends_within l.card (8 - l.counter) l.p.0
