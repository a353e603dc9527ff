-- Every definition that a run of calls goes through and what the claims add, so that a statement about given cards is computed: `unfolding running` opens them all.
use Prim.Native.Nat.{ℕ}
use Rattle.calls.proofs.Stepping.{stepping}
use Rattle.claims.specs.History.{beta_of, formatted}

unfoldable pub running : ℕ
unfolding stepping beta_of formatted
running = 0
