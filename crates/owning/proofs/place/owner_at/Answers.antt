-- `owner_at` meets its contract, by its tests.
use native.Mathlib.Omega.{arith}
use Rattle.entries.proofs.PlaceLaws.{owner_nil, owner_past, owner_opening, owner_found}
use Rattle.owning.proofs.place.owner_at.Goals as goal

pub returns-then-is_nil-clause-value : goal.returns-then-is_nil-clause-value
returns-then-is_nil-clause-value c = owner_nil _ _ _ _ _ (grind arith)

pub returns-then-le-clause-value : goal.returns-then-le-clause-value
returns-then-le-clause-value c = owner_past _ _ _ _ _ (grind arith) (grind arith)

pub returns-then-p-starts-clause-value : goal.returns-then-p-starts-clause-value
returns-then-p-starts-clause-value c = owner_opening _ _ _ _ _ (grind arith) (grind arith) _ c.region_of-k.ensures.value _ c.opening_cost-cost.ensures c.if-p-starts.true

pub returns-clause-value : goal.returns-clause-value
returns-clause-value c = owner_found _ _ _ _ _ (grind arith) (grind arith) _ c.region_of-k.ensures.value _ c.opening_cost-cost.ensures (omega arith)
