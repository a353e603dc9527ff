-- `fresh_need` meets its contract, by its tests.
use mathlib.Core.Logic.{inl, inr}
use Rattle.blocks.proofs.Tests.{tests}
use Rattle.entries.specs.Entry.{table_is_new}
use Rattle.needing.proofs.need.fresh_need.Goals as goal

pub returns-then-m-alpha : goal.returns-then-m-alpha
unfolding table_is_new
returns-then-m-alpha c = elim c.if-m-alpha.either [ inl h ↦ search tests | inr h ↦ search tests ]

pub returns-else-m-alpha : goal.returns-else-m-alpha
unfolding table_is_new
returns-else-m-alpha c = search tests
