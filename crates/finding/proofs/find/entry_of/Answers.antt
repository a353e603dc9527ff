-- `entry_of` meets its contract, by its test.
use native.Mathlib.Omega.{arith}
use mathlib.Core.Path.{◌≡◌}
use Rattle.entries.proofs.EntryLaws.{table_ready}
use Rattle.finding.proofs.ReadLaws.{read_ready, read_nil, read_set}
use Rattle.finding.proofs.find.entry_of.Goals as goal

pub table_of-table-requires : goal.table_of-table-requires
table_of-table-requires c = table_ready _ _ _ _ c.requires.0.2 _ c.requires.1

pub returns-then-is_nil : goal.returns-then-is_nil
returns-then-is_nil c = let nil : c.table_of-table.result.0 ≡ 0 = grind arith in search read_nil

pub entry_at-entry-requires : goal.entry_at-entry-requires
entry_at-entry-requires c = read_ready _ _ _ _ c.requires.0.2 _ c.requires.1 _ _ c.requires.2.2 _ c.table_of-table.ensures

pub returns-else-is_nil : goal.returns-else-is_nil
returns-else-is_nil c = let set : c.table_of-table.result.0 ≡ 0 → ⊥ = grind arith in search read_set
