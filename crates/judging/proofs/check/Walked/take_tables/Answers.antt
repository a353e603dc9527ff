-- `take_tables` meets its contract: at table i those from it on are left.
use Rattle.std.proofs.Common.{arith}
use Rattle.entries.proofs.CheckLaws.{fault_on, tables_ready, tables_more, tables_stop, tables_end}
use Rattle.judging.proofs.check.Walked.take_tables.Goals as goal

pub take_table-requires : goal.take_table-requires
take_table-requires c = tables_ready _ _ _ _ c.requires _ (omega arith) _ c.table_of-m.ensures _ (omega arith)

pub returns-in_err-take_table : goal.returns-in_err-take_table
returns-in_err-take_table c =
    rw (fault_on _ _ c.from_residual.ensures.1) (tables_stop _ _ _ _ _ _ _ c.loop-i.invariant (omega arith) _ c.table_of-m.ensures _ _ c.in_err-take_table.ensures)

pub loop-i-preserved : goal.loop-i-preserved
loop-i-preserved c = tables_more _ _ _ _ _ _ _ c.loop-i.invariant (omega arith) _ c.table_of-m.ensures _ c.in_ok-take_table.ensures

pub returns : goal.returns
returns c = tables_end _ _ _ _ _ _ c.loop-i.i c.loop-i.invariant (omega arith)
