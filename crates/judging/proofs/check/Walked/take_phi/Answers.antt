-- `take_phi` meets its contract: after i turns i entries of Phi have passed, each with its table, and those past n are taken at once.
use Rattle.std.proofs.Common.{sym, arith}
use borrow.Author.Tests.{eqb-true, eqb-false}
use Rattle.entries.proofs.CheckLaws.{phi_refused, phi_table_ready, phi_stop, phi_more, phi_end, named_nil, named_table}
use Rattle.judging.proofs.check.Walked.take_phi.Goals as goal
use Rattle.judging.proofs.check.Walked.take_phi.Goals.{then-not-is_nil+in_default, else-not-is_nil}

pub returns-then-not-take_entry : goal.returns-then-not-take_entry
returns-then-not-take_entry c =
    phi_refused _ _ _ _ c.requires _ _ _ _ c.loop-i.invariant (omega arith) _ c.table_of-table.ensures _ _ c.take_entry.ensures c.if-not-take_entry.true

pub take_table-requires : goal.take_table-requires
take_table-requires c =
    phi_table_ready _ _ _ _ c.requires _ _ _ _ c.loop-i.invariant (omega arith) _ c.table_of-table.ensures _ _ c.take_entry.ensures c.if-not-take_entry.false (omega arith) (eqb-false _ 0 (sym c.if-not-is_nil.ensures))

pub returns-in-Err : goal.returns-in-Err
returns-in-Err c =
    phi_stop _ _ _ _ c.requires _ _ _ _ c.loop-i.invariant (omega arith) _ c.table_of-table.ensures _ _ c.take_entry.ensures c.if-not-take_entry.false _ _ (eqb-false _ 0 (sym c.if-not-is_nil.ensures)) c.in-Err.ensures

pub loop-i-preserved : goal.loop-i-preserved
loop-i-preserved c =
    phi_more _ _ _ _ c.requires _ _ _ _ c.loop-i.invariant (omega arith) _ c.table_of-table.ensures _ _ c.take_entry.ensures c.if-not-take_entry.false _
    (elim c.if-not-is_nil.branch [
      | then-not-is_nil+in_default w ↦ rw w.seen-is (named_table _ _ _ _ _ _ _ (eqb-false _ 0 (sym w.if-not-is_nil.ensures)) w.in_default.ensures)
      | else-not-is_nil w ↦ rw w.seen-is (named_nil _ _ _ _ _ _ (eqb-true _ 0 (sym w.if-not-is_nil.ensures)))
    ])

pub returns-then-not-is_clear_from : goal.returns-then-not-is_clear_from
returns-then-not-is_clear_from c =
    rw c.if-not-is_clear_from.true at (phi_end _ _ _ _ c.requires _ _ _ c.loop-i.i c.loop-i.invariant (omega arith) (omega arith) _ c.is_clear_from.ensures)

pub returns : goal.returns
returns c =
    rw c.if-not-is_clear_from.false at (phi_end _ _ _ _ c.requires _ _ _ c.loop-i.i c.loop-i.invariant (omega arith) (omega arith) _ c.is_clear_from.ensures)
