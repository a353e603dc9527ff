-- `take_table` meets its contract: the entries before L, then those past it.
use Rattle.std.proofs.Common.{arith}
use Rattle.entries.proofs.CheckLaws.{fault_on, table_stop, table_end}
use Rattle.judging.proofs.check.Walked.take_table.Goals as goal

pub returns-in_err-take_entries : goal.returns-in_err-take_entries
returns-in_err-take_entries c =
    rw (fault_on _ _ c.from_residual.ensures.1) (table_stop _ c.args.self.d c.args.i _ c.min-left.result (omega arith) _ _ _ _ c.in_err-take_entries.ensures)

pub returns-then-not-is_clear_from : goal.returns-then-not-is_clear_from
returns-then-not-is_clear_from c =
    rw c.if-not-is_clear_from.true at (table_end _ c.args.self.d c.args.i _ c.min-left.result (omega arith) _ _ _ c.in_ok-take_entries.ensures c.requires.on_card _ c.is_clear_from.ensures)

pub returns : goal.returns
returns c =
    rw c.if-not-is_clear_from.false at (table_end _ c.args.self.d c.args.i _ c.min-left.result (omega arith) _ _ _ c.in_ok-take_entries.ensures c.requires.on_card _ c.is_clear_from.ensures)
