-- `run_line` meets its contract: the call that the line asks for.
use Rattle.std.proofs.Common.{◌≤◌, Option, subst, arith}
use Rattle.cutter.specs.declared.line.SheetCall.{SheetCall}
use Rattle.cutter.specs.declared.line.SheetCall.TheVariants.{Ream, Write, Read, Snap, Revert, Check}
use Rattle.sheet.specs.Sheet.{blocks_of, size_of, addition_of, count_of}
use Rattle.sheet.proofs.SheetLaws.{count_plain, count_refused, line_is, line_malformed, line_done}
use Rattle.lines.proofs.run.run_line.Goals as goal

pub returns-in_err-layout-clause-value : goal.returns-in_err-layout-clause-value
returns-in_err-layout-clause-value c = line_malformed _ _ c.ok_or.ensures.ok_part _ _ _ c.ok_or.ensures.value c.in_err-layout.was _ c.from_residual.ensures.1

pub returns-in_err-layout-clause-upper_bound : goal.returns-in_err-layout-clause-upper_bound
returns-in_err-layout-clause-upper_bound c = count_refused _ _ c.from_residual.ensures.1

pub run_ream-requires : goal.run_ream-requires
unfolding size_of blocks_of
run_ream-requires c = subst (λ (l : Option SheetCall). size_of l ≤ 64) (line_is _ _ c.ok_or.ensures.ok_part _ _ c.in_ok-layout.was c.in-Ream.is) c.requires

pub returns-in-Ream-clause-value : goal.returns-in-Ream-clause-value
returns-in-Ream-clause-value c = line_done _ _ _ _ _ (line_is _ _ c.ok_or.ensures.ok_part _ _ c.in_ok-layout.was c.in-Ream.is) _ c.run_ream.ensures

pub returns-in-Ream-clause-upper_bound : goal.returns-in-Ream-clause-upper_bound
unfolding addition_of count_of
returns-in-Ream-clause-upper_bound c = count_plain _ _ (Ream _ _ _ _) (λ lent card. omega arith) _ c.run_ream.ensures

pub returns-in-Write-clause-value : goal.returns-in-Write-clause-value
returns-in-Write-clause-value c = line_done _ _ _ _ _ (line_is _ _ c.ok_or.ensures.ok_part _ _ c.in_ok-layout.was c.in-Write.is) _ c.run_write.ensures

pub returns-in-Write-clause-upper_bound : goal.returns-in-Write-clause-upper_bound
unfolding addition_of count_of
returns-in-Write-clause-upper_bound c = count_plain _ _ (Write _ _) (λ lent card. omega arith) _ c.run_write.ensures

pub returns-in-Read-clause-value : goal.returns-in-Read-clause-value
returns-in-Read-clause-value c = line_done _ _ _ _ _ (line_is _ _ c.ok_or.ensures.ok_part _ _ c.in_ok-layout.was c.in-Read.is) _ c.run_read.ensures

pub returns-in-Read-clause-upper_bound : goal.returns-in-Read-clause-upper_bound
unfolding addition_of count_of
returns-in-Read-clause-upper_bound c = count_plain _ _ (Read _ _) (λ lent card. omega arith) _ c.run_read.ensures

pub returns-in-Snap-clause-value : goal.returns-in-Snap-clause-value
returns-in-Snap-clause-value c = line_done _ _ _ _ _ (line_is _ _ c.ok_or.ensures.ok_part _ _ c.in_ok-layout.was c.in-Snap.is) _ c.run_snap.ensures

pub returns-in-Snap-clause-upper_bound : goal.returns-in-Snap-clause-upper_bound
unfolding addition_of count_of
returns-in-Snap-clause-upper_bound c = count_plain _ _ (Snap _) (λ lent card. omega arith) _ c.run_snap.ensures

pub returns-in-Revert-clause-value : goal.returns-in-Revert-clause-value
returns-in-Revert-clause-value c = line_done _ _ _ _ _ (line_is _ _ c.ok_or.ensures.ok_part _ _ c.in_ok-layout.was c.in-Revert.is) _ c.run_revert.ensures

pub returns-in-Revert-clause-upper_bound : goal.returns-in-Revert-clause-upper_bound
unfolding addition_of count_of
returns-in-Revert-clause-upper_bound c = count_plain _ _ (Revert _) (λ lent card. omega arith) _ c.run_revert.ensures

pub returns-in-List-clause-value : goal.returns-in-List-clause-value
returns-in-List-clause-value c = line_done _ _ _ _ _ (line_is _ _ c.ok_or.ensures.ok_part _ _ c.in_ok-layout.was c.in-List.is) _ c.run_list.ensures.value

pub returns-in-Check-clause-value : goal.returns-in-Check-clause-value
returns-in-Check-clause-value c = line_done _ _ _ _ _ (line_is _ _ c.ok_or.ensures.ok_part _ _ c.in_ok-layout.was c.in-Check.is) _ c.run_check.ensures

pub returns-in-Check-clause-upper_bound : goal.returns-in-Check-clause-upper_bound
unfolding addition_of count_of
returns-in-Check-clause-upper_bound c = count_plain _ _ (Check) (λ lent card. omega arith) _ c.run_check.ensures
