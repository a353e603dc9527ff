-- `run_check` meets its contract: the sheet as it was.
use Rattle.std.proofs.Common.{refl}
use Rattle.calls.specs.Call.{None}
use Rattle.cutter.specs.declared.line.SheetCall.TheVariants.{Check}
use Rattle.sheet.specs.Sheet.{call_of, blocks_of, records_after, addition_of}
use Rattle.sheet.proofs.SheetLaws.{kept_accepted, kept_refused}
use Rattle.running.proofs.call.run_check.Goals as goal

pub returns-in_err-check : goal.returns-in_err-check
unfolding call_of blocks_of records_after
returns-in_err-check c = kept_refused _ _ refl Check refl None _ c.card.ensures _ c.in_err-check.ensures _ c.from_residual.ensures.1

pub returns : goal.returns
unfolding call_of blocks_of records_after addition_of
returns c = kept_accepted _ _ refl Check refl None _ c.card.ensures c.in_ok-check.ensures _ refl
