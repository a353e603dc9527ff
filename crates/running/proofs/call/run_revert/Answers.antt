-- `run_revert` meets its contract: the area with the card put back.
use Rattle.std.proofs.Common.{refl}
use Rattle.calls.specs.Call.{None}
use Rattle.cutter.specs.declared.line.SheetCall.TheVariants.{Revert}
use Rattle.sheet.specs.Sheet.{call_of, blocks_of, records_after, addition_of}
use Rattle.sheet.proofs.SheetLaws.{card_accepted, card_refused}
use Rattle.running.proofs.call.run_revert.Goals as goal

pub returns-in_err-revert : goal.returns-in_err-revert
unfolding call_of blocks_of records_after
returns-in_err-revert c = card_refused _ _ c.sheet.view_is _ c.card_size-end.ensures.value (Revert c.args.name) refl None _ _ c.in_err-revert.ensures _ c.from_residual.ensures.1

pub returns : goal.returns
unfolding call_of blocks_of records_after addition_of
returns c = card_accepted _ _ c.sheet.view_is _ c.card_size-end.ensures.value (Revert c.args.name) refl None _ c.in_ok-revert.ensures _ refl
