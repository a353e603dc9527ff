-- `run_snap` meets its contract: the area with the card put back.
use Rattle.std.proofs.Common.{refl}
use Rattle.calls.specs.Call.{None}
use Rattle.cutter.specs.declared.line.SheetCall.TheVariants.{Snap}
use Rattle.sheet.specs.Sheet.{call_of, blocks_of, records_after, addition_of}
use Rattle.sheet.proofs.SheetLaws.{card_accepted, card_refused}
use Rattle.running.proofs.call.run_snap.Goals as goal

pub returns-in_err-snap : goal.returns-in_err-snap
unfolding call_of blocks_of records_after
returns-in_err-snap c = card_refused _ _ c.sheet.view_is _ c.card_size-end.ensures.value (Snap c.args.name) refl None _ _ c.in_err-snap.ensures _ c.from_residual.ensures.1

pub returns : goal.returns
unfolding call_of blocks_of records_after addition_of
returns c = card_accepted _ _ c.sheet.view_is _ c.card_size-end.ensures.value (Snap c.args.name) refl None _ c.in_ok-snap.ensures _ refl
