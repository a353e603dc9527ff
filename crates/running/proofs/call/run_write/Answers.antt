-- `run_write` meets its contract: the area with the card put back.
use Rattle.std.proofs.Common.{refl}
use Rattle.calls.specs.Call.{Block}
use Rattle.cutter.specs.declared.line.SheetCall.TheVariants.{Write}
use Rattle.sheet.specs.Sheet.{call_of, blocks_of, records_after, addition_of}
use Rattle.sheet.proofs.SheetLaws.{card_accepted, card_refused}
use Rattle.running.proofs.call.run_write.Goals as goal

pub returns-in_err-write : goal.returns-in_err-write
unfolding call_of blocks_of records_after
returns-in_err-write c = card_refused _ _ c.sheet.view_is _ c.card_size-end.ensures.value (Write c.args.l c.args.fill) refl (Block _) _ _ c.in_err-write.ensures _ c.from_residual.ensures.1

pub returns : goal.returns
unfolding call_of blocks_of records_after addition_of
returns c = card_accepted _ _ c.sheet.view_is _ c.card_size-end.ensures.value (Write c.args.l c.args.fill) refl (Block _) _ c.in_ok-write.ensures _ refl
