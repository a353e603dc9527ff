-- `run_read` meets its contract: the sheet as it was.
use Rattle.std.proofs.Common.{refl}
use Rattle.calls.specs.Call.{Block}
use Rattle.cutter.specs.declared.line.SheetCall.TheVariants.{Read}
use Rattle.sheet.specs.Sheet.{call_of, blocks_of, records_after, addition_of, first_byte_of}
use Rattle.sheet.proofs.SheetLaws.{kept_accepted, kept_refused}
use Rattle.running.proofs.call.run_read.Goals as goal

pub returns-in_err-read : goal.returns-in_err-read
unfolding call_of blocks_of records_after
returns-in_err-read c = kept_refused _ _ refl (Read c.args.target c.args.l) refl (Block c.read.new.out) _ c.card.ensures _ c.in_err-read.ensures _ c.from_residual.ensures.1

pub returns : goal.returns
unfolding call_of blocks_of records_after addition_of first_byte_of
returns c = kept_accepted _ _ refl (Read c.args.target c.args.l) refl (Block c.read.new.out) _ c.card.ensures c.in_ok-read.ensures _ refl
