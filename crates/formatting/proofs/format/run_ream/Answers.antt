-- `run_ream` meets its contract: the area with the formatted blocks put back, and the format's own blocks the card where it is accepted.
use Rattle.std.proofs.Common.{refl, arith}
use Rattle.calls.specs.Call.{None}
use Rattle.cutter.specs.declared.line.SheetCall.TheVariants.{Ream}
use Rattle.sheet.specs.Sheet.{call_of, blocks_of, records_after, addition_of}
use Rattle.sheet.proofs.SheetLaws.{call_accepted, call_refused}
use Rattle.formatting.proofs.format.run_ream.Goals as goal

pub returns-in_err-outcome : goal.returns-in_err-outcome
unfolding call_of blocks_of records_after
returns-in_err-outcome c = grind (arith, c.in_err-outcome.was, call_refused _ _ c.sheet.view_is (Ream c.args.layout c.args.size c.args.volume c.args.name) None _ _ c.in_err-outcome.ensures _ c.from_residual.ensures.1)

pub returns : goal.returns
unfolding call_of blocks_of records_after addition_of
returns c = grind (arith, c.in_ok-outcome.was, call_accepted _ _ c.sheet.view_is (Ream c.args.layout c.args.size c.args.volume c.args.name) None _ c.in_ok-outcome.ensures _ refl)
