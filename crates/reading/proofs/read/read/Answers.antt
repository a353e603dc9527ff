-- `read` meets its contract, row by row up to that of the chain.
use mathlib.Core.Path.{ap, refl}
use mathlib.Core.Bool.{not}
use lib.ListN.{replicate}
use Rattle.calls.specs.Meaning.{lent_of}
use Rattle.calls.proofs.StepLaws.{step_refused}
use Rattle.calls.proofs.ResultLaws.{barred_on}
use Rattle.calls.proofs.CardLaws.{enough_few, enough_all}
use Rattle.calls.proofs.ReadLaws.{read_4, read_9}
use Rattle.reading.proofs.read.read.Goals as goal

pub returns-in_err-admit : goal.returns-in_err-admit
unfolding lent_of
returns-in_err-admit c = barred_on _ _ _ _ c.from_residual.ensures.1 c.in_err-admit.ensures

pub returns-then-is_unnamed : goal.returns-then-is_unnamed
unfolding lent_of
returns-then-is_unnamed c = step_refused _ _ _ _ (search (read_4, c.in_ok-admit.ensures)) refl

pub returns-then-out-ne-BLOCK_SIZE : goal.returns-then-out-ne-BLOCK_SIZE
unfolding lent_of
returns-then-out-ne-BLOCK_SIZE c = step_refused _ _ _ _ (search (read_9, c.in_ok-admit.ensures)) refl

pub read_in-requires-clause-places : goal.read_in-requires-clause-places
read_in-requires-clause-places c = enough_few _ (replicate 9 0) _ c.is_short.ensures (ap not c.if-is_short.true) refl

pub read_in-requires-else-is_short-clause-places : goal.read_in-requires-else-is_short-clause-places
read_in-requires-else-is_short-clause-places c = enough_all _ (replicate 257 0) refl
