-- `check` meets its contract: the area is a card, and the places for the walk are enough.
use Rattle.std.proofs.Common.{refl, ap, replicate}
use mathlib.Core.Bool.{not}
use Rattle.calls.specs.Meaning.{lent_of}
use Rattle.calls.proofs.CardLaws.{enough_all, enough_few}
use Rattle.calls.proofs.ResultLaws.{admitted, barred_on}
use Rattle.checking.proofs.check.check.Goals as goal

pub returns-in_err-admit : goal.returns-in_err-admit
unfolding lent_of
returns-in_err-admit c = barred_on _ _ _ _ c.from_residual.ensures.1 c.in_err-admit.ensures

pub check_in-requires : goal.check_in-requires
check_in-requires c = (admitted _ c.in_ok-admit.ensures, enough_few _ (replicate 9 0) _ c.is_short.ensures (ap not c.if-is_short.true) refl)

pub check_in-requires-else-is_short : goal.check_in-requires-else-is_short
check_in-requires-else-is_short c = (admitted _ c.in_ok-admit.ensures, enough_all _ (replicate 257 0) refl)
