-- `write_span` meets its contract: admission, then the walk with places that are enough.
use mathlib.Core.Path.{refl, ap}
use mathlib.Core.Bool.{not}
use lib.ListN.{replicate}
use Rattle.calls.specs.Meaning.{lent_of}
use Rattle.calls.proofs.CardLaws.{enough_all, enough_few}
use Rattle.calls.proofs.ResultLaws.{barred_on, admitted}
use Rattle.spanwriting.proofs.span.write_span.Goals as goal

pub returns-in_err-admit : goal.returns-in_err-admit
unfolding lent_of
returns-in_err-admit c = barred_on _ _ _ _ c.from_residual.ensures.1 c.in_err-admit.ensures

pub write_in-requires : goal.write_in-requires
write_in-requires c = (admitted _ c.in_ok-admit.ensures, enough_few _ (replicate 9 0) _ c.is_short.ensures (ap not c.if-is_short.true) refl)

pub write_in-requires-else-is_short : goal.write_in-requires-else-is_short
write_in-requires-else-is_short c = (admitted _ c.in_ok-admit.ensures, enough_all _ (replicate 257 0) refl)
