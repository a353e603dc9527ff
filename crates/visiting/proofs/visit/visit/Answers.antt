-- `visit` meets its contract, row by row up to that of the chain.
use mathlib.Core.Path.{refl, sym, ap, ◌∙◌}
use mathlib.Core.Bool.{not}
use lib.ListN.{replicate}
use Rattle.calls.proofs.ResultLaws.{is_passed, refused_set, admitted}
use Rattle.calls.proofs.CardLaws.{enough_few, enough_all}
use Rattle.calls.proofs.ReadLaws.{visit_barred, visit_4, visit_refused}
use Rattle.visiting.proofs.visit.visit.Goals as goal

pub returns-in_err-admit-clause-value : goal.returns-in_err-admit-clause-value
returns-in_err-admit-clause-value c = rw (is_passed _ _ c.from_residual.ensures.1) (visit_barred _ _ _ _ _ c.in_err-admit.ensures (refused_set _))

pub returns-then-is_unnamed-clause-value : goal.returns-then-is_unnamed-clause-value
returns-then-is_unnamed-clause-value c = visit_refused _ _ _ _ _ _ (search (visit_4, c.in_ok-admit.ensures)) refl

pub visit_in-requires-clause-area : goal.visit_in-requires-clause-area
visit_in-requires-clause-area c = admitted _ c.in_ok-admit.ensures

pub visit_in-requires-clause-called : goal.visit_in-requires-clause-called
visit_in-requires-clause-called c = sym c.is_unnamed.ensures ∙ c.if-is_unnamed.false

pub visit_in-requires-clause-places : goal.visit_in-requires-clause-places
visit_in-requires-clause-places c = enough_few _ (replicate 9 0) _ c.is_short.ensures (ap not c.if-is_short.true) refl

pub visit_in-requires-else-is_short-clause-area : goal.visit_in-requires-else-is_short-clause-area
visit_in-requires-else-is_short-clause-area c = admitted _ c.in_ok-admit.ensures

pub visit_in-requires-else-is_short-clause-called : goal.visit_in-requires-else-is_short-clause-called
visit_in-requires-else-is_short-clause-called c = sym c.is_unnamed.ensures ∙ c.if-is_unnamed.false

pub visit_in-requires-else-is_short-clause-places : goal.visit_in-requires-else-is_short-clause-places
visit_in-requires-else-is_short-clause-places c = enough_all _ (replicate 257 0) refl
