-- `snap` meets its contract: admission, the name, where it is taken, room, and what is stored.
use mathlib.Core.Path.{refl}
use Rattle.calls.specs.Ladder.{snap_rows}
use Rattle.calls.specs.Meaning.{lent_of, answer_of, rows_of}
use Rattle.calls.proofs.StepLaws.{step_refused}
use Rattle.calls.proofs.ResultLaws.{barred_on, refused_on, admitted}
use Rattle.calls.proofs.RowLaws.{named_4}
use Rattle.calls.proofs.SiteLaws.{site_refused, site_inside, site_11, site_ready, site_done}
use Rattle.snaps.proofs.snap.snap.Goals as goal

pub returns-in_err-admit : goal.returns-in_err-admit
unfolding lent_of
returns-in_err-admit c = barred_on _ _ _ _ c.from_residual.ensures.1 c.in_err-admit.ensures

pub returns-then-not-is_name : goal.returns-then-not-is_name
unfolding lent_of answer_of rows_of snap_rows
returns-then-not-is_name c = step_refused _ _ _ _ (search (named_4, c.in_ok-admit.ensures)) refl

pub site-requires : goal.site-requires
site-requires c = admitted _ c.in_ok-admit.ensures

pub returns-in_err-alpha : goal.returns-in_err-alpha
unfolding lent_of
returns-in_err-alpha c = refused_on _ _ _ _ c.from_residual-in_err-alpha.ensures.1 (site_refused _ _ c.in_ok-admit.ensures _ c.is_name.ensures c.if-not-is_name.false _ c.in_err-alpha.ensures)

pub read_descriptor-d-requires : goal.read_descriptor-d-requires
read_descriptor-d-requires c = site_inside _ _ c.in_ok-admit.ensures _ c.is_name.ensures c.if-not-is_name.false _ c.in_ok-alpha.ensures

pub returns-then-card-end : goal.returns-then-card-end
unfolding lent_of
returns-then-card-end c = step_refused _ _ _ _ (search (site_11, c.in_ok-admit.ensures, c.in_ok-alpha.ensures)) refl

pub take_snapshot-requires : goal.take_snapshot-requires
take_snapshot-requires c = site_ready _ _ c.in_ok-admit.ensures _ c.is_name.ensures c.if-not-is_name.false _ c.in_ok-alpha.ensures _ c.read_descriptor-d.ensures _ c.cost-cost.ensures c.if-card-end.false

pub returns : goal.returns
returns c = search (site_done, c.in_ok-admit.ensures, c.in_ok-alpha.ensures)
