-- `blocks_in_place` meets its contract: after each turn what is left of the blocks decides.
use mathlib.Core.Path.{refl}
use native.Mathlib.Omega.{arith}
use Rattle.std.proofs.lemmas.Result.{err_from_is_err_and}
use Rattle.spanreading.proofs.GroupLaws.{groups_stop, groups_more, groups_end}
use Rattle.spanreading.proofs.groups.blocks_in_place.Goals as goal

pub returns-in_err-group_in_place : goal.returns-in_err-group_in_place
returns-in_err-group_in_place c =
    let p = err_from_is_err_and c.from_residual.result c.from_residual.ensures.1 in
    rw (p.1, p.2) (groups_stop _ _ _ _ _ _ c.loop-l.invariant.2 (omega arith) _ c.in_err-group_in_place.ensures _ refl)

pub loop-l-preserved : goal.loop-l-preserved
loop-l-preserved c = (omega arith, omega arith, groups_more _ _ _ _ _ _ c.loop-l.invariant.2 (omega arith) _ c.in_ok-group_in_place.ensures refl)

pub returns : goal.returns
returns c = groups_end _ _ _ _ c.loop-l.l (omega arith) c.loop-l.invariant.2
