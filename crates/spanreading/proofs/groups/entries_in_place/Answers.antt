-- `entries_in_place` meets its contract: after i turns i entries were in place.
use mathlib.Core.Path.{refl}
use native.Mathlib.Omega.{arith}
use Rattle.std.proofs.lemmas.Result.{err_from_is_err_and}
use Rattle.spanreading.proofs.PlacedLaws.{placed_start, placed_end, placed_stop, placed_more}
use Rattle.spanreading.proofs.groups.entries_in_place.Goals as goal

pub loop-i-init : goal.loop-i-init
loop-i-init c = placed_start _ _ _ _ _

pub returns-in_err-locate_in : goal.returns-in_err-locate_in
returns-in_err-locate_in c =
    let p = err_from_is_err_and c.from_residual.result c.from_residual.ensures.1 in
    rw (p.1, p.2) (placed_stop _ _ _ _ _ _ c.loop-i.invariant (omega arith) _ c.in_err-locate_in.ensures _ refl)

pub loop-i-preserved : goal.loop-i-preserved
loop-i-preserved c = placed_more _ _ _ _ _ _ c.loop-i.invariant (omega arith) _ c.in_ok-locate_in.ensures _ _ refl

pub returns : goal.returns
returns c = placed_end _ _ _ _ _ c.loop-i.i c.loop-i.invariant (omega arith)
