-- `write` meets its contract: admission, the caller's block, where it goes, and what it does there.
use mathlib.Core.Path.{refl}
use Rattle.calls.specs.Meaning.{lent_of}
use Rattle.calls.proofs.StepLaws.{step_refused}
use Rattle.calls.proofs.ResultLaws.{barred_on, refused_on, admitted}
use Rattle.calls.proofs.WriteLaws.{write_9}
use Rattle.calls.proofs.AimLaws.{aim_refused, aim_inside, aim_ready, aim_done}
use Rattle.writes.proofs.write.write.Goals as goal

pub returns-in_err-admit : goal.returns-in_err-admit
unfolding lent_of
returns-in_err-admit c = barred_on _ _ _ _ c.from_residual.ensures.1 c.in_err-admit.ensures

pub returns-then-block-ne-BLOCK_SIZE : goal.returns-then-block-ne-BLOCK_SIZE
unfolding lent_of
returns-then-block-ne-BLOCK_SIZE c = step_refused _ _ _ _ (search (write_9, c.in_ok-admit.ensures)) refl

pub aim-requires : goal.aim-requires
aim-requires c = admitted _ c.in_ok-admit.ensures

pub returns-in_err-at : goal.returns-in_err-at
unfolding lent_of
returns-in_err-at c = refused_on _ _ _ _ c.from_residual-in_err-at.ensures.1 (aim_refused _ _ _ c.in_ok-admit.ensures c.if-block-ne-BLOCK_SIZE.false _ c.in_err-at.ensures)

pub read_descriptor-d-requires : goal.read_descriptor-d-requires
read_descriptor-d-requires c = aim_inside _ _ _ c.in_ok-admit.ensures c.if-block-ne-BLOCK_SIZE.false c.in_ok-at.at c.in_ok-at.ensures

pub write_found-requires : goal.write_found-requires
write_found-requires c = aim_ready _ _ _ c.in_ok-admit.ensures c.if-block-ne-BLOCK_SIZE.false c.in_ok-at.at c.in_ok-at.ensures _ c.read_descriptor-d.ensures

pub returns : goal.returns
returns c = aim_done _ _ _ c.in_ok-admit.ensures c.if-block-ne-BLOCK_SIZE.false c.in_ok-at.at c.in_ok-at.ensures _ c.read_descriptor-d.ensures _ _ c.write_found.ensures
