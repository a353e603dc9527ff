-- `mark_openings` meets its contract: after k turns the openings of k regions are flagged.
use Rattle.std.proofs.Common.{refl, add-one}
use Rattle.entries.specs.Marks.{openings_flagged}
use Rattle.flagging.proofs.flags.mark_openings.Goals as goal

pub loop-from-init : goal.loop-from-init
unfolding openings_flagged
loop-from-init c = refl

pub loop-from-preserved : goal.loop-from-preserved
unfolding openings_flagged
loop-from-preserved c = rw (add-one, ← c.loop-from.invariant) c.mark_blocks.ensures
