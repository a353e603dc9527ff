-- `snapshot` meets its contract: the few places are enough for a short chain, the many for any.
use mathlib.Core.Path.{refl, ap}
use mathlib.Core.Bool.{not}
use lib.ListN.{replicate}
use Rattle.calls.proofs.CardLaws.{enough_all, enough_few}
use Rattle.reverts.proofs.revert.snapshot.Goals as goal

pub snapshot_in-requires : goal.snapshot_in-requires
snapshot_in-requires c = (c.requires.0, c.requires.1, enough_few _ (replicate 9 0) _ c.is_short.ensures (ap not c.if-is_short.true) refl)

pub snapshot_in-requires-else-is_short : goal.snapshot_in-requires-else-is_short
snapshot_in-requires-else-is_short c = (c.requires.0, c.requires.1, enough_all _ (replicate 257 0) refl)
