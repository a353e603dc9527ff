-- `aim` meets its contract: the few places are enough for a short chain, the many for any.
use mathlib.Core.Path.{refl, ap}
use mathlib.Core.Bool.{not}
use lib.ListN.{replicate}
use Rattle.calls.proofs.CardLaws.{enough_all, enough_few}
use Rattle.writes.proofs.write.aim.Goals as goal

pub aim_in-requires : goal.aim_in-requires
aim_in-requires c = (c.requires, enough_few _ (replicate 9 0) _ c.is_short.ensures (ap not c.if-is_short.true) refl)

pub aim_in-requires-else-is_short : goal.aim_in-requires-else-is_short
aim_in-requires-else-is_short c = (c.requires, enough_all _ (replicate 257 0) refl)
