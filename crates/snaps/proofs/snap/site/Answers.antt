-- `site` meets its contract: the few places are enough for a short chain, the many for any.
use mathlib.Core.Path.{refl, ap}
use mathlib.Core.Bool.{not}
use lib.ListN.{replicate}
use Rattle.calls.proofs.CardLaws.{enough_all, enough_few}
use Rattle.snaps.proofs.snap.site.Goals as goal

pub site_in-requires : goal.site_in-requires
site_in-requires c = (c.requires, enough_few _ (replicate 9 0) _ c.is_short.ensures (ap not c.if-is_short.true) refl)

pub site_in-requires-else-is_short : goal.site_in-requires-else-is_short
site_in-requires-else-is_short c = (c.requires, enough_all _ (replicate 257 0) refl)
