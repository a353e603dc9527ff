-- `list` meets its contract: few places are enough where the chain is short, and there are enough for every chain else.
use Rattle.std.proofs.Common.{refl, ap, not, replicate}
use Rattle.calls.proofs.CardLaws.{enough_few, enough_all}
use Rattle.listing.proofs.list.list.Goals as goal

pub list_in-requires : goal.list_in-requires
list_in-requires c = enough_few _ (replicate 9 0) _ c.is_short.ensures (ap not c.if-is_short.true) refl

pub list_in-requires-else-is_short : goal.list_in-requires-else-is_short
list_in-requires-else-is_short c = enough_all _ (replicate 257 0) refl
