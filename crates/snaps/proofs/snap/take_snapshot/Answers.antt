-- `take_snapshot` meets its contract: when the old descriptor is stored, its block is as the card at entry has it.
use mathlib.Core.Path.{◌≡◌}
use lib.ListN.{length}
use Rattle.calls.proofs.SnapLaws.{snapped}
use borrow.Author.Rules.{rules}
use Rattle.snaps.proofs.snap.take_snapshot.Goals as goal

pub returns : goal.returns
returns c = let name_long : length c.args.d.name ≡ 16 = search rules in
    snapped _ _ c.args.d _ c.requires.4 c.requires.1 c.requires.2 c.requires.0 name_long c.open_region.ensures _ _ _ _ c.renamed.ensures c.linked-closed.ensures c.put_descriptor.ensures.card_after
