-- `open_region` meets its contract: the pass finds bytes 40 to 511 of the descriptor's block as the card at entry has them.
use mathlib.Core.Path.{◌≡◌}
use lib.ListN.{length}
use borrow.Author.Rules.{rules}
use Rattle.regions.proofs.OpenedLaws.{region_opened}
use Rattle.regions.proofs.region.open_region.Goals as goal

pub returns : goal.returns
returns c =
    let name_long : length c.args.d.name ≡ 16 = search rules in
    region_opened _ _ c.args.d _ c.requires.4 c.requires.1 c.requires.2 c.copy_blocks.ensures _ _ name_long c.requires.0 c.reopened.ensures c.store_descriptor_upto.ensures
