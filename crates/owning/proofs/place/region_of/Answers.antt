-- `region_of` meets its contract: the ends up to the block are counted.
use lib.Dec.{leb}
use Rattle.std.proofs.Common.{rules}
use Rattle.std.proofs.lemmas.Fn.{always_returns_same}
use Rattle.entries.proofs.PlaceLaws.{region_ends}
use Rattle.owning.proofs.place.region_of.Goals as goal

pub returns : goal.returns
returns c =
    let parted = c.partition_point.ensures.partitioned (λ e. leb e c.args.p.0) (always_returns_same _ _ _ (λ a r f k. search rules)) in
    let found = region_ends _ _ _ c.requires parted in
    record { value = found.0; upper_bound = found.1 }
