-- `is_bad` meets its contract, by its tests.
use Rattle.calls.proofs.StepLaws.{area_uneven, area_small, area_large}
use Rattle.admitting.proofs.area.is_bad.Goals as goal

pub returns-then-card-ne0 : goal.returns-then-card-ne0
returns-then-card-ne0 c = search area_uneven

pub returns-then-n-lt-FEWEST_BLOCKS : goal.returns-then-n-lt-FEWEST_BLOCKS
returns-then-n-lt-FEWEST_BLOCKS c = search area_small

pub returns : goal.returns
returns c = search area_large
