-- `is_unnamed` meets its contract, case by case.
use mathlib.Core.Path.{ap}
use mathlib.Core.Bool.{not}
use Rattle.targets.proofs.target.is_unnamed.Goals as goal

pub returns-in-Snapshot : goal.returns-in-Snapshot
returns-in-Snapshot c = rw c.in-Snapshot.is (ap not c.is_name.ensures)
