-- `admit` meets its contract, by the test of the area.
use Rattle.calls.proofs.RowLaws.{admission_1, admission_0}
use Rattle.admitting.proofs.area.admit.Goals as goal

pub returns-then-is_bad : goal.returns-then-is_bad
returns-then-is_bad c = search admission_1

pub returns : goal.returns
returns c = search admission_0
