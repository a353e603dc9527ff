-- each turn starts further on in the sheet, and numbers no more lines than there were bytes; the lent bytes keep their number
use Rattle.std.proofs.Common.{◌≡◌, ◌+◌, ◌-◌, ◌≤◌, length}
use Rattle.worksheet.proofs.main.Given as goal

abbrev pub invariant-loop-at : goal.invariant-loop-at
invariant-loop-at l = (l.at ≤ length l.lines) × (length l.lines ≤ 16384) × (l.number ≤ l.at + 1) × (length l.out.bytes.now ≡ 8192)

abbrev pub decreases-loop-at : goal.decreases-loop-at
decreases-loop-at l = length l.lines - l.at
