-- `new` meets its contract: all blocks are zero.
use Rattle.std.proofs.Common.{rules}
use Rattle.sheet.specs.Sheet.{start}
use Rattle.sheet.proofs.state.Sheet.new.Goals as goal

pub returns : goal.returns
unfolding start
returns c = search rules
