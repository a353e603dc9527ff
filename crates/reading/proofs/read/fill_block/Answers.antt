-- `fill_block` meets its contract, by its test.
use mathlib.Core.Path.{sym}
use borrow.Author.Tests.{eqb-false}
use Rattle.calls.proofs.ReadLaws.{filled_nil, filled_block_lem}
use Rattle.reading.proofs.read.fill_block.Goals as goal

pub returns-then-is_nil : goal.returns-then-is_nil
returns-then-is_nil c = filled_nil _ _ _ _ (sym c.if-is_nil.ensures) c.requires.0 (c.fill.ensures.after (λ y e. e))

pub returns : goal.returns
returns c =
    let some = sym c.if-is_nil.ensures in
    filled_block_lem _ _ _ _ some c.requires.0 (c.requires.1 (eqb-false _ 0 some)) (rw c.start-at.ensures at c.put_whole.ensures)
