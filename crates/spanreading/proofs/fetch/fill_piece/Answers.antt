-- `fill_piece` meets its contract, by its test.
use mathlib.Core.Path.{sym, ◌∙◌}
use native.Mathlib.Omega.{arith}
use borrow.Author.Tests.{eqb-false}
use Rattle.spanreading.proofs.FillLaws.{part_zeros, piece_nil, piece_part}
use Rattle.spanreading.proofs.fetch.fill_piece.Goals as goal

pub returns-then-is_nil : goal.returns-then-is_nil
returns-then-is_nil c = piece_nil _ _ _ _ _ (sym c.if-is_nil.ensures) c.requires.0 (c.copy_from_slice.ensures.after ∙ part_zeros 512 0 _ (omega arith))

pub returns : goal.returns
returns c =
    let some = sym c.if-is_nil.ensures in
    piece_part _ _ _ _ some (c.requires.1 (eqb-false _ 0 some)) c.requires.0 _ (rw c.start.ensures at c.put_part.ensures)
