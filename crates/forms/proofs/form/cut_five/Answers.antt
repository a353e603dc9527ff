-- `cut_five` meets its contract, by its tests.
use Rattle.std.proofs.Common.{refl, sym, ◌∙◌}
use borrow.Author.Tests.{lt-leb, le-leb, not-true, not-false}
use Rattle.cutter.specs.Words.{op_ream, key_layout, key_blocks, key_volume, key_name}
use Rattle.cutter.specs.Grammar.{line_of_five}
use Rattle.cutter.proofs.WordLaws.{same_by, key_by}
use Rattle.cutter.proofs.NumberLaws.{after_none, after_some}
use Rattle.forms.proofs.form.cut_five.Goals as goal

pub returns-then-ne : goal.returns-then-ne
unfolding line_of_five
returns-then-ne c = rw (same_by _ _ op_ream _ _ refl c.as_slice.ensures (not-true _ (sym c.ne.ensures ∙ c.if-ne.true)))

pub returns-in_err-layout : goal.returns-in_err-layout
unfolding line_of_five
returns-in_err-layout c =
    rw (c.from_residual.ensures, same_by _ _ op_ream _ _ refl c.as_slice.ensures (not-false _ (sym c.ne.ensures ∙ c.if-ne.false)), after_none key_layout _ _ c.read_pair.ensures c.in_err-layout.was)

pub returns-in_err-blocks : goal.returns-in_err-blocks
unfolding line_of_five
returns-in_err-blocks c =
    let layout = after_some key_layout _ _ c.read_pair.ensures _ c.in_ok-layout.was in
    rw (c.from_residual-in_err-blocks.ensures, same_by _ _ op_ream _ _ refl c.as_slice.ensures (not-false _ (sym c.ne.ensures ∙ c.if-ne.false)), layout.0, after_none key_blocks _ _ c.read_pair-2.ensures c.in_err-blocks.was)

pub returns-then-blocks-gt-SHEET_BLOCKS : goal.returns-then-blocks-gt-SHEET_BLOCKS
unfolding line_of_five
returns-then-blocks-gt-SHEET_BLOCKS c =
    let layout = after_some key_layout _ _ c.read_pair.ensures _ c.in_ok-layout.was in
    let blocks = after_some key_blocks _ _ c.read_pair-2.ensures _ c.in_ok-blocks.was in
    rw (same_by _ _ op_ream _ _ refl c.as_slice.ensures (not-false _ (sym c.ne.ensures ∙ c.if-ne.false)), layout.0, blocks.0, blocks.1, lt-leb _ 64 c.if-blocks-gt-SHEET_BLOCKS.true)

pub returns-in_err-volume : goal.returns-in_err-volume
unfolding line_of_five
returns-in_err-volume c =
    let layout = after_some key_layout _ _ c.read_pair.ensures _ c.in_ok-layout.was in
    let blocks = after_some key_blocks _ _ c.read_pair-2.ensures _ c.in_ok-blocks.was in
    rw (c.from_residual-in_err-volume.ensures, same_by _ _ op_ream _ _ refl c.as_slice.ensures (not-false _ (sym c.ne.ensures ∙ c.if-ne.false)), layout.0, blocks.0, blocks.1, le-leb _ 64 c.if-blocks-gt-SHEET_BLOCKS.false, after_none key_volume _ _ c.read_pair-3.ensures c.in_err-volume.was)

pub returns-in_err-strip_prefix : goal.returns-in_err-strip_prefix
unfolding line_of_five
returns-in_err-strip_prefix c =
    let layout = after_some key_layout _ _ c.read_pair.ensures _ c.in_ok-layout.was in
    let blocks = after_some key_blocks _ _ c.read_pair-2.ensures _ c.in_ok-blocks.was in
    let volume = after_some key_volume _ _ c.read_pair-3.ensures _ c.in_ok-volume.was in
    rw (c.from_residual-in_err-strip_prefix.ensures, same_by _ _ op_ream _ _ refl c.as_slice.ensures (not-false _ (sym c.ne.ensures ∙ c.if-ne.false)), layout.0, blocks.0, blocks.1, le-leb _ 64 c.if-blocks-gt-SHEET_BLOCKS.false, volume.0, key_by key_name _ _ c.in_err-strip_prefix.ensures.cases)

pub returns : goal.returns
unfolding line_of_five
returns c =
    let layout = after_some key_layout _ _ c.read_pair.ensures _ c.in_ok-layout.was in
    let blocks = after_some key_blocks _ _ c.read_pair-2.ensures _ c.in_ok-blocks.was in
    let volume = after_some key_volume _ _ c.read_pair-3.ensures _ c.in_ok-volume.was in
    let key = c.in_ok-strip_prefix.ensures.cases in
    rw (same_by _ _ op_ream _ _ refl c.as_slice.ensures (not-false _ (sym c.ne.ensures ∙ c.if-ne.false)), layout.0, layout.1, blocks.0, blocks.1, le-leb _ 64 c.if-blocks-gt-SHEET_BLOCKS.false, volume.0, volume.1, key_by key_name _ _ key.0, c.pad_name-name.ensures, key.1)
