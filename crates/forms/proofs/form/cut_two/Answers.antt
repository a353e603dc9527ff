-- `cut_two` meets its contract, by its tests.
use Rattle.std.proofs.Math.Bool.{and-false}
use Rattle.cutter.specs.Words.{op_snap, op_revert, key_name}
use Rattle.cutter.specs.Grammar.{line_of_two}
use Rattle.cutter.proofs.WordLaws.{same_by, key_by}
use Rattle.forms.proofs.form.cut_two.Goals as goal

pub returns-in_err-strip_prefix : goal.returns-in_err-strip_prefix
unfolding line_of_two
returns-in_err-strip_prefix c = rw (c.from_residual.ensures, key_by key_name _ _ c.in_err-strip_prefix.ensures.cases) (simp and-false)

pub returns-then-eq : goal.returns-then-eq
unfolding line_of_two
returns-then-eq c =
    let key = c.in_ok-strip_prefix.ensures.cases in
    rw (same_by _ _ op_snap _ _ c.eq.ensures c.as_slice.ensures c.if-eq.true, key_by key_name _ _ key.0, c.pad_name-name.ensures, key.1)

pub returns-then-eq-2 : goal.returns-then-eq-2
unfolding line_of_two
returns-then-eq-2 c =
    let key = c.in_ok-strip_prefix.ensures.cases in
    rw (same_by _ _ op_snap _ _ c.eq.ensures c.as_slice.ensures c.if-eq.false, same_by _ _ op_revert _ _ c.eq-2.ensures c.as_slice-2.ensures c.if-eq-2.true, key_by key_name _ _ key.0, c.pad_name-name.ensures, key.1)

pub returns : goal.returns
unfolding line_of_two
returns c = rw (same_by _ _ op_snap _ _ c.eq.ensures c.as_slice.ensures c.if-eq.false, same_by _ _ op_revert _ _ c.eq-2.ensures c.as_slice-2.ensures c.if-eq-2.false)
