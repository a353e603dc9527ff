-- `cut_three` meets its contract, by its tests.
use Rattle.cutter.specs.Words.{op_write, op_read}
use Rattle.cutter.specs.Grammar.{line_of_three}
use Rattle.cutter.proofs.WordLaws.{same_by}
use Rattle.forms.proofs.form.cut_three.Goals as goal

pub returns-then-eq : goal.returns-then-eq
unfolding line_of_three
returns-then-eq c = rw (same_by _ _ op_write _ _ c.eq.ensures c.as_slice.ensures c.if-eq.true) c.cut_write.ensures

pub returns-then-eq-2 : goal.returns-then-eq-2
unfolding line_of_three
returns-then-eq-2 c =
    rw (same_by _ _ op_write _ _ c.eq.ensures c.as_slice.ensures c.if-eq.false, same_by _ _ op_read _ _ c.eq-2.ensures c.as_slice-2.ensures c.if-eq-2.true) c.cut_read.ensures

pub returns : goal.returns
unfolding line_of_three
returns c = rw (same_by _ _ op_write _ _ c.eq.ensures c.as_slice.ensures c.if-eq.false, same_by _ _ op_read _ _ c.eq-2.ensures c.as_slice-2.ensures c.if-eq-2.false)
