-- `cut_one` meets its contract, by its tests.
use Rattle.cutter.specs.Words.{op_list, op_check}
use Rattle.cutter.specs.Grammar.{line_of_one}
use Rattle.cutter.proofs.WordLaws.{same_by}
use Rattle.forms.proofs.form.cut_one.Goals as goal

pub returns-then-eq : goal.returns-then-eq
unfolding line_of_one
returns-then-eq c = rw (same_by _ _ op_list _ _ c.eq.ensures c.as_slice.ensures c.if-eq.true)

pub returns-then-eq-2 : goal.returns-then-eq-2
unfolding line_of_one
returns-then-eq-2 c = rw (same_by _ _ op_list _ _ c.eq.ensures c.as_slice.ensures c.if-eq.false, same_by _ _ op_check _ _ c.eq-2.ensures c.as_slice-2.ensures c.if-eq-2.true)

pub returns : goal.returns
unfolding line_of_one
returns c = rw (same_by _ _ op_list _ _ c.eq.ensures c.as_slice.ensures c.if-eq.false, same_by _ _ op_check _ _ c.eq-2.ensures c.as_slice-2.ensures c.if-eq-2.false)
