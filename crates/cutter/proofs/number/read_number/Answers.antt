-- `read_number` meets its contract, by its tests.
use Rattle.std.proofs.Common.{◌≡◌, sym, ◌∙◌}
use lib.ListN.{length}
use borrow.Author.Tests.{eqb-true, eqb-false}
use Rattle.cutter.proofs.NumberLaws.{number_empty, number_zero, number_one, number_more}
use Rattle.cutter.proofs.number.read_number.Goals as goal
use Rattle.cutter.proofs.number.read_number.Goals.{else-digits-gt1-via-then-digits-gt1+else-starts_with, else-digits-gt1-via-else-digits-gt1}

pub returns-then-is_empty : goal.returns-then-is_empty
returns-then-is_empty c = number_empty _ (eqb-true _ 0 (sym c.is_empty.ensures ∙ c.if-is_empty.true))

pub returns-then-starts_with : goal.returns-then-starts_with
returns-then-starts_with c = number_zero _ (eqb-false _ 0 (sym c.is_empty.ensures ∙ c.if-is_empty.false)) _ c.starts_with.ensures.value c.if-digits-gt1.true c.if-starts_with.true

pub returns : goal.returns
returns c =
    let some : length c.args.digits.now ≡ 0 → ⊥ = eqb-false _ 0 (sym c.is_empty.ensures ∙ c.if-is_empty.false) in
    elim c.else-digits-gt1.branch [
      | else-digits-gt1-via-then-digits-gt1+else-starts_with w ↦ number_more _ some _ w.starts_with.ensures.value w.if-starts_with.false _ c.read_digits.ensures
      | else-digits-gt1-via-else-digits-gt1 w ↦ number_one _ some w.if-digits-gt1.false _ c.read_digits.ensures
    ]
