-- `put_record` meets its contract: each part stands where the one before it ends, all of them in the bytes that are lent to it.
use Rattle.std.proofs.Common.{sym, ◌∙◌, arith}
use Rattle.printing.proofs.TextLaws.{record_put}
use Rattle.reporting.proofs.report.put_record.Goals as goal

pub returns-clause-value : goal.returns-clause-value
returns-clause-value c =
    let same = sym (c.put-2.ensures.lent.0 ∙ c.put_field-3.ensures.lent.0 ∙ c.put_field-2.ensures.lent.0 ∙ c.put_field.ensures.lent.0 ∙ c.put_name.ensures.lent.0 ∙ c.put.ensures.lent.0 ∙ c.after-out.ensures.lent) in
    record_put c.args.r _ _ _ _ _ _ _ _ _ _ _ _ _ _ (rw (c.after-out.ensures.value.0, c.after-out.ensures.value.1) at c.put.ensures.value) c.put_name.ensures.value c.put_field.ensures.value
    c.put_field-2.ensures.value c.put_field-3.ensures.value (c.put-2.ensures.value.0, grind (arith, same) ∙ c.put-2.ensures.value.1)
    (omega (arith, c.requires, c.after-out.ensures.value.0, c.put.ensures.value.0, c.put_name.ensures.upper_bound, c.put_field.ensures.upper_bound, c.put_field-2.ensures.upper_bound, c.put_field-3.ensures.upper_bound, c.put-2.ensures.value.0))
