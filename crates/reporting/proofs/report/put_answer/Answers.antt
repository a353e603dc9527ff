-- `put_answer` meets its contract: the place stands where the number ends.
use Rattle.std.proofs.Common.{arith}
use Rattle.printing.proofs.TextLaws.{answer_put}
use Rattle.reporting.proofs.report.put_answer.Goals as goal

pub returns-clause-value : goal.returns-clause-value
returns-clause-value c =
    answer_put c.args.a _ _ _ _ _ _ c.put_field.ensures.value c.put_field-2.ensures.value (omega (arith, c.requires, c.put_field.ensures.upper_bound, c.put_field-2.ensures.upper_bound))
