-- `put_byte` meets its contract, by what `put_field` ensures.
use Rattle.printing.specs.Text.{byte_text}
use Rattle.reporting.proofs.report.put_byte.Goals as goal

pub returns-clause-value : goal.returns-clause-value
unfolding byte_text
returns-clause-value c = rw (← c.from.ensures) c.put_field.ensures.value
