-- `put_name` meets its contract: the first bytes, as many as `name_length` says.
use Rattle.printing.specs.Text.{name_text}
use Rattle.printing.proofs.text.Text.put_name.Goals as goal

pub returns-clause-value : goal.returns-clause-value
unfolding name_text
returns-clause-value c = rw c.name_length.ensures.value at c.put.ensures.value
