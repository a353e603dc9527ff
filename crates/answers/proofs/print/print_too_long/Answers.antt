-- `print_too_long` meets its contract: the answer, then a line feed.
use Rattle.std.proofs.Common.{◌≡◌, [], append-nil}
use Rattle.calls.specs.Call.{answer}
use Rattle.sheet.specs.declared.run.Addition.TheVariants.{Nothing}
use Rattle.sheet.specs.Sheet.{added_byte, added_records, line_text, too_long}
use Rattle.answers.proofs.print.print_too_long.Goals as goal

long : line_text (answer 15 0) Nothing [] ≡ too_long
unfolding line_text added_byte added_records too_long
long = simp append-nil

pub returns-clause-value : goal.returns-clause-value
returns-clause-value c = rw long at c.print_line.ensures.value
