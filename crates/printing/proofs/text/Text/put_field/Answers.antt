-- `put_field` meets its contract: the number stands where the key ends.
use Rattle.std.proofs.Common.{arith}
use Rattle.printing.proofs.TextLaws.{put_then}
use Rattle.printing.proofs.text.Text.put_field.Goals as goal

pub returns-clause-value : goal.returns-clause-value
returns-clause-value c =
    put_then _ _ _ _ _ _ _ _ c.put.ensures.value c.put_decimal.ensures.value (omega (arith, c.requires, c.put.ensures.value.0, c.put_decimal.ensures.upper_bound))
