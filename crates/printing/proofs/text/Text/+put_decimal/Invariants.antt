-- `put_decimal` ends: the number falls to a tenth of it.
use Rattle.printing.proofs.text.Text.+put_decimal.Given as goal

abbrev pub decreases-put_decimal : goal.decreases-put_decimal
decreases-put_decimal l = l.v
