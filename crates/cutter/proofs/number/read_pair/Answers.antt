-- `read_pair` meets its contract, by what `strip_prefix` and `read_number` ensure.
use mathlib.Core.Path.{◌∙◌, ap}
use Rattle.cutter.specs.ReadNumber.{number_in}
use Rattle.cutter.proofs.WordLaws.{key_by}
use Rattle.cutter.proofs.NumberLaws.{pair_none, pair_number}
use Rattle.cutter.proofs.number.read_pair.Goals as goal

pub returns-in_err-strip_prefix : goal.returns-in_err-strip_prefix
returns-in_err-strip_prefix c = c.from_residual.ensures ∙ pair_none _ _ (key_by _ _ _ c.in_err-strip_prefix.ensures.cases)

pub returns : goal.returns
returns c = let e = c.in_ok-strip_prefix.ensures.cases in
    pair_number _ _ (key_by _ _ _ e.0) _ (c.read_number.ensures ∙ ap number_in e.1)
