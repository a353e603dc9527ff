-- `cut_read` meets its contract, by its tests.
use Rattle.cutter.specs.Words.{key_from, key_block}
use Rattle.cutter.specs.Grammar.{line_of_read}
use Rattle.cutter.proofs.WordLaws.{key_by}
use Rattle.cutter.proofs.NumberLaws.{after_none, after_some}
use Rattle.forms.proofs.form.cut_read.Goals as goal

pub returns-in_err-from : goal.returns-in_err-from
unfolding line_of_read
returns-in_err-from c = rw (c.from_residual.ensures, key_by key_from _ _ c.in_err-from.ensures.cases)

pub returns-in_err-block : goal.returns-in_err-block
unfolding line_of_read
returns-in_err-block c = rw (c.from_residual-in_err-block.ensures, key_by key_from _ _ c.in_ok-from.ensures.cases.0, after_none key_block _ _ c.read_pair.ensures c.in_err-block.was)

pub returns : goal.returns
unfolding line_of_read
returns c =
    let key = c.in_ok-from.ensures.cases in
    let q = after_some key_block _ _ c.read_pair.ensures _ c.in_ok-block.was in
    rw (key_by key_from _ _ key.0, q.0, q.1, c.read_from.ensures, key.1)
