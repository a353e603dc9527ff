-- `read_from` meets its contract, by its test.
use Rattle.cutter.specs.Words.{star}
use Rattle.cutter.specs.Grammar.{read_from}
use Rattle.cutter.proofs.WordLaws.{same_by}
use Rattle.forms.proofs.form.read_from.Goals as goal

pub returns-then-eq : goal.returns-then-eq
unfolding read_from
returns-then-eq c = rw (same_by _ _ star _ _ c.eq.ensures c.as_slice.ensures c.if-eq.true)

pub returns : goal.returns
unfolding read_from
returns c = rw (same_by _ _ star _ _ c.eq.ensures c.as_slice.ensures c.if-eq.false, c.pad_name.ensures)
