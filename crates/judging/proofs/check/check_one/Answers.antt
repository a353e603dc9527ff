-- `check_one` meets its contract: the walk of the layout takes all entries.
use Rattle.entries.proofs.OpeningLaws.{one_tables_ready, one_phi_ready, one_by_tables, one_by_phi}
use Rattle.judging.proofs.check.check_one.Goals as goal

pub take_tables-requires : goal.take_tables-requires
take_tables-requires c =
    one_tables_ready _ _ _ _ c.requires.through _ c.table_count-n.ensures.value c.if-d-eq1.true _ c.requires.flags

pub take_phi-requires : goal.take_phi-requires
take_phi-requires c =
    one_phi_ready _ _ _ _ c.requires.through _ c.table_count-n.ensures.value c.if-d-eq1.false _ c.requires.flags

pub returns-then-d-eq1 : goal.returns-then-d-eq1
returns-then-d-eq1 c =
    one_by_tables _ _ _ _ c.requires.through _ c.table_count-n.ensures.value _ _ _ c.if-d-eq1.true c.take_tables.ensures

pub returns-else-d-eq1 : goal.returns-else-d-eq1
returns-else-d-eq1 c =
    one_by_phi _ _ _ _ c.requires.through _ c.table_count-n.ensures.value _ _ _ c.if-d-eq1.false c.take_phi.ensures
