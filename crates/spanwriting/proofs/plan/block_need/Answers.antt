-- `block_need` meets its contract, by its test.
use mathlib.Core.Path.{sym, ◌∙◌}
use borrow.Author.Tests.{eq-eqb, eqb-true, eqb-false}
use Rattle.blocks.proofs.BoolLaws.{no}
use Rattle.spanwriting.proofs.ActiveCards.{active_ready}
use Rattle.spanwriting.proofs.PlanLaws.{in_place, counted_first, counted_group, counted_later}
use Rattle.calls.proofs.AimLaws.{entry_is}
use Rattle.spanwriting.proofs.plan.block_need.Goals as goal
use Rattle.spanwriting.proofs.plan.block_need.Goals.{then-i-eq0, else-i-eq0}

pub entry_of-slot-requires : goal.entry_of-slot-requires
entry_of-slot-requires c = ((_, _, active_ready _ _ _ _ c.requires.0.2), c.requires.2, (_, _, entry_is _ (in_place _ c.requires.1 _ c.requires.0.2.active _ c.requires.2)))

pub returns-then-l-eq0 : goal.returns-then-l-eq0
returns-then-l-eq0 c = elim c.if-i-eq0.branch [
  | then-i-eq0 w ↦ counted_first _ _ c.requires.0.2.active _ _ _ c.entry_of-slot.ensures _ c.need_of-taken.ensures w.if-i-eq0.true
  | else-i-eq0 w ↦ counted_group _ _ c.requires.0.2.active _ _ _ c.entry_of-slot.ensures _ c.need_of-taken.ensures (eqb-true _ _ (sym w.value-is ∙ c.if-l-eq0.true))
]

pub returns-else-l-eq0 : goal.returns-else-l-eq0
returns-else-l-eq0 c = elim c.if-i-eq0.branch [
  | then-i-eq0 w ↦ no (sym c.if-l-eq0.false ∙ w.value-is ∙ eq-eqb _ 0 w.if-i-eq0.true)
  | else-i-eq0 w ↦ c.min.ensures ∙ counted_later _ _ c.requires.0.2.active _ _ _ c.entry_of-slot.ensures _ c.need_of-taken.ensures w.if-i-eq0.false (eqb-false _ _ (sym w.value-is ∙ c.if-l-eq0.false))
]
