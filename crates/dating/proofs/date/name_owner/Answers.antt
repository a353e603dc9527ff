-- `name_owner` meets its contract, case by case.
use mathlib.Core.Path.{refl, ap}
use borrow.Author.Tests.{eq-eqb, ne_eqb}
use Rattle.entries.specs.Entry.{found_block}
use Rattle.calls.specs.Call.{NameGiven}
use Rattle.calls.specs.Effect.{given_at}
use Rattle.calls.proofs.ResultLaws.{is_passed}
use Rattle.entries.proofs.OwnerLaws.{located_index, located_block, located_name}
use Rattle.calls.proofs.ReadLaws.{visit_misplaced, visit_nil, visit_named}
use Rattle.dating.proofs.date.name_owner.Goals as goal

pub returns-in_err-slot-clause-value : goal.returns-in_err-slot-clause-value
returns-in_err-slot-clause-value c = rw (is_passed _ _ c.from_residual.ensures.1) (search (visit_misplaced, c.in_err-slot.ensures))

pub returns-then-slot-eq0-clause-value : goal.returns-then-slot-eq0-clause-value
returns-then-slot-eq0-clause-value c = visit_nil _ _ _ _ c.in_ok-slot.ensures _ _ refl c.if-slot-eq0.true

pub start-start-requires : goal.start-start-requires
start-start-requires c = located_index _ _ _ _ c.requires.0 _ _ c.in_ok-slot.ensures _ _ refl c.if-slot-eq0.false

pub name_at-requires : goal.name_at-requires
name_at-requires c = rw c.start-start.ensures (located_block _ _ _ _ c.requires.0 _ _ c.in_ok-slot.ensures _ _ refl c.if-slot-eq0.false)

pub returns-clause-value : goal.returns-clause-value
returns-clause-value c = visit_named _ _ _ _ c.in_ok-slot.ensures _ _ refl c.if-slot-eq0.false _ (located_name _ _ _ _ c.requires.0 _ _ c.in_ok-slot.ensures _ _ refl c.if-slot-eq0.false _ (rw c.start-start.ensures at c.name_at.ensures))

pub returns-then-slot-eq0-clause-given : goal.returns-then-slot-eq0-clause-given
unfolding given_at found_block
returns-then-slot-eq0-clause-given c = rw (← c.in_ok-slot.ensures, eq-eqb _ _ c.if-slot-eq0.true)

pub returns-clause-given : goal.returns-clause-given
unfolding given_at found_block
returns-clause-given c =
    rw (← c.in_ok-slot.ensures, ne_eqb _ _ c.if-slot-eq0.false)
    (ap NameGiven (located_name _ _ _ _ c.requires.0 _ _ c.in_ok-slot.ensures _ _ refl c.if-slot-eq0.false _ (rw c.start-start.ensures at c.name_at.ensures)))
