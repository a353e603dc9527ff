-- `make_plan` meets its contract, test by test.
use mathlib.Core.Path.{refl}
use borrow.Author.Rules.{rules}
use Prim.Native.Nat.{◌+◌}
use lib.ListN.{take}
use Rattle.calls.specs.Parts.{SoundCard}
use Rattle.calls.proofs.ResultLaws.{refused_test, admitted, walk_card}
use Rattle.calls.proofs.ListingLaws.{list_1, list_6, list_14, filling_refused, filling_accepted}
use Rattle.listing.proofs.PlanLaws.{found_1, found_6, found_14, found_0, plan_is}
use Rattle.listing.proofs.list.make_plan.Goals as goal
use Rattle.listing.proofs.list.make_plan.Goals.{In-Ok}

-- the card past the walk
sound : (c : In-Ok) → SoundCard c.args.card.now c.in-Ok.count (take (c.in-Ok.count + 1) c.walk_chain.new.starts)
sound c = walk_card _ _ c.walk_chain.ensures.value _ c.in-Ok.is _ c.in-Ok.ensures.starts_after (admitted _ c.in_default.ensures)

pub returns-in-Err-clause-value : goal.returns-in-Err-clause-value
returns-in-Err-clause-value c records long = filling_refused _ _ _ _ (list_1 _ _ _ c.in-Err.ensures) (refused_test _)

pub returns-in-Err-walk_chain-clause-value : goal.returns-in-Err-walk_chain-clause-value
returns-in-Err-walk_chain-clause-value c records long = rw c.from.ensures (filling_refused _ _ _ _ (list_6 _ _ (admitted _ c.in_default.ensures) _ c.in-Err-walk_chain.ensures.value refl) refl)

pub returns-then-room-count-clause-value : goal.returns-then-room-count-clause-value
returns-then-room-count-clause-value c records long = filling_refused _ _ _ _ (list_14 _ _ _ _ (sound (goal.at.returns-then-room-count-clause-value c).In-Ok) (rw long c.if-room-count.true)) refl

pub returns-clause-value : goal.returns-clause-value
returns-clause-value c records long = filling_accepted _ _ _ _ (sound (goal.at.returns-clause-value c).In-Ok) (rw long c.if-room-count.false)

-- the same by what the walk found
pub returns-in-Err-clause-filling : goal.returns-in-Err-clause-filling
returns-in-Err-clause-filling c = found_1 _ _ _ c.in-Err.ensures

pub returns-in-Err-walk_chain-clause-filling : goal.returns-in-Err-walk_chain-clause-filling
returns-in-Err-walk_chain-clause-filling c = rw c.from.ensures (found_6 _ _ c.in_default.ensures _ c.in-Err-walk_chain.ensures.value refl)

pub returns-then-room-count-clause-filling : goal.returns-then-room-count-clause-filling
returns-then-room-count-clause-filling c = found_14 _ _ c.in_default.ensures _ c.in-Ok.ensures.value refl c.if-room-count.true

pub returns-clause-filling : goal.returns-clause-filling
returns-clause-filling c = found_0 _ _ c.in_default.ensures _ c.in-Ok.ensures.value refl c.if-room-count.false

pub returns-clause-sound : goal.returns-clause-sound
returns-clause-sound c = sound (goal.at.returns-clause-sound c).In-Ok

-- so these and the places are the plan, where all places were lent as zeros
pub returns-in-Err-clause-plan : goal.returns-in-Err-clause-plan
returns-in-Err-clause-plan c = plan_is _ _ _ (returns-in-Err-clause-filling c) _ _ (search rules)

pub returns-in-Err-walk_chain-clause-plan : goal.returns-in-Err-walk_chain-clause-plan
returns-in-Err-walk_chain-clause-plan c = plan_is _ _ _ (returns-in-Err-walk_chain-clause-filling c) _ _ (search rules)

pub returns-then-room-count-clause-plan : goal.returns-then-room-count-clause-plan
returns-then-room-count-clause-plan c = plan_is _ _ _ (returns-then-room-count-clause-filling c) _ _ (search rules)

pub returns-clause-plan : goal.returns-clause-plan
returns-clause-plan c = plan_is _ _ _ (returns-clause-filling c) _ _ (search rules)
