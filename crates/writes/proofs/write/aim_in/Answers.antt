-- `aim_in` meets its contract: the walk with the places that it has, and the tests by what it found.
use mathlib.Core.Path.{refl, ap, ◌∙◌}
use Prim.Native.Nat.{◌+◌}
use lib.ListN.{take}
use native.Mathlib.Omega.{arith}
use Rattle.calls.specs.Effect.{aim_as}
use Rattle.calls.specs.Parts.{SoundCard}
use Rattle.calls.proofs.CardLaws.{card_ready}
use Rattle.calls.proofs.ChainLaws.{chain_last}
use Rattle.calls.proofs.ResultLaws.{is_passed, walk_card, walk_places}
use Rattle.calls.proofs.AimLaws.{aim_6, aim_8, aim_10, aim_0}
use Rattle.writes.proofs.write.aim_in.Goals as goal
use Rattle.writes.proofs.write.aim_in.Goals.{In_ok-count}
use Rattle.writes.proofs.write.aim_in.Given.{Over}

-- what is known past the walk
sound : (g : Over) (c : In_ok-count g) → SoundCard c.args.card.now c.in_ok-count.count (take (c.in_ok-count.count + 1) c.walk_chain.new.starts)
sound g c = walk_card _ _ c.in_ok-count.ensures.value _ refl _ c.in_ok-count.ensures.starts_after c.requires.0

pub returns-in_err-count : goal.returns-in_err-count
returns-in_err-count g c = ap aim_as (is_passed _ _ c.from_residual.ensures.1) ∙ aim_6 _ _ _ c.in_err-count.ensures.value refl

pub invariant_of-chain : goal.invariant_of-chain
invariant_of-chain g c = record { sound = walk_places _ _ c.in_ok-count.ensures.value _ refl _ c.in_ok-count.ensures.starts_after c.requires.0 }

pub returns-then-d-l : goal.returns-then-d-l
returns-then-d-l g c = aim_8 _ _ _ _ (sound g (goal.at.returns-then-d-l g c).In_ok-count) _ c.active-d.ensures.value c.if-d-l.true

pub locate-requires : goal.locate-requires
locate-requires g c = (chain_last _ _ (walk_places _ _ c.in_ok-count.ensures.value _ refl _ c.in_ok-count.ensures.starts_after c.requires.0) _ c.active-d.ensures.read, c.if-d-l.false)

pub returns-in_err-slot : goal.returns-in_err-slot
returns-in_err-slot g c = ap aim_as (is_passed _ _ c.from_residual-in_err-slot.ensures.1) ∙ aim_10 _ _ _ _ (sound g (goal.at.returns-in_err-slot g c).In_ok-count) _ c.active-d.ensures.value c.if-d-l.false _ _ c.in_err-slot.ensures _ refl

pub overflow_sub-count : goal.overflow_sub-count
overflow_sub-count g c = omega (arith, (card_ready _ _ _ (sound g (goal.at.overflow_sub-count g c).In_ok-count)).0)

pub returns : goal.returns
returns g c = aim_0 _ _ _ _ (sound g (goal.at.returns g c).In_ok-count) _ c.active-d.ensures.value c.if-d-l.false _ _ c.in_ok-slot.ensures c.in_ok-slot.slot refl _ c.need-taken.ensures
