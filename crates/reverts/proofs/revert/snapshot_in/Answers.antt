-- `snapshot_in` meets its contract: the walk with the places that it has, and the snapshot by its index.
use mathlib.Core.Path.{refl, sym, ◌∙◌}
use Prim.Native.Nat.{◌+◌}
use lib.ListN.{take}
use native.Mathlib.Omega.{arith}
use Rattle.calls.specs.Parts.{SoundCard}
use Rattle.calls.proofs.CardLaws.{card_ready, card_first}
use Rattle.calls.proofs.ResultLaws.{passed_on, walk_card, walk_places}
use Rattle.calls.proofs.RevertLaws.{revert_6, revert_7, revert_0, snapshot_found}
use Rattle.reverts.proofs.revert.snapshot_in.Goals as goal
use Rattle.reverts.proofs.revert.snapshot_in.Goals.{In_ok-count}
use Rattle.reverts.proofs.revert.snapshot_in.Given.{Over}

-- what is known past the walk
sound : (g : Over) (c : In_ok-count g) → SoundCard c.args.card.now c.in_ok-count.count (take (c.in_ok-count.count + 1) c.walk_chain.new.starts)
sound g c = walk_card _ _ c.in_ok-count.ensures.value _ refl _ c.in_ok-count.ensures.starts_after c.requires.0

pub invariant_of-chain : goal.invariant_of-chain
invariant_of-chain g c = record { sound = walk_places _ _ c.in_ok-count.ensures.value _ refl _ c.in_ok-count.ensures.starts_after c.requires.0 }

pub returns-in_err-count-clause-answer : goal.returns-in_err-count-clause-answer
returns-in_err-count-clause-answer g c = passed_on _ _ c.from_residual.ensures.1 ∙ sym (revert_6 _ _ c.requires.0 c.requires.1 _ c.in_err-count.ensures.value refl)

pub slice_bounds-index_of-count : goal.slice_bounds-index_of-count
slice_bounds-index_of-count g c = omega (arith, (card_ready _ _ _ (sound g (goal.at.slice_bounds-index_of-count g c).In_ok-count)).0)

pub index_of-requires : goal.index_of-requires
index_of-requires g c = card_first _ _ _ (sound g (goal.at.index_of-requires g c).In_ok-count) _ (omega arith)

pub returns-in_err-k-clause-answer : goal.returns-in_err-k-clause-answer
returns-in_err-k-clause-answer g c = passed_on _ _ c.from_residual-in_err-k.ensures.1 ∙ sym (revert_7 _ _ c.requires.0 c.requires.1 _ _ (sound g (goal.at.returns-in_err-k-clause-answer g c).In_ok-count) _ c.index_of.ensures.value c.index_of.ensures.upper_bound _ c.ok_or.ensures.value _ c.in_err-k.was)

pub returns-clause-answer : goal.returns-clause-answer
returns-clause-answer g c = sym (revert_0 _ _ c.requires.0 c.requires.1 _ _ (sound g (goal.at.returns-clause-answer g c).In_ok-count) _ c.index_of.ensures.value c.index_of.ensures.upper_bound _ c.ok_or.ensures.value _ c.in_ok-k.was)

pub returns-clause-value : goal.returns-clause-value
returns-clause-value g c = (
  c.descriptor.ensures ∙ sym (snapshot_found _ _ c.requires.0 c.requires.1 _ _ (sound g (goal.at.returns-clause-value g c).In_ok-count) _ c.index_of.ensures.value c.index_of.ensures.upper_bound _ c.ok_or.ensures.value _ c.in_ok-k.was),
  c.active.ensures.value,
)
