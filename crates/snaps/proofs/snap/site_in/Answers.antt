-- `site_in` meets its contract: the walk with the places that it has, and the tests by what it found.
use mathlib.Core.Path.{refl, ap, ◌∙◌}
use Prim.Native.Nat.{◌+◌}
use lib.ListN.{take}
use native.Mathlib.Omega.{arith}
use Rattle.calls.specs.Parts.{SoundCard}
use Rattle.calls.specs.Effect.{site_as}
use Rattle.calls.proofs.CardLaws.{card_ready, card_first}
use Rattle.calls.proofs.ResultLaws.{is_passed, walk_card, walk_places}
use Rattle.calls.proofs.SiteLaws.{site_6, site_12, site_13, site_0}
use Rattle.snaps.proofs.snap.site_in.Goals as goal
use Rattle.snaps.proofs.snap.site_in.Goals.{In_ok-count}
use Rattle.snaps.proofs.snap.site_in.Given.{Over}

-- what is known past the walk
sound : (g : Over) (c : In_ok-count g) → SoundCard c.args.card.now c.in_ok-count.count (take (c.in_ok-count.count + 1) c.walk_chain.new.starts)
sound g c = walk_card _ _ c.in_ok-count.ensures.value _ refl _ c.in_ok-count.ensures.starts_after c.requires.0

pub returns-in_err-count : goal.returns-in_err-count
returns-in_err-count g c = ap site_as (is_passed _ _ c.from_residual.ensures.1) ∙ site_6 _ _ _ c.in_err-count.ensures.value refl

pub invariant_of-chain : goal.invariant_of-chain
invariant_of-chain g c = record { sound = walk_places _ _ c.in_ok-count.ensures.value _ refl _ c.in_ok-count.ensures.starts_after c.requires.0 }

pub is_named-requires : goal.is_named-requires
is_named-requires g c = card_first _ _ _ (sound g (goal.at.is_named-requires g c).In_ok-count) _ (omega arith)

pub returns-then-is_named : goal.returns-then-is_named
returns-then-is_named g c = site_12 _ _ _ _ (sound g (goal.at.returns-then-is_named g c).In_ok-count) _ c.is_named.ensures c.if-is_named.true

pub returns-then-count-gt-MOST_SNAPSHOTS : goal.returns-then-count-gt-MOST_SNAPSHOTS
returns-then-count-gt-MOST_SNAPSHOTS g c = site_13 _ _ _ _ (sound g (goal.at.returns-then-count-gt-MOST_SNAPSHOTS g c).In_ok-count) _ c.is_named.ensures c.if-is_named.false c.if-count-gt-MOST_SNAPSHOTS.true

pub overflow_sub-count : goal.overflow_sub-count
overflow_sub-count g c = omega (arith, (card_ready _ _ _ (sound g (goal.at.overflow_sub-count g c).In_ok-count)).0)

pub returns : goal.returns
returns g c = site_0 _ _ _ _ (sound g (goal.at.returns g c).In_ok-count) _ c.is_named.ensures c.if-is_named.false c.if-count-gt-MOST_SNAPSHOTS.false _ c.start.ensures
