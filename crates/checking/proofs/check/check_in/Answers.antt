-- `check_in` meets its contract: the walk, and what follows by what it found.
use Rattle.std.proofs.Common.{refl, sym}
use Rattle.blocks.specs.Bytes.{store_all}
use Rattle.calls.specs.Call.{accepted}
use Rattle.calls.specs.Meaning.{lent_of, filled_of, stores_of, given_of}
use Rattle.calls.proofs.StepLaws.{step_accepted}
use Rattle.calls.proofs.RowLaws.{admission_0}
use Rattle.calls.proofs.ResultLaws.{refused_on, walk_card, walk_places}
use Rattle.calls.proofs.CheckCardLaws.{check_0, check_6, check_10, check_reached}
use Rattle.checking.proofs.check.check_in.Goals as goal

pub returns-in_err-count : goal.returns-in_err-count
unfolding lent_of
returns-in_err-count g c =
    refused_on _ _ _ _ c.from_residual.ensures.1 (check_6 _ accepted (admission_0 _ _ (sym c.requires.0) refl) refl _ c.in_err-count.ensures.value refl)

pub invariant_of-check_regions : goal.invariant_of-check_regions
invariant_of-check_regions g c =
    record { sound = walk_places _ _ c.walk_chain.ensures.value _ c.in_ok-count.was _ c.in_ok-count.ensures.starts_after c.requires.0 }

pub returns-in_err-check_regions : goal.returns-in_err-check_regions
unfolding lent_of
returns-in_err-check_regions g c =
    refused_on _ _ _ _ c.from_residual-in_err-check_regions.ensures.1
    (check_10 _ _ (check_reached _ _ _ (walk_card _ _ c.walk_chain.ensures.value _ c.in_ok-count.was _ c.in_ok-count.ensures.starts_after c.requires.0)) _ c.in_err-check_regions.ensures _ refl)

pub returns : goal.returns
unfolding filled_of stores_of store_all given_of
returns g c =
    step_accepted _ _
    (check_0 _ _ (check_reached _ _ _ (walk_card _ _ c.walk_chain.ensures.value _ c.in_ok-count.was _ c.in_ok-count.ensures.starts_after c.requires.0)) _ c.in_ok-check_regions.ensures refl)
    _ refl _ refl refl
