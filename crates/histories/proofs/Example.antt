-- 01's worked example in both layouts: every call is accepted, the revert among them, and answers as 01 says. Alpha and beta of layout 2 are those
-- that 01 prints; in layout 1 c is 3 and the writes take one block each.
use mathlib.Core.Path.{◌≡◌, refl}
use Rattle.calls.specs.Step.{outcomes}
use Rattle.histories.specs.Example.{example_card, example_calls, example_outcomes}
use Rattle.claims.proofs.Running.{running}

pub example_layout_2 : outcomes example_calls (example_card 2) ≡ example_outcomes 3 6
unfolding running example_calls example_outcomes
example_layout_2 = refl

pub example_layout_1 : outcomes example_calls (example_card 1) ≡ example_outcomes 4 8
unfolding running example_calls example_outcomes
example_layout_1 = refl
