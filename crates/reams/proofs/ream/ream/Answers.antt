-- `ream` meets its contract, row by row.
use mathlib.Core.Path.{refl}
use mathlib.Core.Logic.{inl, inr}
use Rattle.calls.specs.Meaning.{lent_of, filled_of, stores_of, given_of}
use Rattle.calls.proofs.StepLaws.{step_refused, step_accepted}
use Rattle.calls.proofs.ResultLaws.{barred_on}
use Rattle.calls.proofs.ReamLaws.{ream_2_low, ream_2_high, ream_3_none, ream_3_large, ream_17, ream_4, ream_5, ream_0}
use Rattle.reams.proofs.ream.ream.Goals as goal

pub returns-in_err-admit : goal.returns-in_err-admit
unfolding lent_of
returns-in_err-admit c = barred_on _ _ _ _ c.from_residual.ensures.1 c.in_err-admit.ensures

pub returns-then-format-eq0 : goal.returns-then-format-eq0
unfolding lent_of
returns-then-format-eq0 c = elim c.then-format-eq0.either [
  | inl h ↦ step_refused _ _ _ _ (ream_2_low _ _ _ c.in_ok-admit.ensures refl h) refl
  | inr h ↦ step_refused _ _ _ _ (ream_2_high _ _ _ c.in_ok-admit.ensures refl h.1) refl
]

pub returns-then-format-eq0-2 : goal.returns-then-format-eq0-2
unfolding lent_of
returns-then-format-eq0-2 c = elim c.then-format-eq0-2.either [
  | inl h ↦ step_refused _ _ _ _ (ream_3_none _ _ _ c.in_ok-admit.ensures refl c.if-format-eq0.false c.if-format-gt2.false h) refl
  | inr h ↦ step_refused _ _ _ _ (ream_3_large _ _ _ c.in_ok-admit.ensures refl c.if-format-eq0.false c.if-format-gt2.false h.1) refl
]

pub returns-then-format-gt1 : goal.returns-then-format-gt1
unfolding lent_of
returns-then-format-gt1 c = step_refused _ _ _ _ (ream_17 _ _ _ c.in_ok-admit.ensures refl c.if-format-eq0.false c.if-format-gt2.false c.if-format-eq0-2.false c.if-format-gt-MOST_VOLUME.false c.if-format-gt1.true) refl

pub returns-then-not-is_name : goal.returns-then-not-is_name
unfolding lent_of
returns-then-not-is_name c = step_refused _ _ _ _ (search (ream_4, c.in_ok-admit.ensures)) refl

pub returns-then-card-cost : goal.returns-then-card-cost
unfolding lent_of
returns-then-card-cost c = step_refused _ _ _ _ (search (ream_5, c.in_ok-admit.ensures)) refl

pub returns : goal.returns
unfolding filled_of stores_of given_of
returns c = step_accepted _ _ (search (ream_0, c.in_ok-admit.ensures)) _ refl _ c.open_card.ensures refl
