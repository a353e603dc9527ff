-- Every call has the same outcome on two cards that agree.
use mathlib.Core.Path.{◌≡◌, refl, ap, ◌∙◌, subst}
use mathlib.Core.Bool.{Bool, true, false}
use mathlib.Core.List.{List, ◌∷◌, ◌++◌}
use Prim.Native.Nat.{ℕ}
use Rattle.blocks.specs.Pick.{pick}
use Rattle.blocks.specs.Bytes.{store_all}
use Rattle.calls.specs.Call.{Call}
use Rattle.calls.specs.Ladder.{Row, row, area_row, first_row, admission}
use Rattle.calls.specs.Meaning.{rows_of, answer_of, stores_of, filled_of, given_of, lent_of}
use Rattle.calls.specs.Step.{step, done, is_accepted}
use Rattle.claims.specs.History.{Agree}
use Rattle.calls.specs.Parts.{area_bad}
use Rattle.calls.proofs.CardLaws.{area_kept}
use Rattle.claims.proofs.Owed.{owed}
use Rattle.calls.proofs.RowLaws.{SameRows, then, first_same}

module _ (s t : List ℕ) (agree : Agree s t) where
  own_same : {xs ys : List Row} → (area_bad s ≡ false → SameRows xs ys) → first_row (admission s ++ xs) ≡ first_row (admission t ++ ys)
  unfolding admission
  own_same {xs = xs} {ys = ys} h = first_same (subst (λ (b : Bool). SameRows (area_row s ∷ xs) (row b 1 0 ∷ ys)) (area_kept s t agree.long) (then h))

  pub agree_answer : (k : Call) → answer_of k s ≡ answer_of k t
  unfolding answer_of rows_of
  agree_answer k = own_same ((owed k).rows s t agree)

  outcome_by : (k : Call) (b : Bool) → (b ≡ true → filled_of k s ≡ filled_of k t) → (b ≡ true → given_of k s ≡ given_of k t) → (x y : List ℕ)
      → (pick b (record { outcome = record { answer = answer_of k t; lent = filled_of k s; given = given_of k s }; card = x }) (done (answer_of k t) (lent_of k) s)).outcome
      ≡ (pick b (record { outcome = record { answer = answer_of k t; lent = filled_of k t; given = given_of k t }; card = y }) (done (answer_of k t) (lent_of k) t)).outcome
  outcome_by k true h g x y = rw (h refl, g refl)
  outcome_by k false h g x y = refl

  pub agree_outcome : (k : Call) → (step k s).outcome ≡ (step k t).outcome
  unfolding step
  agree_outcome k =
      rw (agree_answer k)
      (outcome_by k (is_accepted (answer_of k t)) (λ e. (owed k).filled s t agree (ap is_accepted (agree_answer k) ∙ e)) (λ e. (owed k).given s t agree (ap is_accepted (agree_answer k) ∙ e))
      (store_all s (stores_of k s)) (store_all t (stores_of k t)))
