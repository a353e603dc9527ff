-- Two cards that agree still agree after every call that is no accepted format.
use mathlib.Core.Path.{◌≡◌, refl, sym, ap, ◌∙◌}
use mathlib.Core.Bool.{Bool, true, false}
use mathlib.Core.List.{List}
use Prim.Native.Nat.{ℕ}
use Rattle.blocks.specs.Bytes.{store_all}
use Rattle.blocks.proofs.BoolLaws.{no}
use Rattle.calls.specs.Call.{Call}
use Rattle.calls.specs.Meaning.{answer_of}
use Rattle.calls.specs.Step.{step, is_accepted}
use Rattle.claims.specs.History.{Agree, is_format}
use Rattle.claims.specs.Kinds.{kind_of}
use Rattle.claims.proofs.AgreeAnswer.{agree_answer}
use Rattle.claims.proofs.AgreeChange.{after_change}
use Rattle.claims.proofs.Changes.{stores_by}
use Rattle.claims.proofs.Owed.{owed}
use Rattle.claims.proofs.Steps.{step_cases}

module _ (s t : List ℕ) (agree : Agree s t) where
  step_by : (k : Call) (b : Bool) → is_accepted (answer_of k t) ≡ b → is_format k s ≡ false → Agree (step k s).card (step k t).card
  unfolding step
  step_by k true e f =
      rw (e, (owed k).stores t)
      (step_cases k s (λ (c : List ℕ). Agree c (store_all t (stores_by (kind_of k) t))) (λ z. no (sym z ∙ ap is_accepted (agree_answer s t agree k) ∙ e)) (λ z n a. after_change s t agree n a ((owed k).allowed t e)) f)
  step_by k false e f = rw e (step_cases k s (λ (c : List ℕ). Agree c t) (λ z. agree) (λ z n a. no (sym e ∙ ap is_accepted (sym (agree_answer s t agree k)) ∙ z)) f)

  pub agree_step : (k : Call) → is_format k s ≡ false → Agree (step k s).card (step k t).card
  agree_step k f = step_by k (is_accepted (answer_of k t)) refl f
