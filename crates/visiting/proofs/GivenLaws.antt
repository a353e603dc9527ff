-- What a visit gives once it is accepted.
use mathlib.Core.Path.{◌≡◌, sym, ap, ◌∙◌}
use mathlib.Core.List.{List}
use Prim.Native.Nat.{ℕ}
use Rattle.std.specs.Prelude.{Option, Result, Ok, Err, IfOk}
use Rattle.calls.specs.declared.answer.Refusal.{Refusal}
use Rattle.calls.specs.Call.{Call, Given, Outcome}
use Rattle.calls.specs.Effect.{Visited, visited_as, as_visited}
use Rattle.calls.specs.Meaning.{given_of}
use Rattle.calls.specs.Step.{step}
use Rattle.calls.proofs.StepLaws.{step_answer, outcome_accepted}
use Rattle.dating.specs.Given.{given_as}

pub given_told : (k : Call) (c : List ℕ) (r : Result (Option (List ℕ)) Refusal) → visited_as r ≡ as_visited (step k c).outcome → (g : Given) → g ≡ given_of k c → IfOk r (λ n. given_as n ≡ g)
    → IfOk r (λ n. given_as n ≡ (step k c).outcome.given)
unfolding as_visited
given_told k c (Err e) v g q h = h
given_told k c (Ok n) v g q h =
    h ∙ q ∙ sym (ap (λ (o : Outcome). o.given) (outcome_accepted k c (sym (step_answer k c) ∙ sym (ap (λ (x : Visited). x.answer) v))))
