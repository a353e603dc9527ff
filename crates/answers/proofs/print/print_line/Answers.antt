-- `print_line` meets its contract: its answer and its addition are those of what the line returned.
use Rattle.std.proofs.Common.{◌≡◌, Result, Ok, Err, refl, ap}
use Rattle.std.specs.Result.{MatchResult, IsOkAnd, result_unwrap_or}
use Rattle.calls.specs.declared.answer.Refusal.{Refusal}
use Rattle.calls.specs.Call.{answered}
use Rattle.sheet.specs.declared.run.Addition.{Addition}
use Rattle.sheet.specs.declared.run.Addition.TheVariants.{Nothing}
use Rattle.sheet.specs.Sheet.{added}
use Rattle.answers.proofs.print.print_line.Goals as goal

-- what `map` and `unwrap_or` give
mapped : {U : Type 0} (P : Addition → U → Type 0) (q : Result Addition Refusal) (r : Result U Refusal) → MatchResult q (λ x. IsOkAnd r (P x)) (λ e. r ≡ Err e) → answered r ≡ answered q
mapped P (Ok x) (Ok y) h = refl
mapped P (Ok x) (Err e) h = absurd h
mapped P (Err e) r h = ap answered h

taken : (q : Result Addition Refusal) → result_unwrap_or q Nothing ≡ added q
taken (Ok a) = refl
taken (Err e) = refl

pub returns-clause-value : goal.returns-clause-value
returns-clause-value c =
    rw (c.from.ensures, c.unwrap_or-addition.ensures, taken c.args.outcome, mapped _ c.args.outcome c.map.result c.map.ensures.cases) at c.print_answered.ensures.value
