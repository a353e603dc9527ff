-- `mantreuy_visit` meets its contract, by what its calls ensure.
use Rattle.std.proofs.Common.{sym, ap, ◌∙◌}
use Rattle.calls.specs.Effect.{as_visited}
use Rattle.calls.specs.Step.{Done}
use Rattle.calls.proofs.ResultLaws.{visit_unnamed}
use Rattle.boundary.proofs.ExportedLaws.{visit_stored}
use Rattle.mantreuy.proofs.mantreuy_visit.Goals as goal

pub returns : goal.returns
returns c =
    rw (c.from-outcome.ensures, c.unwrap_or.ensures, c.flatten.ensures, c.ok.ensures.value, ← c.target_in-target.ensures.kind)
    (visit_stored _ _ _ c.map.ensures.variant c.map.ensures.cases
    ∙ c.visit-visited.ensures.value
    ∙ ap (λ (d : Done). as_visited d.outcome) (visit_unnamed _ _ _ _ (λ e. sym (c.target_in-target.ensures.name e))))
