-- `mantreuy_read_span` meets its contract, by what its calls ensure.
use Rattle.std.proofs.Common.{sym, ◌∙◌}
use Rattle.calls.proofs.ResultLaws.{span_read_unnamed}
use Rattle.mantreuy.proofs.mantreuy_read_span.Goals as goal

pub returns : goal.returns
returns c = rw (c.give.ensures, ← c.target_in-target.ensures.kind) (c.read_span.ensures ∙ span_read_unnamed _ _ _ _ _ (λ e. sym (c.target_in-target.ensures.name e)))
