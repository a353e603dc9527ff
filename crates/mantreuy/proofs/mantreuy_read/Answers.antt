-- `mantreuy_read` meets its contract, by what its calls ensure.
use Rattle.std.proofs.Common.{sym, ◌∙◌}
use Rattle.calls.proofs.ResultLaws.{read_unnamed}
use Rattle.mantreuy.proofs.mantreuy_read.Goals as goal

pub returns : goal.returns
returns c = rw (c.give.ensures, ← c.target_in-target.ensures.kind) (c.read.ensures ∙ read_unnamed _ _ _ _ _ (λ e. sym (c.target_in-target.ensures.name e)))
