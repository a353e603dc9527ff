-- `take_entries` meets its contract: after k runs the entries past them are left.
use Rattle.std.proofs.Common.{◌≡◌, ◌+◌, ◌*◌, ◌/◌, ◌∙◌, sym, arith}
use Rattle.entries.proofs.CheckLaws.{fault_on, run_more, run_stop}
use Rattle.judging.proofs.check.Walked.take_entries.Goals as goal

pub returns-in_err-take_run : goal.returns-in_err-take_run
returns-in_err-take_run c =
    rw (fault_on _ _ c.from_residual.ensures.1) (run_stop _ _ _ _ _ _ _ _ c.loop-k.invariant _ (omega arith) (omega arith) _ _ c.in_err-take_run.ensures)

pub loop-k-preserved : goal.loop-k-preserved
loop-k-preserved c =
    let next : 4 * (c.loop-k.k + 1) ≡ 4 * c.loop-k.k + 4 = omega arith in
    rw next (run_more _ _ _ _ _ _ _ _ c.loop-k.invariant _ (omega arith) (omega arith) _ c.in_ok-take_run.ensures)

pub returns : goal.returns
returns c =
    let end : c.loop-k.k ≡ c.args.n / 4 = omega arith in
    c.take_run-2.ensures ∙ sym (rw end at c.loop-k.invariant)
