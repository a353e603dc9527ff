-- `put_records` meets its contract: after i turns the text of the first i records is put.
use Rattle.std.proofs.Common.{◌+◌, ◌*◌, ◌≤◌, ◌∙◌, refl, arith}
use Rattle.blocks.proofs.ByteLaws.{length_splice}
use Rattle.printing.proofs.TextLaws.{records_none, records_more, records_all}
use Rattle.reporting.proofs.report.put_records.Goals as goal

pub loop-r-init : goal.loop-r-init
loop-r-init c = record { put = records_none _ _ _; short = omega arith; kept = refl; lent = (refl, refl) }

pub put_record-next-requires : goal.put_record-next-requires
put_record-next-requires c = omega (arith, c.requires, c.loop-r-test.true, c.loop-r.invariant.short, c.loop-r.invariant.kept, c.loop-r.invariant.lent.1)

pub loop-r-preserved : goal.loop-r-preserved
loop-r-preserved c =
    let far : c.put_record-next.result ≤ c.args.out.now.length + 80 * (c.loop-r.r-index + 1) = omega (arith, c.put_record-next.ensures.upper_bound, c.loop-r.invariant.short) in
    record {
      put = records_more _ _ _ _ _ _ _ _ _ c.loop-r-test.true c.loop-r.invariant.put c.put_record-next.ensures.value (omega (arith, far, c.requires, c.loop-r-test.true));
      short = far;
      kept = c.loop-r.invariant.kept;
      lent = (c.loop-r.invariant.lent.0, rw c.put_record-next.ensures.value.1 (length_splice _ _ _ (omega (arith, far, c.requires, c.loop-r-test.true, c.put_record-next.ensures.value.0, c.loop-r.invariant.lent.1))) ∙ c.loop-r.invariant.lent.1);
    }

pub returns-clause-value : goal.returns-clause-value
returns-clause-value c = records_all _ _ _ _ _ _ (omega (arith, c.loop-r-test.false, c.loop-r.auto.r-index-end)) c.loop-r.invariant.put

pub returns-clause-upper_bound : goal.returns-clause-upper_bound
returns-clause-upper_bound c = omega (arith, c.loop-r.invariant.short, c.loop-r.auto.r-index-end)
