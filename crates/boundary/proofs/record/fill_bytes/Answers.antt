-- `fill_bytes` meets its contract: each turn puts one record more.
use Rattle.std.proofs.Common.{◌∙◌, arith}
use Rattle.listing.proofs.PlanLaws.{record_first, record_ready}
use Rattle.boundary.proofs.RecordLaws.{bytes_none, bytes_more, bytes_all}
use Rattle.boundary.proofs.record.fill_bytes.Goals as goal

pub loop-k-init : goal.loop-k-init
loop-k-init c = bytes_none _ _ _ _

pub record_of-r-requires : goal.record_of-r-requires
record_of-r-requires c = record_ready _ _ _ c.requires.1 _ c.loop-k-test.true c.requires.2

pub loop-k-preserved : goal.loop-k-preserved
loop-k-preserved c = bytes_more _ _ _ _ _ _ _ _ (c.record_of-r.ensures ∙ record_first _ _ _ c.requires.1 _ c.loop-k-test.true) c.loop-k.invariant c.put_record_bytes.ensures

pub returns : goal.returns
returns c = bytes_all _ _ _ _ _ _ (omega arith) c.loop-k.invariant
