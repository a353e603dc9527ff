-- `take_run` meets its contract: at entry j those from it on are left.
use Rattle.std.proofs.Common.{arith}
use Rattle.entries.proofs.CheckLaws.{entries_more, entries_stop, entries_end}
use Rattle.judging.proofs.check.Walked.take_run.Goals as goal

pub returns-then-not-take_entry : goal.returns-then-not-take_entry
returns-then-not-take_entry c =
    entries_stop _ _ _ _ _ _ _ _ c.loop-j.invariant (omega arith) c.requires.1 _ _ c.limit_of-limit.ensures c.entry_at-v.ensures _ _ c.take_entry.ensures c.if-not-take_entry.true

pub loop-j-preserved : goal.loop-j-preserved
loop-j-preserved c =
    entries_more _ _ _ _ _ _ _ _ c.loop-j.invariant (omega arith) c.requires.1 _ _ c.limit_of-limit.ensures c.entry_at-v.ensures _ _ c.take_entry.ensures c.if-not-take_entry.false

pub returns : goal.returns
returns c = entries_end _ _ _ _ _ _ _ c.loop-j.j c.loop-j.invariant (omega arith)
