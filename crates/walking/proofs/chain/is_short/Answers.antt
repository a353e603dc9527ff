-- `is_short` meets its contract: as many links have been followed as turns have passed, and as many as are left may follow.
use Rattle.std.proofs.Common.{◌∙◌}
use borrow.Author.Tests.{lt-ltb}
use Rattle.links.proofs.ChainLaws.{ends_step}
use Rattle.walking.proofs.chain.is_short.Goals as goal

pub loop-preserved : goal.loop-preserved
loop-preserved c = c.loop.invariant ∙ ends_step _ _ _ c.loop-test.true ∙ rw (lt-ltb _ _ c.if-n-p.false, ← c.read_descriptor.ensures, ← c.is_nil.ensures, c.if-is_nil.false)
