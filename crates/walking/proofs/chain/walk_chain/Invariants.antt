-- `walk_chain` meets its contract: after k turns k sound descriptors have passed, and the hashes of their names have their flags.
use Rattle.chains.specs.Walk.{Hashed}
use Rattle.links.proofs.ChainLaws.{Walked}
use Rattle.walking.proofs.chain.walk_chain.Given as goal

abbrev pub invariant-loop-k : goal.invariant-loop-k
invariant-loop-k l = Walked l.card l.fn.starts l.starts l.p.0 l.k × Hashed l.card l.starts l.k l.words
