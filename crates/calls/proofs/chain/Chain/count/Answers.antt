-- `count` meets its contract: a sound chain has a descriptor, and a place more than it has descriptors.
use native.Mathlib.Omega.{arith}
use Rattle.calls.proofs.ChainLaws.{chain_some}
use Rattle.calls.proofs.chain.Chain.count.Goals as goal

pub overflow_sub-result : goal.overflow_sub-result
overflow_sub-result c = omega (arith, chain_some _ _ c.args.self.sound)

pub returns-clause-some : goal.returns-clause-some
returns-clause-some c = chain_some _ _ c.args.self.sound
