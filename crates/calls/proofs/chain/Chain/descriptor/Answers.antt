-- `descriptor` meets its contract: each region of a sound chain starts on the card.
use mathlib.Core.Path.{ap}
use native.Mathlib.Omega.{arith}
use Rattle.blocks.specs.declared.numbers.Physical.{Physical}
use Rattle.calls.proofs.ChainLaws.{chain_inside}
use Rattle.calls.proofs.chain.Chain.descriptor.Goals as goal

pub read_descriptor-requires : goal.read_descriptor-requires
read_descriptor-requires c = omega (arith, ap (λ (p : Physical). p.0) c.start.ensures, chain_inside _ _ c.args.self.sound c.args.k c.requires)
