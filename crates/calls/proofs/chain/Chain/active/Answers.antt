-- `active` meets its contract: the active descriptor is the last.
use mathlib.Core.Path.{ap, ◌∙◌}
use Prim.Native.Nat.{ℕ, ◌-◌}
use lib.ListN.{get_or}
use Rattle.blocks.specs.Descriptor.{descriptor_at}
use Rattle.calls.proofs.ChainLaws.{chain_active}
use Rattle.calls.proofs.chain.Chain.active.Goals as goal

pub returns-clause-value : goal.returns-clause-value
returns-clause-value c =
    c.descriptor.ensures
    ∙ ap (λ (n : ℕ). descriptor_at c.args.self.card.now (get_or c.args.self.starts.now (n - 1) 0)) c.count.ensures.value
    ∙ chain_active _ _ c.args.self.sound
