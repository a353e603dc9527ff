-- `open_card` meets its contract: the blocks of the opening are cleared, then the first descriptor is stored.
use native.Mathlib.Omega.{arith}
use Prim.Native.Nat.{◌≤◌}
use Rattle.blocks.proofs.DescriptorLaws.{cost_least}
use Rattle.reams.proofs.OpeningLaws.{opening_stored}
use Rattle.reams.proofs.ream.open_card.Goals as goal

pub put_descriptor-requires : goal.put_descriptor-requires
put_descriptor-requires c = let some : 1 ≤ c.args.cost = omega (arith, c.requires.0, cost_least c.args.format.layout c.args.format.volume) in
    omega (arith, c.clear_blocks.auto.card, c.requires.1, some)

pub put_u32-requires : goal.put_u32-requires
put_u32-requires c = let some : 1 ≤ c.args.cost = omega (arith, c.requires.0, cost_least c.args.format.layout c.args.format.volume) in
    omega (arith, c.put_descriptor.auto.card, c.clear_blocks.auto.card, c.requires.1, some)

pub returns : goal.returns
returns c = let some : 1 ≤ c.args.cost = omega (arith, c.requires.0, cost_least c.args.format.layout c.args.format.volume) in
    opening_stored _ _ c.args.format _ some c.requires.1 c.clear_blocks.ensures c.put_descriptor.ensures.d_len _ _ c.requires.0 c.put_descriptor.ensures.card_after c.put_u32.ensures
