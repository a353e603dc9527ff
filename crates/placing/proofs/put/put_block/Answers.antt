-- `put_block` meets its contract, by the blocks that the write takes.
use native.Mathlib.Omega.{arith}
use Rattle.entries.proofs.PutLaws.{put_inside, put_over, put_in_new_table, put_in_table}
use Rattle.placing.proofs.put.put_block.Goals as goal

pub store_block-requires : goal.store_block-requires
store_block-requires c = put_inside _ _ _ _ c.args.l.0 _ c.requires.0 _ c.requires.1 c.in-0.is

pub returns-in-0 : goal.returns-in-0
returns-in-0 c = put_over _ _ _ _ _ _ c.requires.0 _ c.requires.1 c.in-0.is _ c.store_block.ensures

pub returns-in-2 : goal.returns-in-2
returns-in-2 c =
    put_in_new_table _ _ _ _ _ _ c.requires.0 _ c.requires.1 c.requires.2 (λ e. absurd (omega (arith, e, c.in-2.is))) c.in-2.is _ _ c.store_block-in-2.ensures c.set_in_new_table.ensures

pub returns-in_default : goal.returns-in_default
returns-in_default c =
    put_in_table _ _ _ _ _ _ c.requires.0 _ c.requires.1 c.requires.2 (λ e. absurd (grind (arith, e, c.in_default))) (λ e. absurd (grind (arith, e, c.in_default))) _ _ c.store_block-in_default.ensures c.set_in_table.ensures
