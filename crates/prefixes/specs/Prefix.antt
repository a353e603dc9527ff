-- The pass, stopped after k bytes, as the tests ask for it: whether it could be made, and the card.
use Rattle.std.specs.Prelude.{List, ℕ, length, eqb, ltb, leb}
use Rattle.blocks.specs.Pick.{pick}
use Rattle.blocks.specs.Bytes.{block_size, block_count, store_upto}
use Rattle.blocks.specs.Descriptor.{descriptor_at, tail_at, descriptor_block}

pub record Prefixed : Type 0 where
  pub number : ℕ
  pub card : List ℕ

-- 1 and the card with the first k bytes stored; 0 and the card as it was where head is no block, k is above 512, or a block is not on the card
unfoldable pub prefix_of : List ℕ → ℕ → ℕ → List ℕ → ℕ → Prefixed
prefix_of c from p head k =
    let left : Prefixed = record { number = 0; card = c } in
    let made : Prefixed = record { number = 1; card = store_upto c p (descriptor_block (descriptor_at head 0) (tail_at c from)) k } in
    pick (eqb (length head) block_size) (pick (ltb block_size k) left (pick (leb (block_count c) from) left (pick (leb (block_count c) p) left made))) left
