-- What an accepted write leaves of the active descriptor's entries, as the rules of check and the ledger ask it, and of its table blocks.
use mathlib.Core.Path.{◌≡◌}
use mathlib.Core.List.{List}
use Prim.Native.Nat.{ℕ, ◌/◌, ◌≤◌, ◌<◌}
use Rattle.blocks.specs.Bytes.{block_at}
use Rattle.blocks.specs.Descriptor.{table_size, table_count}
use Rattle.blocks.specs.declared.descriptor.Descriptor.{Descriptor}
use Rattle.entries.specs.Entry.{table_of}
use Rattle.entries.specs.Rules.{entry_of, Rules}

-- c before, t after, with the chain es; d before, x after; logical block l holds the bytes of a block
pub record WriteFacts (c t : List ℕ) (es : List Descriptor) (d x : Descriptor) (l : ℕ) (block : List ℕ) : Type 0 where
  -- the block that holds the bytes
  pub to : ℕ
  pub some : to ≡ 0 → ⊥
  pub bytes : block_at t to ≡ block
  -- entry l names it, and the other entries are as they were
  pub set : entry_of t x l ≡ to
  pub other : (j : ℕ) → j < d.volume → (j ≡ l → ⊥) → entry_of t x j ≡ entry_of c d j
  -- as are the blocks that they name
  pub kept : (j : ℕ) → j < d.volume → (j ≡ l → ⊥) → (entry_of c d j ≡ 0 → ⊥) → block_at t (entry_of c d j) ≡ block_at c (entry_of c d j)
  pub rules : Rules t es x

-- the block that entry l names is of the active region, and the table blocks of the other groups are those that they were
pub record WritePlaces (c t : List ℕ) (d x : Descriptor) (l : ℕ) : Type 0 where
  pub own : d.alpha.0 ≤ entry_of t x l
  pub tables : (i : ℕ) → i < table_count d.volume → (i ≡ l / table_size → ⊥) → table_of t x i ≡ table_of c d i
