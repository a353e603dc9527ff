-- The pass in which a snap makes its new descriptor, stopped anywhere: document 02, W3. What stands in quotation marks is from there.
use Rattle.std.specs.Prelude.{◌≡◌, ◌⊎◌, true, List, ℕ, ◌+◌, ◌*◌, ◌-◌, ◌<◌, ◌≤◌, length, get_or}
use Rattle.blocks.specs.Bytes.{block_size, block_at, store_block, store_upto, store_all}
use Rattle.blocks.specs.Descriptor.{cost_of, tail_at, descriptor_block, renamed_of, linked_of, reopened_of, copying}
use Rattle.chains.specs.Chain.{active_of}
use Rattle.calls.specs.Call.{Snap}
use Rattle.calls.specs.Parts.{descriptors_of}
use Rattle.calls.specs.Meaning.{answer_of}
use Rattle.calls.specs.Step.{step, is_accepted}
use Rattle.claims.specs.History.{beta_of, Agree}

-- The first k bytes of a store of a block: those are the new block's, every other byte is as it was; all 512 are the store.
unfoldable pub StoreUptoClaim : Type 0
StoreUptoClaim =
    (c : List ℕ) (p : ℕ) (b : List ℕ) (k : ℕ) → length b ≡ block_size → block_size * p + block_size ≤ length c → k ≤ block_size
    → ((i : ℕ) → i < k → get_or (store_upto c p b k) (block_size * p + i) 0 ≡ get_or b i 0)
    × ((j : ℕ) → (j < block_size * p) ⊎ (block_size * p + k ≤ j) → get_or (store_upto c p b k) j 0 ≡ get_or c j 0)
    × (length (store_upto c p b k) ≡ length c)
    × (store_upto c p b block_size ≡ store_block c p b)

-- the card as a snap's pass finds it: the table blocks of the new region are copied, of which layout 2 has none
unfoldable pub before_pass : List ℕ → List ℕ
before_pass c = let d = active_of (descriptors_of c) in store_all c (copying c (d.alpha.0 + 1) (d.beta.0 + 1) (cost_of d - 1))

-- the card after the first k bytes of the pass: of the new descriptor's block, which stands at beta
unfoldable pub during_pass : List ℕ → ℕ → List ℕ
during_pass c k = let d = active_of (descriptors_of c) in store_upto (before_pass c) d.beta.0 (descriptor_block (reopened_of d) (tail_at c d.alpha.0)) k

-- "Stopped after its first k bytes, for any k, the pass has left those in their last form and the rest of the card as it was."
pub record StoppedAfter (c name : List ℕ) (k : ℕ) : Type 0 where
  -- "in their last form": as the card after the snap has them
  pub last_form : (i : ℕ) → i < k → get_or (during_pass c k) (block_size * beta_of c + i) 0 ≡ get_or (step (Snap name) c).card (block_size * beta_of c + i) 0
  -- "the rest of the card as it was": every other byte, before the block's first and after its k-th
  pub rest : (j : ℕ) → (j < block_size * beta_of c) ⊎ (block_size * beta_of c + k ≤ j) → get_or (during_pass c k) j 0 ≡ get_or (before_pass c) j 0
  pub long : length (during_pass c k) ≡ length c
  -- so beta and every byte below it are those at entry
  pub agrees : Agree c (during_pass c k)

-- what an accepted snap's pass comes to
pub record OnePass (c name : List ℕ) : Type 0 where
  -- what it finds: an area of the same length, copies of the c - 1 table blocks after the new descriptor's block, and every other byte as at entry
  pub long : length (before_pass c) ≡ length c
  pub tables : (t : ℕ) → t + 1 < cost_of (active_of (descriptors_of c)) → block_at (before_pass c) (beta_of c + 1 + t) ≡ block_at c ((active_of (descriptors_of c)).alpha.0 + 1 + t)
  pub found : (j : ℕ) → (j < block_size * (beta_of c + 1)) ⊎ (block_size * (beta_of c + cost_of (active_of (descriptors_of c))) ≤ j) → get_or (before_pass c) j 0 ≡ get_or c j 0
  -- stopped anywhere; and after its last byte, when only the old descriptor is left to be stored
  pub stopped : (k : ℕ) → k ≤ block_size → StoppedAfter c name k
  pub ended : let d = active_of (descriptors_of c) in
      store_block (during_pass c block_size) d.alpha.0 (descriptor_block (linked_of (renamed_of d name) d.beta) (tail_at c d.alpha.0)) ≡ (step (Snap name) c).card

unfoldable pub OnePassClaim : Type 0
OnePassClaim = (c name : List ℕ) → is_accepted (answer_of (Snap name) c) ≡ true → OnePass c name
