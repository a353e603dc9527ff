-- What a caller of this layer must know: the regions of a sound chain, and a descriptor of that chain; of an entry that was found, what a write through it rests on.
use Rattle.std.specs.Prelude.{◌≡◌, true, List, ℕ, ◌*◌, ◌-◌, ◌≤◌, ◌<◌, length, get_or}
use Rattle.blocks.specs.Bytes.{most_bytes, block_size}
use Rattle.blocks.specs.Descriptor.{physical, most_volume, descriptor_at}
use Rattle.chains.specs.Chain.{chain, descriptors, active_of, regions_of}
use Rattle.blocks.specs.declared.descriptor.Descriptor.{Descriptor}

-- the first count + 1 starts rise from block 0 to where the last region ends, which is not below beta
pub record RisingRegions (starts : List ℕ) (count beta : ℕ) : Type 0 where
  pub some : 0 < count
  pub long : count < length starts
  pub from : get_or starts 0 0 ≡ 0
  pub rise : (i j : ℕ) → i ≤ j → j ≤ count → get_or starts i 0 ≤ get_or starts j 0
  pub upto : beta ≤ get_or starts count 0

-- c has at most 65,536 blocks, its chain is sound, and its regions are those of starts
pub record SoundChain (c starts : List ℕ) : Type 0 where
  pub small : length c ≤ most_bytes
  pub regions : regions_of (chain c) ≡ record { sound = true; place = physical 0; active = active_of (descriptors (chain c)); count = length starts - 1; starts = starts }

-- c has at most 65,536 blocks, its chain is sound, its regions are those of starts, and d is the descriptor of one of them
pub record Through (c starts : List ℕ) (count : ℕ) (d : Descriptor) : Type 0 where
  pub small : length c ≤ most_bytes
  pub active : Descriptor
  pub regions : regions_of (chain c) ≡ record { sound = true; place = physical 0; active = active; count = count; starts = starts }
  pub index : ℕ
  pub inside : index < count
  pub is : d ≡ descriptor_at c (get_or starts index 0)

-- what the code that writes through a found entry must know: the blocks are on a card of at most 65,536, the entry and its table are below beta
pub record WriteReady (c : List ℕ) (d : Descriptor) (m p l : ℕ) (block : List ℕ) : Type 0 where
  pub small : length c ≤ most_bytes
  pub region : d.alpha.0 < d.beta.0
  pub upto : block_size * d.beta.0 ≤ length c
  pub table : m < d.beta.0
  pub entry : (p ≡ 0 → ⊥) → p < d.beta.0
  pub number : l < most_volume
  pub whole : length block ≡ block_size
