-- Bytes of a card area, 32-bit numbers, blocks, and storing a block. An area is the list of its bytes, as numbers.
use Rattle.std.specs.Prelude.{List, [], ◌∷◌, ◌++◌, ℕ, ◌+◌, ◌*◌, ◌/◌, ◌%◌, length, take, drop, get_or, replicate}

-- bytes in a block
abbrev pub block_size : ℕ
block_size = 512

-- the fewest and the most blocks of a card, and the bytes of the largest
abbrev pub fewest_blocks : ℕ
fewest_blocks = 2

abbrev pub most_blocks : ℕ
most_blocks = 65536

abbrev pub most_bytes : ℕ
most_bytes = 33554432

-- n elements from index at
abbrev pub part : List ℕ → ℕ → ℕ → List ℕ
part c at n = take n (drop at c)

-- the list c with d in the place of the elements from index at
unfoldable pub splice : List ℕ → ℕ → List ℕ → List ℕ
splice c at d = take at c ++ d ++ drop (at + length d) c

-- the stored number at index at: 32 bits, lowest byte first
unfoldable pub u32_at : List ℕ → ℕ → ℕ
u32_at c at = get_or c at 0 + 256 * get_or c (at + 1) 0 + 65536 * get_or c (at + 2) 0 + 16777216 * get_or c (at + 3) 0

-- two such numbers, one after the other, as one of 64 bits
unfoldable pub u64_at : List ℕ → ℕ → ℕ
u64_at c at = u32_at c at + 4294967296 * u32_at c (at + 4)

-- the four bytes of a stored number
unfoldable pub le32 : ℕ → List ℕ
le32 v = v % 256 ∷ v / 256 % 256 ∷ v / 65536 % 256 ∷ v / 16777216 % 256 ∷ []

-- N, the number of whole blocks of an area
unfoldable pub block_count : List ℕ → ℕ
block_count c = length c / block_size

-- block p
unfoldable pub block_at : List ℕ → ℕ → List ℕ
block_at c p = part c (block_size * p) block_size

-- a block of zeros
abbrev pub zero_block : List ℕ
zero_block = replicate block_size 0

-- one whole-block store: the block's number and its new bytes
pub record Store : Type 0 where
  pub at : ℕ
  pub bytes : List ℕ

abbrev pub store : ℕ → List ℕ → Store
store p b = record { at = p; bytes = b }

-- the area after a store of block p
unfoldable pub store_block : List ℕ → ℕ → List ℕ → List ℕ
store_block c p b = splice c (block_size * p) b

-- the area after the first k bytes of a store of block p
unfoldable pub store_upto : List ℕ → ℕ → List ℕ → ℕ → List ℕ
store_upto c p b k = splice c (block_size * p) (take k b)

-- the area after a list of stores, first to last
unfoldable pub store_all : List ℕ → List Store → List ℕ
store_all c [] = c
store_all c (s ∷ ss) = store_all (store_block c s.at s.bytes) ss
