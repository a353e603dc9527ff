-- Parts of a card that the calls speak of: its area, its chain, the active descriptor, a snapshot by name, the block that a read gives; and what the code of a call knows after the walk.
use Rattle.std.specs.Prelude.{◌≡◌, Bool, true, false, not, ◌||◌, List, [], ◌∷◌, ℕ, ◌+◌, ◌%◌, length, get_or, eqb, ltb}
use Rattle.blocks.specs.Pick.{pick}
use Rattle.blocks.specs.Bytes.{block_size, fewest_blocks, most_blocks, block_count, block_at, zero_block}
use Rattle.blocks.specs.Descriptor.{physical, no_descriptor}
use Rattle.chains.specs.Chain.{index_of, chain, descriptors, active_of, regions_of}
use Rattle.blocks.specs.declared.descriptor.Descriptor.{Descriptor}
use Rattle.entries.specs.Entry.{find}
use Rattle.entries.specs.Found.{Found, Misplaced, Entry}
use Rattle.calls.specs.Call.{Target, Active, Snapshot}

abbrev pub most_snapshots : ℕ
most_snapshots = 255

-- the area is no card: its length is no multiple of 512, or N is outside 2..65,536
unfoldable pub area_bad : List ℕ → Bool
area_bad c = not (eqb (length c % block_size) 0) || ltb (block_count c) fewest_blocks || ltb most_blocks (block_count c)

-- the descriptors of the card's chain, in chain order
abbrev pub descriptors_of : List ℕ → List Descriptor
descriptors_of c = descriptors (chain c)

-- the last descriptor is active, the others are snapshots
unfoldable pub snapshots_of : List Descriptor → List Descriptor
snapshots_of [] = []
snapshots_of (d ∷ []) = []
snapshots_of (d ∷ e ∷ ds) = d ∷ snapshots_of (e ∷ ds)

-- the descriptor of the list that has the name
abbrev pub with_name : List Descriptor → List ℕ → Descriptor
with_name ds name = get_or ds (index_of ds name) no_descriptor

-- whether the target of a read, a visit or a span read is a snapshot, so that a name is given
abbrev pub is_snapshot : Target → Bool
is_snapshot Active = false
is_snapshot Snapshot = true

-- the descriptor that a read, a visit or a span read goes through
unfoldable pub target_of : List Descriptor → Target → List ℕ → Descriptor
target_of ds Active name = active_of ds
target_of ds Snapshot name = with_name (snapshots_of ds) name

-- the same by its index in the chain, given the snapshots: the active one comes after them, and one more stands for no snapshot of the name
unfoldable pub target_index : List Descriptor → Target → List ℕ → ℕ
target_index snapshots Active name = length snapshots
target_index snapshots Snapshot name = pick (eqb (index_of snapshots name) (length snapshots)) (length snapshots + 1) (index_of snapshots name)

-- whether an entry followed is not in place, and the block that holds it; of an entry in place its table block, 0 where there is none
unfoldable pub is_misplaced : Found → Bool
is_misplaced (Misplaced h) = true
is_misplaced (Entry m p) = false

unfoldable pub holder_of : Found → ℕ
holder_of (Misplaced h) = h.0
holder_of (Entry m p) = m.0

-- the block that is read through what was found: zeros where the entry is nil
unfoldable pub block_found : List ℕ → Found → List ℕ
block_found c (Misplaced h) = zero_block
block_found c (Entry m p) = pick (eqb p.0 0) zero_block (block_at c p.0)

-- the entry of logical block l through a descriptor of the card
abbrev pub found_through : List ℕ → Descriptor → ℕ → Found
found_through c d l = find c (descriptors_of c) d l

-- what the code of a call knows once the walk has found no fault: the area is a card, and of its sound chain how many descriptors there are and where their regions start
pub record SoundCard (c : List ℕ) (count : ℕ) (starts : List ℕ) : Type 0 where
  pub area : area_bad c ≡ false
  pub regions : regions_of (chain c) ≡ record { sound = true; place = physical 0; active = active_of (descriptors_of c); count = count; starts = starts }
