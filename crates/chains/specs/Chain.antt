-- The chain of descriptors: soundness, the walk from block 0, and the regions of the chain.
use Rattle.std.specs.Prelude.{Bool, true, false, Result, Ok, Err, not, ◌&&◌, ◌||◌, List, [], ◌∷◌, ◌++◌, ℕ, zero, suc, ◌+◌, ◌*◌, length, eqb, ltb, leb}
use Rattle.blocks.specs.Pick.{pick, same}
use Rattle.blocks.specs.Bytes.{block_size, part, block_count}
use Rattle.blocks.specs.Name.{is_name}
use Rattle.blocks.specs.Descriptor.{physical, mark, most_volume, phi_start, head_size, reserved_size, phi_bytes, cost_of, descriptor_at, revision_of, reserved_ok, phi_ok, no_descriptor}
use Rattle.blocks.specs.declared.descriptor.Descriptor.{Descriptor}
use Rattle.blocks.specs.declared.numbers.Physical.{Physical}
use Rattle.chains.specs.declared.chain.UnsoundChain.{UnsoundChain}

-- the most descriptors of a chain
abbrev pub most_descriptors : ℕ
most_descriptors = 256

-- the places for the starts of its regions: one more, for where the last one ends
abbrev pub starts_size : ℕ
starts_size = most_descriptors + 1

-- mark, layout, L, name, revision and zero bytes are those of a descriptor of this card
unfoldable pub form_ok : List ℕ → ℕ → Descriptor → Bool
form_ok c p d =
    same (part c (block_size * p) 4) mark
    && (eqb d.layout 1 || eqb d.layout 2)
    && ltb 0 d.volume
    && leb d.volume most_volume
    && is_name d.name
    && reserved_ok (revision_of c) (part c (block_size * p + head_size) reserved_size)
    && phi_ok d.layout (part c (block_size * p + phi_start) phi_bytes)

-- layout and L equal those of block 0; alpha is its own block p; alpha + c ≤ beta ≤ N; next is 0, or equals beta with beta < N
unfoldable pub region_ok : Descriptor → ℕ → ℕ → Descriptor → Bool
region_ok first n p d =
    eqb d.layout first.layout
    && eqb d.volume first.volume
    && eqb d.alpha.0 p
    && leb (d.alpha.0 + cost_of d) d.beta.0
    && leb d.beta.0 n
    && (eqb d.next.0 0 || (eqb d.next.0 d.beta.0 && ltb d.beta.0 n))

-- the index of the first descriptor of the list that has the name, or how many there are
unfoldable pub index_of : List Descriptor → List ℕ → ℕ
index_of [] name = 0
index_of (d ∷ ds) name = pick (same d.name name) 0 (suc (index_of ds name))

-- whether a descriptor of the list has the name
unfoldable pub named : List Descriptor → List ℕ → Bool
named ds name = ltb (index_of ds name) (length ds)

-- the descriptors in the blocks of a list
unfoldable pub descriptors_at : List ℕ → List ℕ → List Descriptor
descriptors_at c [] = []
descriptors_at c (p ∷ ps) = descriptor_at c p ∷ descriptors_at c ps

-- whether the descriptor in block p is sound, after the earlier ones of the chain
unfoldable pub sound : List ℕ → List Descriptor → ℕ → Bool
sound c earlier p =
    form_ok c p (descriptor_at c p)
    && region_ok (descriptor_at c 0) (block_count c) p (descriptor_at c p)
    && not (named earlier (descriptor_at c p).name)

-- a chain: the block of its first unsound descriptor, or its descriptors, of which the last is active and the others are snapshots
pub data Chain : Type 0 where
  Unsound : ℕ → Chain
  Sound : List Descriptor → Chain

-- the walk that goes on at block p, with the descriptors passed and at most fuel more: a descriptor past those is not among the first 256
unfoldable pub chain_from : List ℕ → ℕ → List Descriptor → ℕ → Chain
chain_from c zero earlier p = Unsound p
chain_from c (suc fuel) earlier p =
    let d = descriptor_at c p in
    let rest = chain_from c fuel (earlier ++ (d ∷ [])) d.next.0 in
    pick (sound c earlier p) (pick (eqb d.next.0 0) (Sound (earlier ++ (d ∷ []))) rest) (Unsound p)

-- the chain starts at block 0 and follows next
unfoldable pub chain : List ℕ → Chain
chain c = chain_from c most_descriptors [] 0

-- whether it is sound; its descriptors, none where it is unsound; the place of its fault, 0 where it is sound
unfoldable pub chain_sound : Chain → Bool
chain_sound (Unsound p) = false
chain_sound (Sound ds) = true

unfoldable pub descriptors : Chain → List Descriptor
descriptors (Unsound p) = []
descriptors (Sound ds) = ds

unfoldable pub chain_place : Chain → ℕ
chain_place (Unsound p) = p
chain_place (Sound ds) = 0

-- the last descriptor is active
unfoldable pub active_of : List Descriptor → Descriptor
active_of [] = no_descriptor
active_of (d ∷ []) = d
active_of (d ∷ e ∷ ds) = active_of (e ∷ ds)

-- where the regions of the descriptors end, in chain order
unfoldable pub ends : List Descriptor → List ℕ
ends [] = []
ends (d ∷ ds) = d.beta.0 ∷ ends ds

-- region k runs from number k up to number k + 1: block 0, then where each region ends
unfoldable pub starts_of : List Descriptor → List ℕ
starts_of ds = 0 ∷ ends ds

-- what is known of a chain once it has been walked: whether it is sound and the place of its fault, its last descriptor, how many there are, and where their regions start
pub record Regions : Type 0 where
  pub sound : Bool
  pub place : Physical
  pub active : Descriptor
  pub count : ℕ
  pub starts : List ℕ

unfoldable pub regions_of : Chain → Regions
regions_of (Unsound p) = record { sound = false; place = physical p; active = no_descriptor; count = 0; starts = [] }
regions_of (Sound ds) = record { sound = true; place = physical 0; active = active_of ds; count = length ds; starts = starts_of ds }

-- of these the walk in code gives whether it is sound, the place and how many
pub record Walk : Type 0 where
  pub sound : Bool
  pub place : Physical
  pub count : ℕ

unfoldable pub walk_of : Chain → Walk
walk_of ch = let r = regions_of ch in record { sound = r.sound; place = r.place; count = r.count }

-- the same from what the walk in code returns: how many there are, or the block of the first unsound one
abbrev pub walk_as : Result ℕ UnsoundChain → Walk
walk_as (Ok n) = record { sound = true; place = physical 0; count = n }
walk_as (Err e) = record { sound = false; place = e.0; count = 0 }
