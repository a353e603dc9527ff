-- What the walk in code keeps, and what it leaves in the places that are lent to it.
use Rattle.std.specs.Prelude.{◌≡◌, Bool, true, false, ◌&&◌, ◌||◌, List, [], ◌∷◌, ◌++◌, ℕ, zero, suc, ◌+◌, ◌-◌, ◌/◌, ◌%◌, ◌^◌, ◌≤◌, ◌<◌, length, get_or, set, eqb, ltb}
use Rattle.std.specs.Int.Bits.{bit_or}
use Rattle.blocks.specs.Pick.{pick}
use Rattle.blocks.specs.Bytes.{block_count}
use Rattle.blocks.specs.Name.{hash_count, hash_of}
use Rattle.blocks.specs.Descriptor.{descriptor_at}
use Rattle.blocks.specs.declared.descriptor.Descriptor.{Descriptor}
use Rattle.chains.specs.Chain.{starts_size, sound, chain_from, chain}

-- how many words of 32 bits hold a flag for each hash of a name
abbrev pub flag_words : ℕ
flag_words = hash_count / 32

-- whether flag h is set, and the words with it set
unfoldable pub has_flag : List ℕ → ℕ → Bool
has_flag words h = eqb (get_or words (h / 32) 0 / 2 ^ (h % 32) % 2) 1

unfoldable pub with_flag : List ℕ → ℕ → List ℕ
with_flag words h = set words (h / 32) (bit_or (get_or words (h / 32) 0) (2 ^ (h % 32)))

-- the names of the descriptors in the first k blocks of starts: each has a flag at its hash
pub record Hashed (c starts : List ℕ) (k : ℕ) (words : List ℕ) : Type 0 where
  pub long : length words ≡ flag_words
  pub each : (j : ℕ) → j < k → has_flag words (hash_of (descriptor_at c (get_or starts j 0)).name) ≡ true

-- so many places suffice for the walk: one of at most one descriptor fewer than places finds the same chain
abbrev pub Suffice : List ℕ → ℕ → Type 0
Suffice c n = chain_from c (n - 1) [] 0 ≡ chain c

-- the lent places are enough: two or more, as many as suffice, and no more than for the most descriptors
abbrev pub Enough : List ℕ → List ℕ → Type 0
Enough c places = (1 < length places) × (length places ≤ starts_size) × Suffice c (length places)

-- the most descriptors of a chain that is walked with few places
abbrev pub few_descriptors : ℕ
few_descriptors = 8

-- whether the links from block p end within n descriptors, all of them in blocks of the card: whether these are sound is not asked
unfoldable pub ends_within : List ℕ → ℕ → ℕ → Bool
ends_within c zero p = false
ends_within c (suc n) p = let next = (descriptor_at c p).next.0 in ltb p (block_count c) && (eqb next 0 || ends_within c n next)

-- the lent places as the walk that goes on at block p leaves them: after those of the descriptors passed, where the region of each sound one ends
unfoldable pub places_from : List ℕ → ℕ → List Descriptor → ℕ → List ℕ → List ℕ
places_from c zero earlier p places = places
places_from c (suc fuel) earlier p places =
    let d = descriptor_at c p in
    let more = set places (length earlier + 1) d.beta.0 in
    let rest = places_from c fuel (earlier ++ (d ∷ [])) d.next.0 more in
    pick (sound c earlier p) (pick (eqb d.next.0 0) more rest) places

-- the same for a whole walk: the first place is block 0, and those that no region reaches are as they were
unfoldable pub places_left : List ℕ → List ℕ → List ℕ
places_left c places = places_from c (length places - 1) [] 0 (set places 0 0)
