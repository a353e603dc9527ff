-- When a descriptor is sound, a second time: in 01's own words and numbers, and 02's for the revision (W5), byte by byte, and with nothing of the definitions that the calls are made of.
use Rattle.std.specs.Prelude.{◌≡◌, ◌⊎◌, ◌↔◌, true, List, [], ◌∷◌, ℕ, ◌+◌, ◌*◌, ◌/◌, ◌≤◌, ◌<◌, length, take, drop, get_or}
use Rattle.blocks.specs.Descriptor.{no_descriptor}
use Rattle.blocks.specs.Name.{is_name}
use Rattle.blocks.specs.declared.descriptor.Descriptor.{Descriptor}
use Rattle.chains.specs.Chain.{sound}

-- "Stored numbers are 32 bits, lowest byte first": the one that starts at byte k of block p
abbrev pub number_at : List ℕ → ℕ → ℕ → ℕ
number_at c p k = get_or c (512 * p + k) 0 + 256 * (get_or c (512 * p + k + 1) 0 + 256 * (get_or c (512 * p + k + 2) 0 + 256 * get_or c (512 * p + k + 3) 0))

-- "`a-z`, `0-9`, `.`, `-`"
abbrev pub NameByte : ℕ → Type 0
NameByte b = ((97 ≤ b) × (b ≤ 122)) ⊎ (((48 ≤ b) × (b ≤ 57)) ⊎ ((b ≡ 46) ⊎ (b ≡ 45)))

-- "a name is sixteen bytes, 1 to 16 of `a-z`, `0-9`, `.`, `-`, then zero bytes"
pub record NameRules (bytes : List ℕ) : Type 0 where
  pub sixteen : length bytes ≡ 16
  pub size : ℕ
  pub least : 1 ≤ size
  pub most : size ≤ 16
  pub allowed : (i : ℕ) → i < size → NameByte (get_or bytes i 0)
  pub zeros : (i : ℕ) → size ≤ i → i < 16 → get_or bytes i 0 ≡ 0

-- "n is L divided by 128, rounded up"
abbrev pub IsTableCount : ℕ → ℕ → Type 0
IsTableCount n volume = (volume ≤ 128 * n) × (128 * n < volume + 128)

-- "A descriptor is sound if", of the one in block p of the area c, after the earlier ones of the chain
pub record SoundRules (c : List ℕ) (earlier : List Descriptor) (p : ℕ) : Type 0 where
  -- "mark, layout, L, name and zero bytes are as above": "0-3: the ASCII bytes `snap`. 4-7: layout, 1 or 2. 8-11: L", "L from 1 to 14,336"
  pub mark : take 4 (drop (512 * p) c) ≡ 115 ∷ 110 ∷ 97 ∷ 112 ∷ []
  pub layout : (number_at c p 4 ≡ 1) ⊎ (number_at c p 4 ≡ 2)
  pub volume_least : 1 ≤ number_at c p 8
  pub volume_most : number_at c p 8 ≤ 14336
  -- "24-39: a name"
  pub name : NameRules (take 16 (drop (512 * p + 24) c))
  -- 02, W5: "revision 1 in bytes 40-43 of each descriptor; cards with 0 there keep the old rule", and not "with another than block 0's"
  pub revision : (number_at c p 40 ≡ 0) ⊎ (number_at c p 40 ≡ 1)
  pub same_revision : number_at c p 40 ≡ number_at c 0 40
  -- "40-63: zero", of which W5 takes 40 to 43. "64-511: in layout 2 the 112 entries of Phi; in layout 1 zero"
  pub zeros : (i : ℕ) → 44 ≤ i → i < 64 → get_or c (512 * p + i) 0 ≡ 0
  pub zeros_layout_1 : number_at c p 4 ≡ 1 → (i : ℕ) → 64 ≤ i → i < 512 → get_or c (512 * p + i) 0 ≡ 0
  -- "layout and L equal those of block 0"
  pub same_layout : number_at c p 4 ≡ number_at c 0 4
  pub same_volume : number_at c p 8 ≡ number_at c 0 8
  -- "alpha is its own block": "12-15: alpha"
  pub alpha : number_at c p 12 ≡ p
  -- "alpha + c ≤ beta ≤ N": "16-19: beta", "Opening cost c is 1 + n in layout 1, 1 in layout 2"
  pub opening_1 : number_at c p 4 ≡ 1 → (n : ℕ) → IsTableCount n (number_at c p 8) → number_at c p 12 + (1 + n) ≤ number_at c p 16
  pub opening_2 : number_at c p 4 ≡ 2 → number_at c p 12 + 1 ≤ number_at c p 16
  pub end : number_at c p 16 ≤ length c / 512
  -- "next is 0, or equals beta with beta < N": "20-23: next descriptor"
  pub next : (number_at c p 20 ≡ 0) ⊎ ((number_at c p 20 ≡ number_at c p 16) × (number_at c p 16 < length c / 512))
  -- "no earlier descriptor has its name"
  pub own_name : (k : ℕ) → k < length earlier → (get_or earlier k no_descriptor).name ≡ take 16 (drop (512 * p + 24) c) → ⊥
  -- "it is among the first 256"
  pub among : length earlier < 256

-- Sixteen bytes are a name exactly where they keep 01's rules.
unfoldable pub NameRulesClaim : Type 0
NameRulesClaim = (bytes : List ℕ) → (is_name bytes ≡ true) ↔ NameRules bytes

-- A descriptor is sound, and among the first 256, exactly where it keeps 01's rules, and 02's on the revision.
unfoldable pub SoundRulesClaim : Type 0
SoundRulesClaim = (c : List ℕ) (earlier : List Descriptor) (p : ℕ) → ((sound c earlier p ≡ true) × (length earlier < 256)) ↔ SoundRules c earlier p
