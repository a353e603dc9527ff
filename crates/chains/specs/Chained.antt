-- What a chain is without its walk: sound descriptors one after the other, or the block of the first unsound one.
use Rattle.std.specs.Prelude.{◌≡◌, true, false, List, [], ◌∷◌, ◌++◌, ℕ, ◌<◌, ◌≤◌, length}
use Rattle.blocks.specs.Descriptor.{descriptor_at}
use Rattle.blocks.specs.declared.descriptor.Descriptor.{Descriptor}
use Rattle.chains.specs.Chain.{sound}

-- the descriptors from block p on, after the earlier ones of the chain: each is sound and among the first 256, each but the last names the block of
-- the one after it, and the last has a nil next
pub data Chained (c : List ℕ) : List Descriptor → ℕ → List Descriptor → Type 0 where
  last : {earlier : List Descriptor} {p : ℕ} → length earlier < 256 → sound c earlier p ≡ true → (descriptor_at c p).next.0 ≡ 0
      → Chained c earlier p (descriptor_at c p ∷ [])
  link : {earlier : List Descriptor} {p : ℕ} {ds : List Descriptor} → length earlier < 256 → sound c earlier p ≡ true
      → ((descriptor_at c p).next.0 ≡ 0 → ⊥) → Chained c (earlier ++ (descriptor_at c p ∷ [])) (descriptor_at c p).next.0 ds → Chained c earlier p (descriptor_at c p ∷ ds)

-- block q holds the first unsound descriptor on the way from block p, after the earlier ones of the chain: one that is not sound, or one that is not
-- among the first 256, whatever it holds
pub data FirstUnsound (c : List ℕ) : List Descriptor → ℕ → ℕ → Type 0 where
  here : {earlier : List Descriptor} {p : ℕ} → length earlier < 256 → sound c earlier p ≡ false → FirstUnsound c earlier p p
  past : {earlier : List Descriptor} {p : ℕ} → 256 ≤ length earlier → FirstUnsound c earlier p p
  on : {earlier : List Descriptor} {p q : ℕ} → length earlier < 256 → sound c earlier p ≡ true → ((descriptor_at c p).next.0 ≡ 0 → ⊥)
      → FirstUnsound c (earlier ++ (descriptor_at c p ∷ [])) (descriptor_at c p).next.0 q → FirstUnsound c earlier p q
