-- Laws of a card with a sound chain and of where its regions start.
use mathlib.Core.Path.{◌≡◌, sym, ap, ◌∙◌}
use mathlib.Core.Bool.{false}
use mathlib.Core.List.{List, []}
use Prim.Native.Nat.{ℕ, ◌+◌, ◌*◌, ◌-◌, ◌≤◌, ◌<◌}
use native.Mathlib.Omega.{arith}
use lib.ListN.{length, get_or}
use Rattle.blocks.specs.Descriptor.{no_descriptor, descriptor_at}
use Rattle.blocks.specs.declared.descriptor.Descriptor.{Descriptor}
use Rattle.chains.specs.Chain.{Sound, chain, descriptors, active_of, starts_of}
use Rattle.links.proofs.LinkedLaws.{Linked, chain_linked, regions_sound, linked_some, active_at, found_inside, region_of_lem}
use Rattle.entries.specs.Through.{SoundChain, Through}
use Rattle.calls.specs.Parts.{area_bad, SoundCard}
use Rattle.calls.proofs.CardLaws.{card_small}

-- such a chain on an area that is a card
pub sound_card : (c starts : List ℕ) → area_bad c ≡ false → SoundChain c starts → SoundCard c (length starts - 1) starts
sound_card c starts area s = record { area = area; regions = s.regions }

pub card_chain : (c starts : List ℕ) → SoundCard c (length starts - 1) starts → SoundChain c starts
card_chain c starts s = record { small = card_small c s.area; regions = s.regions }

module _ (c starts : List ℕ) (s : SoundChain c starts) where
  abbrev ds : List Descriptor
  ds = descriptors (chain c)

  parts : (chain c ≡ Sound ds) × (length starts - 1 ≡ length ds) × (starts ≡ starts_of ds) × (active_of ds ≡ active_of ds)
  parts = regions_sound (chain c) (active_of ds) (length starts - 1) starts s.regions

  linked : Linked c [] 0 ds
  linked = chain_linked c ds parts.0

  -- there is a descriptor; each stands on the card; the last is active
  pub chain_some : 0 < length starts - 1
  chain_some = omega (arith, linked_some linked, parts.1)

  pub chain_inside : (k : ℕ) → k < length starts - 1 → 512 * get_or starts k 0 + 512 ≤ length c
  chain_inside k h = (found_inside c (active_of ds) (length starts - 1) starts s.regions k h).1

  pub chain_active : descriptor_at c (get_or starts (length starts - 1 - 1) 0) ≡ active_of ds
  chain_active =
      sym (region_of_lem c (active_of ds) (length starts - 1) starts s.regions (length starts - 1 - 1) (omega (arith, chain_some))).is
      ∙ ap (λ (n : ℕ). get_or ds (n - 1) no_descriptor) parts.1
      ∙ sym (active_at ds (linked_some linked))

  -- and so is each descriptor one through which entries are found
  pub chain_through : (k : ℕ) → k < length starts - 1 → (d : Descriptor) → d ≡ descriptor_at c (get_or starts k 0) → Through c starts (length starts - 1) d
  chain_through k h d e = record { small = s.small; active = active_of ds; regions = s.regions; index = k; inside = h; is = e }

  pub chain_last : (d : Descriptor) → d ≡ descriptor_at c (get_or starts (length starts - 1 - 1) 0) → Through c starts (length starts - 1) d
  chain_last d e = chain_through (length starts - 1 - 1) (omega (arith, chain_some)) d e
