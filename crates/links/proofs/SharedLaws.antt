-- Locality: what a descriptor block says, and whether it is sound, depends on that block, on N and on block 0 alone; two cards with the same blocks
-- below where a chain ends have the same chain.
use mathlib.Core.Path.{◌≡◌, sym, ap, ◌∙◌}
use mathlib.Core.List.{List, [], ◌++◌}
use Prim.Native.Nat.{ℕ, zero, suc, ◌+◌, ◌*◌, ◌≤◌, ◌<◌}
use native.Mathlib.Omega.{arith}
use lib.ListN.{length}
use lib.Seq.{append_snoc}
use borrow.Author.Tests.{ne_eqb}
use Rattle.blocks.specs.Bytes.{u32_at, part, block_count, block_at}
use Rattle.blocks.specs.Descriptor.{cost_of, descriptor_at, revision_at, revision_of}
use Rattle.chains.specs.Chain.{form_ok, region_ok, sound, Sound, chain_from, chain}
use Rattle.blocks.specs.declared.descriptor.Descriptor.{Descriptor}
use Rattle.blocks.proofs.ByteLaws.{u32_part, part_part}
use Rattle.blocks.proofs.DescriptorLaws.{cost_least}
use Rattle.links.proofs.LinkedLaws.{Linked, last, more, sound_long, sound_next, region_start, region_start_zero, region_start_suc, linked_low}

-- a block that two cards share
module _ (s t : List ℕ) (p : ℕ) (in_s : 512 * p + 512 ≤ length s) (in_t : 512 * p + 512 ≤ length t) (shared : block_at s p ≡ block_at t p) where
  pub shared_number : (k : ℕ) → k + 4 ≤ 512 → u32_at s (512 * p + k) ≡ u32_at t (512 * p + k)
  unfolding block_at
  shared_number k h = sym (u32_part s (512 * p) 512 k h) ∙ ap (λ (b : List ℕ). u32_at b k) shared ∙ u32_part t (512 * p) 512 k h

  pub shared_bytes : (k n : ℕ) → k + n ≤ 512 → part s (512 * p + k) n ≡ part t (512 * p + k) n
  unfolding block_at
  shared_bytes k n h = sym (part_part s (512 * p) 512 k n h in_s) ∙ ap (λ (b : List ℕ). part b k n) shared ∙ part_part t (512 * p) 512 k n h in_t

  shared_mark : part s (512 * p) 4 ≡ part t (512 * p) 4
  shared_mark = let e : 512 * p + 0 ≡ 512 * p = omega arith in rw e at (shared_bytes 0 4 (omega arith))

  pub shared_descriptor : descriptor_at s p ≡ descriptor_at t p
  unfolding descriptor_at
  shared_descriptor =
      rw (shared_number 4 (omega arith), shared_number 8 (omega arith), shared_number 12 (omega arith), shared_number 16 (omega arith), shared_number 20 (omega arith), shared_bytes 24 16 (omega arith))

  pub shared_revision : revision_at s p ≡ revision_at t p
  unfolding revision_at
  shared_revision = shared_number 40 (omega arith)

  pub shared_form : revision_of s ≡ revision_of t → (d : Descriptor) → form_ok s p d ≡ form_ok t p d
  unfolding form_ok
  shared_form e d = rw (shared_mark, e, shared_bytes 40 24 (omega arith), shared_bytes 64 448 (omega arith))

  -- revision, layout and L of block 0
  module _ (long : length s ≡ length t) (revision : revision_of s ≡ revision_of t) (layout : (descriptor_at s 0).layout ≡ (descriptor_at t 0).layout) (volume : (descriptor_at s 0).volume ≡ (descriptor_at t 0).volume) where
    pub shared_sound : (es : List Descriptor) → sound s es p ≡ sound t es p
    unfolding sound region_ok block_count
    shared_sound es = rw (shared_descriptor, shared_form revision (descriptor_at t p), long, layout, volume)

-- descriptors that are linked are a chain
module _ (c : List ℕ) where
  pub linked_walk : {es : List Descriptor} {p : ℕ} {ds : List Descriptor} → Linked c es p ds → (fuel : ℕ) → length ds ≤ fuel → chain_from c fuel es p ≡ Sound (es ++ ds)
  unfolding chain_from
  linked_walk (last {es = es} {p = p} {d = d} is ok z) zero h = absurd (omega arith)
  linked_walk (last {es = es} {p = p} {d = d} is ok z) (suc f) h = rw (ok, ← is, z)
  linked_walk (more {es = es} {p = p} {d = d} {ds = ds} is ok z rest) zero h = absurd (omega arith)
  linked_walk (more {es = es} {p = p} {d = d} {ds = ds} is ok z rest) (suc f) h =
      rw (ok, ← is, ne_eqb d.next.0 0 z) (linked_walk rest f (omega arith) ∙ ap Sound (append_snoc es d ds))

  pub linked_chain : (ds : List Descriptor) → Linked c [] 0 ds → length ds ≤ 256 → chain c ≡ Sound ds
  unfolding chain
  linked_chain ds l h = linked_walk l 256 h

cost_some : (c : List ℕ) → 1 ≤ cost_of (descriptor_at c 0)
cost_some c = cost_least (descriptor_at c 0).layout (descriptor_at c 0).volume

-- two cards with the same blocks below b
pub record Below (s t : List ℕ) (b : ℕ) : Type 0 where
  pub long : length s ≡ length t
  pub some : 0 < b
  pub inside : 512 * b ≤ length s
  pub blocks : (p : ℕ) → p < b → block_at s p ≡ block_at t p

module _ (s t : List ℕ) (b : ℕ) (same_below : Below s t b) where
  pub below_descriptor : (p : ℕ) → p < b → descriptor_at s p ≡ descriptor_at t p
  below_descriptor p h = shared_descriptor s t p (omega (arith, same_below.inside)) (omega (arith, same_below.inside, same_below.long)) (same_below.blocks p h)

  pub below_revision : revision_of s ≡ revision_of t
  below_revision = shared_revision s t 0 (omega (arith, same_below.inside, same_below.some)) (omega (arith, same_below.inside, same_below.long, same_below.some)) (same_below.blocks 0 same_below.some)

  pub below_sound : (es : List Descriptor) (p : ℕ) → p < b → sound s es p ≡ sound t es p
  below_sound es p h =
      let first = below_descriptor 0 same_below.some in
      shared_sound s t p (omega (arith, same_below.inside)) (omega (arith, same_below.inside, same_below.long)) (same_below.blocks p h) same_below.long below_revision (ap (λ (d : Descriptor). d.layout) first) (ap (λ (d : Descriptor). d.volume) first) es

  pub below_linked : {es : List Descriptor} {p : ℕ} {ds : List Descriptor} → Linked s es p ds → region_start p ds (length ds) ≤ b → Linked t es p ds
  below_linked (last {es = es} {p = p} {d = d} is ok z) h =
      let l : p < b = omega (arith, sound_long s es p d is ok, cost_some s, rw (region_start_suc p d [] 0, region_start_zero d.beta.0 []) at h) in
      last (is ∙ below_descriptor p l) (sym (below_sound es p l) ∙ ok) z
  below_linked (more {es = es} {p = p} {d = d} {ds = ds} is ok z rest) h =
      let n = sound_next s es p d is ok z in
      let k : region_start d.next.0 ds (length ds) ≤ b = rw (region_start_suc p d ds (length ds), ← n) at h in
      let l : p < b = omega (arith, sound_long s es p d is ok, cost_some s, linked_low rest (length ds) (omega arith)) in
      more (is ∙ below_descriptor p l) (sym (below_sound es p l) ∙ ok) z (below_linked rest k)
