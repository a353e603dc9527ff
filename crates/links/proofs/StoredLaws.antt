-- A descriptor block that was stored: what is read from it, and when it is sound.
use mathlib.Core.Path.{◌≡◌, refl, sym, ap, ◌∙◌, subst}
use mathlib.Core.Logic.{◌⊎◌, inl, inr}
use mathlib.Core.Bool.{Bool, true, ◌&&◌, ◌||◌}
use mathlib.Core.List.{List, ◌++◌}
use Prim.Native.Nat.{ℕ, ◌+◌, ◌*◌, ◌≤◌, ◌<◌}
use native.Mathlib.Omega.{arith}
use lib.ListN.{length, take, drop, length-append}
use lib.Seq.{drop-append-add, drop_at}
use lib.Dec.{eqb, ltb, leb}
use borrow.Author.Tests.{eq-eqb, le-leb, lt-ltb}
use Rattle.blocks.specs.Pick.{same}
use Rattle.blocks.specs.Bytes.{u32_at, splice, part, block_at}
use Rattle.blocks.specs.Name.{is_name}
use Rattle.blocks.specs.Descriptor.{cost_of, mark, descriptor_at, revision_at, revision_of, head_bytes, tail_at, descriptor_block, reserved_ok, phi_ok}
use Rattle.chains.specs.Chain.{form_ok, region_ok}
use Rattle.blocks.specs.declared.descriptor.Descriptor.{Descriptor}
use Rattle.blocks.proofs.Tests.{and_left, and_right}
use Rattle.blocks.proofs.BoolLaws.{or_true}
use Rattle.blocks.proofs.ByteLaws.{u32_part, part_part, splice_start}
use Rattle.blocks.proofs.ListLaws.{same_self}
use Rattle.blocks.proofs.DescriptorLaws.{Fits, head_length, read_back}
use Rattle.links.proofs.SoundLaws.{form_most, form_least, form_layout}

-- the descriptor of a block is the one of its bytes
block_descriptor : (c : List ℕ) (p : ℕ) → 512 * p + 512 ≤ length c → descriptor_at (block_at c p) 0 ≡ descriptor_at c p
unfolding descriptor_at block_at
block_descriptor c p h =
    rw (
      u32_part c (512 * p) 512 4 (omega arith),
      u32_part c (512 * p) 512 8 (omega arith),
      u32_part c (512 * p) 512 12 (omega arith),
      u32_part c (512 * p) 512 16 (omega arith),
      u32_part c (512 * p) 512 20 (omega arith),
      part_part c (512 * p) 512 24 16 (omega arith) h,
    )

-- a descriptor's block, given bytes 40 to 511
module _ (d : Descriptor) (tail : List ℕ) (fits : Fits d) (whole : length tail ≡ 472) where
  head_is : length (head_bytes d) ≡ 40
  head_is = head_length d fits.name

  block_is : splice (descriptor_block d tail) 0 (head_bytes d) ≡ descriptor_block d tail
  unfolding descriptor_block
  block_is = splice_start (head_bytes d ++ tail) (head_bytes d) ∙ ap (λ (x : List ℕ). head_bytes d ++ x) (drop_at (head_bytes d) tail (length (head_bytes d)) refl)

  pub block_long : length (descriptor_block d tail) ≡ 512
  unfolding descriptor_block
  block_long = omega (arith, length-append (head_bytes d) tail, head_is)

  block_read : descriptor_at (descriptor_block d tail) 0 ≡ d
  block_read = subst (λ (x : List ℕ). descriptor_at x 0 ≡ d) block_is (read_back d fits (descriptor_block d tail) 0 (omega (arith, block_long)))

  block_mark : part (descriptor_block d tail) 0 4 ≡ mark
  unfolding descriptor_block head_bytes
  block_mark = refl

  pub block_tail : (k n : ℕ) → part (descriptor_block d tail) (40 + k) n ≡ part tail k n
  unfolding descriptor_block
  block_tail k n = ap (λ (x : List ℕ). take n x) (subst (λ (m : ℕ). drop (m + k) (head_bytes d ++ tail) ≡ drop k tail) head_is (drop-append-add (head_bytes d) tail k))

-- what a formed descriptor says of its tail
module _ (c : List ℕ) (p : ℕ) (d : Descriptor) (ok : form_ok c p d ≡ true) where
  abbrev to_name : Bool
  to_name = same (part c (512 * p) 4) mark && (eqb d.layout 1 || eqb d.layout 2) && ltb 0 d.volume && leb d.volume 14336 && is_name d.name

  abbrev of_reserved : Bool
  of_reserved = reserved_ok (revision_of c) (part c (512 * p + 40) 24)

  abbrev of_phi : Bool
  of_phi = phi_ok d.layout (part c (512 * p + 64) 448)

  pub form_phi : of_phi ≡ true
  unfolding form_ok
  form_phi = and_right (to_name && of_reserved) of_phi ok

  pub form_kept : of_reserved ≡ true
  unfolding form_ok
  form_kept = and_right to_name of_reserved (and_left (to_name && of_reserved) of_phi ok)

  pub form_name : is_name d.name ≡ true
  unfolding form_ok
  form_name =
      and_right (same (part c (512 * p) 4) mark && (eqb d.layout 1 || eqb d.layout 2) && ltb 0 d.volume && leb d.volume 14336) (is_name d.name)
      (and_left to_name of_reserved (and_left (to_name && of_reserved) of_phi ok))

-- a block p that holds a descriptor d and a tail
module _ (c : List ℕ) (p : ℕ) (inside : 512 * p + 512 ≤ length c) (d : Descriptor) (tail : List ℕ) (is : block_at c p ≡ descriptor_block d tail) (fits : Fits d) (whole : length tail ≡ 472) where
  pub stored_descriptor : descriptor_at c p ≡ d
  stored_descriptor = sym (block_descriptor c p inside) ∙ ap (λ (b : List ℕ). descriptor_at b 0) is ∙ block_read d tail fits whole

  pub stored_bytes : (k n : ℕ) → k + n ≤ 512 → part c (512 * p + k) n ≡ part (descriptor_block d tail) k n
  unfolding block_at
  stored_bytes k n h = sym (part_part c (512 * p) 512 k n h inside) ∙ ap (λ (b : List ℕ). part b k n) is

  pub stored_revision : revision_at c p ≡ u32_at tail 0
  unfolding revision_at block_at
  stored_revision =
      sym (u32_part c (512 * p) 512 40 (omega arith))
      ∙ ap (λ (b : List ℕ). u32_at b 40) is
      ∙ sym (u32_part (descriptor_block d tail) 40 4 0 (omega arith))
      ∙ ap (λ (b : List ℕ). u32_at b 0) (block_tail d tail fits whole 0 4)
      ∙ u32_part tail 0 4 0 (omega arith)

  pub stored_mark : part c (512 * p) 4 ≡ mark
  stored_mark = let e : 512 * p ≡ 512 * p + 0 = omega arith in ap (λ (n : ℕ). part c n 4) e ∙ stored_bytes 0 4 (omega arith) ∙ block_mark d tail fits whole

  -- its form, where layout, L and name are those of a descriptor and the tail has the card's revision and the zero bytes
  module _ (old : Descriptor) (layout : d.layout ≡ old.layout) (volume : d.volume ≡ old.volume) (name : is_name d.name ≡ true)
      (c₀ : List ℕ) (a : ℕ) (formed : form_ok c₀ a old ≡ true)
      (reserved : reserved_ok (revision_of c) (part tail 0 24) ≡ true) (phi : phi_ok old.layout (part tail 24 448) ≡ true) where
    pub stored_form : form_ok c p d ≡ true
    unfolding form_ok
    stored_form =
        rw (
          stored_mark,
          same_self mark,
          layout,
          volume,
          form_layout c₀ a old formed,
          lt-ltb 0 old.volume (form_least c₀ a old formed),
          le-leb old.volume 14336 (form_most c₀ a old formed),
          name,
          stored_bytes 40 24 (omega arith),
          block_tail d tail fits whole 0 24,
          reserved,
          stored_bytes 64 448 (omega arith),
          block_tail d tail fits whole 24 448,
        )
        phi

-- a region in order
pub region_ok_lem : (first : Descriptor) (n p : ℕ) (d : Descriptor) → d.layout ≡ first.layout → d.volume ≡ first.volume → d.alpha.0 ≡ p → d.alpha.0 + cost_of d ≤ d.beta.0
    → d.beta.0 ≤ n → (d.next.0 ≡ 0) ⊎ ((d.next.0 ≡ d.beta.0) × (d.beta.0 < n)) → region_ok first n p d ≡ true
unfolding region_ok
region_ok_lem first n p d layout volume alpha long end next =
    rw (
      eq-eqb d.layout first.layout layout,
      eq-eqb d.volume first.volume volume,
      eq-eqb d.alpha.0 p alpha,
      le-leb (d.alpha.0 + cost_of d) d.beta.0 long,
      le-leb d.beta.0 n end,
    )
    (by (eqb d.next.0 0) next)
  where
    by : (z : Bool) → (d.next.0 ≡ 0) ⊎ ((d.next.0 ≡ d.beta.0) × (d.beta.0 < n)) → (eqb d.next.0 0 || (eqb d.next.0 d.beta.0 && ltb d.beta.0 n)) ≡ true
    by z (inl e) = rw (eq-eqb d.next.0 0 e)
    by z (inr h) = rw (eq-eqb d.next.0 d.beta.0 h.0, lt-ltb d.beta.0 n h.1) (or_true (eqb d.next.0 0))

-- the tail of a block
pub tail_part : (c : List ℕ) (p k n : ℕ) → 512 * p + 512 ≤ length c → k + n ≤ 472 → part (tail_at c p) k n ≡ part c (512 * p + 40 + k) n
tail_part c p k n h l = part_part c (512 * p + 40) 472 k n l (omega arith)
