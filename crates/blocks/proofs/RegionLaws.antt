-- What the stores that open a region at a descriptor's beta leave: its tables are copies, then its descriptor; every other block is as it was.
use mathlib.Core.Path.{◌≡◌, refl, sym, ap, ◌∙◌}
use mathlib.Core.Bool.{Bool, true, false}
use mathlib.Core.List.{List, [], ◌∷◌}
use Prim.Native.Nat.{ℕ, ◌+◌, ◌*◌, ◌-◌, ◌≤◌, ◌<◌}
use native.Mathlib.Omega.{arith}
use lib.ListN.{length}
use lib.Dec.{eqb}
use borrow.Author.Tests.{eqb-false}
use Rattle.blocks.specs.Bytes.{part, block_at, Store, store, store_all}
use Rattle.blocks.specs.Descriptor.{cost_of, tail_at, descriptor_block, reopened_of, copying, reopening}
use Rattle.blocks.specs.declared.descriptor.Descriptor.{Descriptor}
use Rattle.blocks.proofs.BoolLaws.{or_true}
use Rattle.blocks.proofs.DescriptorLaws.{tail_length, tail_block, block_whole, cost_least}
use Rattle.blocks.proofs.StoreLists.{Whole, none, also, whole_append, is_stored, stored_join, stored_length, stored_other, stored_append, stored_last, inside_copying, none_stored, one_stored, copies_stored, copies_outside, copies_cover, copied_in}

module _ (c : List ℕ) (d : Descriptor) (rise : d.alpha.0 < d.beta.0) (room : 512 * (d.beta.0 + cost_of d) ≤ length c) (named : length d.name ≡ 16) where
  abbrev a : ℕ
  a = d.alpha.0

  abbrev b : ℕ
  b = d.beta.0

  abbrev copies : List Store
  copies = copying c (a + 1) (b + 1) (cost_of d - 1)

  abbrev made : List ℕ
  made = descriptor_block (reopened_of d) (tail_at c a)

  least : 1 ≤ cost_of d
  least = cost_least d.layout d.volume

  pub reopening_inside : (512 * d.alpha.0 + 512 ≤ length c) × (512 * d.beta.0 + 512 ≤ length c)
  reopening_inside = (omega (arith, least), omega (arith, least))

  pub reopening_long : length (descriptor_block (reopened_of d) (tail_at c d.alpha.0)) ≡ 512
  reopening_long = block_whole (reopened_of d) (tail_at c a) named (tail_length c a reopening_inside.0)

  copies_whole : Whole (length c) copies
  copies_whole = inside_copying c (a + 1) (b + 1) (cost_of d - 1) (omega arith) (omega (arith, least))

  pub reopening_whole : Whole (length c) (reopening c d [])
  reopening_whole = whole_append copies_whole (also b made reopening_long reopening_inside.1 none)

  -- no block below beta, and every block of the region's opening
  pub reopening_above : (q : ℕ) → q < d.beta.0 → is_stored (reopening c d []) q ≡ false
  reopening_above q h = rw (stored_join copies (store b made ∷ []) q, copies_stored c (a + 1) (b + 1) (cost_of d - 1) q (omega arith)) (one_stored b made q (λ k. omega arith))

  covers_by : (q : ℕ) (z : Bool) → eqb b q ≡ z → b ≤ q → q < b + cost_of d → is_stored (reopening c d []) q ≡ true
  unfolding is_stored
  covers_by q true e h l = rw (stored_join copies (store b made ∷ []) q, e) (or_true (is_stored copies q))
  covers_by q false e h l = rw (stored_join copies (store b made ∷ []) q, copies_cover c (a + 1) (b + 1) (cost_of d - 1) q (omega (arith, eqb-false b q e)) (omega (arith, least)))

  pub reopening_covers : (q : ℕ) → d.beta.0 ≤ q → q < d.beta.0 + cost_of d → is_stored (reopening c d []) q ≡ true
  reopening_covers q h l = covers_by q (eqb b q) refl h l

  -- the blocks after it
  pub reopening_kept : (q : ℕ) → q < d.beta.0 → block_at (store_all c (reopening c d [])) q ≡ block_at c q
  reopening_kept q h = stored_other (length c) c refl reopening_whole q (reopening_above q h)

  pub reopening_block : block_at (store_all c (reopening c d [])) d.beta.0 ≡ descriptor_block (reopened_of d) (tail_at c d.alpha.0)
  reopening_block = stored_last (length c) c refl copies_whole b made reopening_long reopening_inside.1 none (none_stored b)

  pub reopening_table : (t : ℕ) → t + 1 < cost_of d → block_at (store_all c (reopening c d [])) (d.beta.0 + 1 + t) ≡ block_at c (d.alpha.0 + 1 + t)
  reopening_table t h =
      let e : a + 1 + (b + 1 + t - (b + 1)) ≡ a + 1 + t = omega arith in
      ap (λ (x : List ℕ). block_at x (b + 1 + t)) (stored_append c copies (store b made ∷ []))
      ∙ stored_other (length c) (store_all c copies) (stored_length (length c) c refl copies_whole) (also b made reopening_long reopening_inside.1 none) (b + 1 + t) (one_stored b made (b + 1 + t) (λ k. omega (arith, k)))
      ∙ copied_in c c refl (a + 1) (b + 1) (cost_of d - 1) (omega arith) (omega (arith, least)) (b + 1 + t) (omega arith) (omega arith) (eqb (b + 1 + t) (b + 1)) refl
      ∙ ap (λ (x : ℕ). block_at c x) e

  pub reopening_past : (q : ℕ) → d.beta.0 + cost_of d ≤ q → block_at (store_all c (reopening c d [])) q ≡ block_at c q
  reopening_past q h =
      stored_other (length c) c refl reopening_whole q
      (rw (stored_join copies (store b made ∷ []) q, copies_outside c (a + 1) (b + 1) (cost_of d - 1) q (λ i l. omega (arith, least))) (one_stored b made q (λ k. omega (arith, k, least))))

  pub reopening_length : length (store_all c (reopening c d [])) ≡ length c
  reopening_length = stored_length (length c) c refl reopening_whole

  pub reopening_tail : tail_at (store_all c (reopening c d [])) d.alpha.0 ≡ tail_at c d.alpha.0
  reopening_tail =
      sym (tail_block (store_all c (reopening c d [])) a (rw reopening_length reopening_inside.0))
      ∙ ap (λ (x : List ℕ). part x 40 472) (reopening_kept a rise)
      ∙ tail_block c a reopening_inside.0
