-- A region's opening: what the pass for its descriptor finds, and the stores that the two parts come to.
use mathlib.Core.Path.{◌≡◌, refl, sym, ap, ◌∙◌}
use mathlib.Core.List.{List, [], ◌∷◌}
use Prim.Native.Nat.{ℕ, ◌+◌, ◌*◌, ◌-◌, ◌≤◌}
use native.Mathlib.Omega.{arith}
use lib.ListN.{length}
use Rattle.blocks.specs.Bytes.{store, part, block_at, store_all, store_upto}
use Rattle.blocks.specs.Descriptor.{cost_of, tail_at, descriptor_block, reopened_of, copying, reopening}
use Rattle.blocks.specs.declared.descriptor.Descriptor.{Descriptor}
use Rattle.blocks.proofs.ByteLaws.{upto_whole}
use Rattle.blocks.proofs.DescriptorLaws.{tail_length, tail_block, block_whole}
use Rattle.blocks.proofs.StoreLists.{stored_append, stored_one, stored_length, inside_copying, copied_out}

-- a region's opening: its tables copied, then the pass for its descriptor, which finds bytes 40 to 511 of d's block as they were
module _ (c c₁ : List ℕ) (d : Descriptor) (k : ℕ) (some : 1 ≤ k) (below : d.alpha.0 + k ≤ d.beta.0) (inside : 512 * (d.beta.0 + k) ≤ length c)
    (done : c₁ ≡ store_all c (copying c (d.alpha.0 + 1) (d.beta.0 + 1) (k - 1))) where
  abbrev a : ℕ
  a = d.alpha.0

  length_is : length c₁ ≡ length c
  length_is = ap length done ∙ stored_length (length c) c refl (inside_copying c (a + 1) (d.beta.0 + 1) (k - 1) (omega arith) (omega arith))

  tail_found : tail_at c₁ a ≡ tail_at c a
  tail_found =
      sym (tail_block c₁ a (omega (arith, length_is)))
      ∙ ap (λ (x : List ℕ). part (block_at x a) 40 472) done
      ∙ ap (λ (x : List ℕ). part x 40 472) (copied_out c c refl (a + 1) (d.beta.0 + 1) (k - 1) (omega arith) (omega arith) a (λ j l. omega arith))
      ∙ tail_block c a (omega arith)

  pub region_opened : (c₂ : List ℕ) (o : Descriptor) → length d.name ≡ 16 → k ≡ cost_of d → o ≡ reopened_of d → c₂ ≡ store_upto c₁ d.beta.0 (descriptor_block o (tail_at c₁ d.alpha.0)) 512
      → c₂ ≡ store_all c (reopening c d [])
  region_opened c₂ o n k_is o_is s =
      let long : length (descriptor_block o (tail_at c₁ a)) ≡ 512 = block_whole o (tail_at c₁ a) (ap (λ (x : Descriptor). length x.name) o_is ∙ n) (tail_length c₁ a (omega (arith, length_is))) in
      s
      ∙ upto_whole c₁ d.beta.0 (descriptor_block o (tail_at c₁ a)) long (omega (arith, length_is))
      ∙ rw (tail_found, o_is, done, k_is)
      (sym (stored_append c (copying c (a + 1) (d.beta.0 + 1) (cost_of d - 1)) (store d.beta.0 (descriptor_block (reopened_of d) (tail_at c a)) ∷ []) ∙ stored_one (store_all c (copying c (a + 1) (d.beta.0 + 1) (cost_of d - 1))) d.beta.0 (descriptor_block (reopened_of d) (tail_at c a))))
