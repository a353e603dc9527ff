-- Laws of the snapshot's stores, as the code asks them.
use mathlib.Core.Path.{◌≡◌, sym, ap, ◌∙◌}
use mathlib.Core.List.{List, [], ◌∷◌, append_assoc}
use Prim.Native.Nat.{ℕ, ◌+◌, ◌*◌, ◌-◌, ◌≤◌}
use native.Mathlib.Omega.{arith}
use lib.ListN.{length}
use Rattle.blocks.specs.Bytes.{Store, store, store_block, store_all}
use Rattle.blocks.specs.Descriptor.{cost_of, tail_at, descriptor_block, renamed_of, linked_of, reopened_of, copying, reopening}
use Rattle.blocks.specs.declared.descriptor.Descriptor.{Descriptor}
use Rattle.blocks.proofs.RegionLaws.{reopening_tail}
use Rattle.calls.specs.Stores.{snapping}
use Rattle.blocks.proofs.StoreLists.{stored_append, stored_one}

-- the region opened, then the old descriptor, whose bytes 40 to 511 are as they were
module _ (c c₂ : List ℕ) (d : Descriptor) (k : ℕ) (some : 1 ≤ k) (below : d.alpha.0 + k ≤ d.beta.0) (inside : 512 * (d.beta.0 + k) ≤ length c) (k_is : k ≡ cost_of d)
    (n : length d.name ≡ 16) (opened : c₂ ≡ store_all c (reopening c d [])) where
  tail_is : tail_at c₂ d.alpha.0 ≡ tail_at c d.alpha.0
  tail_is = ap (λ (y : List ℕ). tail_at y d.alpha.0) opened ∙ reopening_tail c d (omega arith) (omega arith) n

  pub snapped : (c₃ : List ℕ) (r e : Descriptor) (name : List ℕ) → r ≡ renamed_of d name → e ≡ linked_of r d.beta → c₃ ≡ store_block c₂ d.alpha.0 (descriptor_block e (tail_at c₂ d.alpha.0))
      → c₃ ≡ store_all c (snapping c d name)
  unfolding snapping
  snapped c₃ r e name r_is e_is s =
      let last : Store = store d.alpha.0 (descriptor_block (linked_of (renamed_of d name) d.beta) (tail_at c d.alpha.0)) in
      s
      ∙ rw (tail_is, e_is, r_is, opened)
      (sym (stored_append c (reopening c d []) (last ∷ []) ∙ stored_one (store_all c (reopening c d [])) d.alpha.0 (descriptor_block (linked_of (renamed_of d name) d.beta) (tail_at c d.alpha.0))))
      ∙ ap (store_all c) (append_assoc (copying c (d.alpha.0 + 1) (d.beta.0 + 1) (cost_of d - 1)) (store d.beta.0 (descriptor_block (reopened_of d) (tail_at c d.alpha.0)) ∷ []) (last ∷ []))
