-- A format's opening: all its blocks cleared in one run, then the first descriptor put into block 0.
use mathlib.Core.Path.{◌≡◌, refl, sym, ap, ◌∙◌}
use mathlib.Core.List.{List, ◌++◌}
use Prim.Native.Nat.{ℕ, zero, suc, ◌+◌, ◌*◌, ◌-◌, ◌≤◌}
use native.Mathlib.Omega.{arith}
use lib.ListN.{length, take, drop, length-replicate, take-append-drop}
use lib.Seq.{take-append_seam, drop-append_seam, length-take-le}
use Rattle.blocks.specs.Bytes.{splice, le32, zero_block, block_at, store_block, store_all}
use Rattle.blocks.specs.Descriptor.{physical, head_bytes, descriptor_block, tail_at, clearing, opening, cost_in}
use Rattle.blocks.specs.declared.descriptor.Descriptor.{Descriptor}
use Rattle.blocks.specs.declared.descriptor.Format.{Format}
use Rattle.blocks.proofs.ByteLaws.{splice_start, splice_past, put_stored, length_splice, length_le32}
use Rattle.blocks.proofs.DescriptorLaws.{block_made}
use Rattle.blocks.proofs.StoreLists.{stored_length, inside_clearing}
use Rattle.calls.proofs.ReamLaws.{revision_on_zeros, opened}

-- a store of block 0, and stores of zeros to blocks after it
store_first : (x y b : List ℕ) → length x ≡ 512 → length b ≡ 512 → store_block (x ++ y) 0 b ≡ b ++ y
unfolding store_block
store_first x y b n m = splice_start (x ++ y) b ∙ ap (λ (k : ℕ). b ++ drop k (x ++ y)) (m ∙ sym n) ∙ ap (λ (l : List ℕ). b ++ l) (drop-append_seam x y)

store_past : (x y b : List ℕ) (p : ℕ) → length x ≡ 512 → store_block (x ++ y) (suc p) b ≡ x ++ store_block y p b
unfolding store_block
store_past x y b p n = let e : 512 * suc p ≡ 512 + 512 * p = omega arith in ap (λ (k : ℕ). splice (x ++ y) k b) e ∙ splice_past x y 512 (512 * p) b n

clear_past : (x y : List ℕ) (p n : ℕ) → length x ≡ 512 → store_all (x ++ y) (clearing (suc p) n) ≡ x ++ store_all y (clearing p n)
unfolding store_all clearing
clear_past x y p zero e = refl
clear_past x y p (suc n) e = ap (λ (z : List ℕ). store_all z (clearing (suc (suc p)) n)) (store_past x y zero_block p e) ∙ clear_past x (store_block y p zero_block) (suc p) n e

-- the card with all c blocks of the opening cleared, and with the tables alone
module _ (c : List ℕ) (n : ℕ) (inside : 512 ≤ length c) where
  abbrev rest : List ℕ
  rest = store_all (drop 512 c) (clearing 0 n)

  all_cleared : store_all c (clearing 0 (suc n)) ≡ zero_block ++ rest
  unfolding store_all clearing
  all_cleared =
      let e = length-replicate {A = ℕ} 512 0 in
      ap (λ (x : List ℕ). store_all (store_block x 0 zero_block) (clearing 1 n)) (sym (take-append-drop 512 c))
      ∙ ap (λ (x : List ℕ). store_all x (clearing 1 n)) (store_first (take 512 c) (drop 512 c) zero_block (length-take-le 512 c inside) e)
      ∙ clear_past zero_block (drop 512 c) 0 n e

  tables_cleared : store_all c (clearing 1 n) ≡ take 512 c ++ rest
  tables_cleared =
      ap (λ (x : List ℕ). store_all x (clearing 1 n)) (sym (take-append-drop 512 c))
      ∙ clear_past (take 512 c) (drop 512 c) 0 n (length-take-le 512 c inside)

  -- a store of block 0 leaves the same bytes on both
  pub first_stored : (b : List ℕ) → length b ≡ 512 → store_block (store_all c (clearing 0 (suc n))) 0 b ≡ store_block (store_all c (clearing 1 n)) 0 b
  first_stored b m =
      ap (λ (x : List ℕ). store_block x 0 b) all_cleared
      ∙ store_first zero_block rest b (length-replicate {A = ℕ} 512 0) m
      ∙ sym (store_first (take 512 c) rest b (length-take-le 512 c inside) m)
      ∙ sym (ap (λ (x : List ℕ). store_block x 0 b) tables_cleared)

  pub first_cleared : block_at (store_all c (clearing 0 (suc n))) 0 ≡ zero_block
  unfolding block_at
  first_cleared = ap (λ (x : List ℕ). take 512 x) all_cleared ∙ take-append_seam zero_block rest

-- the descriptor that a format of cost k makes
abbrev first : Format → ℕ → Descriptor
first format k = record { layout = format.layout; volume = format.volume; alpha = physical 0; beta = physical k; next = physical 0; name = format.name }

-- all blocks of the opening cleared, then the first descriptor and the revision put into block 0
module _ (c x : List ℕ) (format : Format) (k : ℕ) (some : 1 ≤ k) (inside : 512 * k ≤ length c) (cleared : x ≡ store_all c (clearing 0 k)) (heads : length (head_bytes (first format k)) ≡ 40) where
  abbrev headed : List ℕ
  headed = splice zero_block 0 (head_bytes (first format k))

  abbrev revised : List ℕ
  revised = splice headed 40 (le32 format.revision)

  cleared_run : x ≡ store_all c (clearing 0 (suc (k - 1)))
  cleared_run = let e : k ≡ suc (k - 1) = omega arith in cleared ∙ ap (λ (j : ℕ). store_all c (clearing 0 j)) e

  long : length x ≡ length c
  long = ap length cleared ∙ stored_length (length c) c refl (inside_clearing (length c) 0 k (omega arith))

  headed_long : length headed ≡ 512
  headed_long = length_splice zero_block 0 (head_bytes (first format k)) (omega (arith, heads, length-replicate {A = ℕ} 512 0)) ∙ length-replicate {A = ℕ} 512 0

  revised_long : length revised ≡ 512
  revised_long = length_splice headed 40 (le32 format.revision) (omega (arith, headed_long, length_le32 format.revision)) ∙ headed_long

  made : headed ≡ descriptor_block (first format k) (tail_at x 0)
  made = block_made x 0 zero_block headed (first format k) (omega (arith, long)) heads (sym (ap (λ (y : List ℕ). block_at y 0) cleared_run ∙ first_cleared c (k - 1) (omega arith))) refl

  pub opening_stored : (y z : List ℕ) → k ≡ cost_in format → y ≡ store_block x 0 (descriptor_block (first format k) (tail_at x 0)) → z ≡ splice y 40 (le32 format.revision)
      → z ≡ store_all c (opening format)
  opening_stored y z e f g =
      opened c (store_all c (clearing 1 (k - 1))) z format k revised e (revision_on_zeros (first format k) format.revision headed revised heads refl refl) refl
      (g
      ∙ ap (λ (w : List ℕ). splice w 40 (le32 format.revision)) (f ∙ ap (store_block x 0) (sym made))
      ∙ put_stored x 0 headed 40 (le32 format.revision) headed_long (omega (arith, long)) (omega (arith, length_le32 format.revision))
      ∙ ap (λ (w : List ℕ). store_block w 0 revised) cleared_run
      ∙ first_stored c (k - 1) (omega arith) revised revised_long)
