-- Laws of setting an entry: in its table block, in Phi, and what the other entries are.
use mathlib.Core.Path.{◌≡◌, refl, sym, ap, ◌∙◌, subst}
use mathlib.Core.Bool.{Bool, true, false}
use mathlib.Core.List.{List}
use Prim.Native.Nat.{ℕ, ◌+◌, ◌*◌, ◌/◌, ◌%◌, ◌≤◌, ◌<◌, ◌^◌}
use native.Mathlib.Omega.{arith}
use lib.ListN.{length, length-append, length-replicate}
use lib.Dec.{eqb, ltb}
use borrow.Author.Tests.{eq-eqb, ne_eqb}
use Rattle.blocks.specs.Pick.{pick}
use Rattle.blocks.specs.Bytes.{le32, splice, store_block, store_all, block_at, zero_block, part, u32_at}
use Rattle.blocks.specs.Descriptor.{head_bytes, tail_at, descriptor_block, extended_of}
use Rattle.blocks.specs.declared.descriptor.Descriptor.{Descriptor}
use Rattle.blocks.proofs.ByteLaws.{length_le32, length_splice, length_block_at, splice_past, put_block, put_stored, store_same, store_other, store_over, part_before, u32_in, number_other}
use Rattle.blocks.proofs.DescriptorLaws.{block_length, head_length, store_tail, tail_length}
use Rattle.entries.specs.Entry.{table_with, tail_with, set_in_table, set_in_new_table}

-- an entry of Phi put into a descriptor's block is put into the bytes that travel as they are
pub phi_put : (tail : List ℕ) (d : Descriptor) (i m : ℕ) (b b' : List ℕ) → length (head_bytes d) ≡ 40 → b ≡ descriptor_block d tail → b' ≡ splice b (64 + 4 * i) (le32 m) → b' ≡ descriptor_block d (tail_with tail i m)
unfolding descriptor_block tail_with
phi_put tail d i m b b' n e f =
    let k : 64 + 4 * i ≡ 40 + (24 + 4 * i) = omega arith in
    rw (f, e, k) (splice_past (head_bytes d) tail 40 (24 + 4 * i) (le32 m) n)

-- lengths of what is stored
pub table_length : (b : List ℕ) (j q : ℕ) → length b ≡ 512 → j < 128 → length (table_with b j q) ≡ 512
unfolding table_with
table_length b j q n h = length_splice b (4 * j) (le32 q) (rw (length_le32 q, n) (omega arith)) ∙ n

pub tail_with_length : (tail : List ℕ) (i m : ℕ) → length tail ≡ 472 → i < 112 → length (tail_with tail i m) ≡ 472
unfolding tail_with
tail_with_length tail i m n h = length_splice tail (24 + 4 * i) (le32 m) (rw (length_le32 m, n) (omega arith)) ∙ n

phi_length : (c : List ℕ) (p : ℕ) (d : Descriptor) (i m : ℕ) → 512 * p + 512 ≤ length c → length (head_bytes d) ≡ 40 → i < 112 → length (descriptor_block d (tail_with (tail_at c p) i m)) ≡ 512
unfolding descriptor_block
phi_length c p d i m h n l = length-append (head_bytes d) (tail_with (tail_at c p) i m) ∙ omega (arith, n, tail_with_length (tail_at c p) i m (tail_length c p h) l)

-- the table block that a new one is made from: all nil, or a copy
pub source_length : (c : List ℕ) (m : ℕ) (z : Bool) → (z ≡ false → 512 * m + 512 ≤ length c) → length (pick z zero_block (block_at c m)) ≡ 512
source_length c m true h = length-replicate {A = ℕ} 512 0
source_length c m false h = length_block_at c m (h refl)

-- an entry put into its table block
pub entry_put : (c x : List ℕ) (m j q : ℕ) → 512 * m + 512 ≤ length c → j < 128 → x ≡ splice c (512 * m + 4 * j) (le32 q) → x ≡ store_block c m (table_with (block_at c m) j q)
unfolding table_with
entry_put c x m j q h l e = e ∙ put_block c m (4 * j) (le32 q) h (rw (length_le32 q) (omega arith))

-- the same in a block that was stored before
module _ (c c₁ c₂ : List ℕ) (p j q : ℕ) (inside : 512 * p + 512 ≤ length c) (h : j < 128) (put : c₂ ≡ store_block c₁ p (table_with (block_at c₁ p) j q)) where
  table_put : (b : List ℕ) → length b ≡ 512 → c₁ ≡ store_block c p b → c₂ ≡ store_block c p (table_with b j q)
  table_put b n e =
      put
      ∙ ap (λ (t : List ℕ). store_block c₁ p (table_with t j q)) (ap (λ (y : List ℕ). block_at y p) e ∙ store_same c p b n inside)
      ∙ ap (λ (y : List ℕ). store_block y p (table_with b j q)) e
      ∙ store_over c p b (table_with b j q) n (table_length b j q n h) inside

  pub table_cleared : (m : ℕ) → m ≡ 0 → c₁ ≡ store_block c p zero_block → c₂ ≡ store_block c p (table_with (pick (eqb m 0) zero_block (block_at c m)) j q)
  table_cleared m z e = rw (eq-eqb m 0 z) (table_put zero_block (length-replicate {A = ℕ} 512 0) e)

  pub table_copied : (m : ℕ) → (m ≡ 0 → ⊥) → 512 * m + 512 ≤ length c → c₁ ≡ store_block c p (block_at c m) → c₂ ≡ store_block c p (table_with (pick (eqb m 0) zero_block (block_at c m)) j q)
  table_copied m z l e = rw (ne_eqb m 0 z) (table_put (block_at c m) (length_block_at c m l) e)

-- an entry of Phi put after its descriptor
pub phi_put_in : (c c₁ c₂ : List ℕ) (p : ℕ) (d : Descriptor) (i m : ℕ) → 512 * p + 512 ≤ length c → i < 112 → length (head_bytes d) ≡ 40
    → c₁ ≡ store_block c p (descriptor_block d (tail_at c p)) → c₂ ≡ splice c₁ (512 * p + (64 + 4 * i)) (le32 m) → c₂ ≡ store_block c p (descriptor_block d (tail_with (tail_at c p) i m))
phi_put_in c c₁ c₂ p d i m h l n e f =
    f
    ∙ ap (λ (y : List ℕ). splice y (512 * p + (64 + 4 * i)) (le32 m)) e
    ∙ put_stored c p old (64 + 4 * i) (le32 m) (block_length c p d old h n refl) h (rw (length_le32 m) (omega arith))
    ∙ ap (store_block c p) (phi_put (tail_at c p) d i m old (splice old (64 + 4 * i) (le32 m)) n refl refl)
  where
    old : List ℕ
    old = descriptor_block d (tail_at c p)

-- two stores, one after the other, of what the card at entry has; of two stores of one block the second stays
module _ (c c₂ : List ℕ) (d : Descriptor) (m l : ℕ) (in_alpha : 512 * d.alpha.0 + 512 ≤ length c) (in_m : 512 * m + 512 ≤ length c) where
  pub table_set : (c₁ : List ℕ) (e : Descriptor) → e ≡ extended_of d 1 → length (head_bytes e) ≡ 40 → (m ≡ d.alpha.0 → ⊥) → c₁ ≡ store_block c d.alpha.0 (descriptor_block e (tail_at c d.alpha.0))
      → c₂ ≡ store_block c₁ m (table_with (block_at c₁ m) (l % 128) d.beta.0) → c₂ ≡ store_all c (set_in_table c d m l)
  unfolding store_all set_in_table
  table_set c₁ e a n apart p q =
      q
      ∙ ap (λ (t : List ℕ). store_block c₁ m (table_with t (l % 128) d.beta.0))
      (ap (λ (y : List ℕ). block_at y m) p
      ∙ store_other c d.alpha.0 (descriptor_block e (tail_at c d.alpha.0)) (block_length c d.alpha.0 e (descriptor_block e (tail_at c d.alpha.0)) in_alpha n refl) in_alpha m apart)
      ∙ ap (λ (y : List ℕ). store_block y m (table_with (block_at c m) (l % 128) d.beta.0)) (p ∙ ap (λ (x : Descriptor). store_block c d.alpha.0 (descriptor_block x (tail_at c d.alpha.0))) a)

  pub table_set_over : length d.name ≡ 16 → m ≡ d.alpha.0 → c₂ ≡ store_block c m (table_with (block_at c m) (l % 128) d.beta.0) → c₂ ≡ store_all c (set_in_table c d m l)
  unfolding store_all set_in_table
  table_set_over n same q =
      let t : List ℕ = table_with (block_at c m) (l % 128) d.beta.0 in
      let h : List ℕ = descriptor_block (extended_of d 1) (tail_at c d.alpha.0) in
      q
      ∙ sym (store_over c m h t (block_length c d.alpha.0 (extended_of d 1) h in_alpha (head_length (extended_of d 1) n) refl) (table_length (block_at c m) (l % 128) d.beta.0 (length_block_at c m in_m) (omega arith)) in_m)
      ∙ ap (λ (a : ℕ). store_block (store_block c a h) m t) same

  module _ (in_beta : 512 * d.beta.0 + 512 ≤ length c) (small : l / 128 < 112) (e : Descriptor) (a : e ≡ extended_of d 2) (n : length (head_bytes e) ≡ 40) where
    abbrev new : List ℕ
    new = table_with (pick (eqb m 0) zero_block (block_at c m)) (l % 128) (d.beta.0 + 1)

    new_length : length new ≡ 512
    new_length = table_length (pick (eqb m 0) zero_block (block_at c m)) (l % 128) (d.beta.0 + 1) (source_length c m (eqb m 0) (λ e. in_m)) (omega arith)

    pub new_table_set : (c₁ : List ℕ) → (d.alpha.0 ≡ d.beta.0 → ⊥) → c₁ ≡ store_block c d.beta.0 new
        → c₂ ≡ store_block c₁ d.alpha.0 (descriptor_block e (tail_with (tail_at c₁ d.alpha.0) (l / 128) d.beta.0)) → c₂ ≡ store_all c (set_in_new_table c d m l)
    unfolding store_all set_in_new_table
    new_table_set c₁ apart p q =
        q
        ∙ ap (λ (t : List ℕ). store_block c₁ d.alpha.0 (descriptor_block e (tail_with t (l / 128) d.beta.0)))
        (ap (λ (y : List ℕ). tail_at y d.alpha.0) p ∙ store_tail c d.beta.0 new d.alpha.0 new_length in_beta in_alpha apart)
        ∙ rw (p, a)

    pub new_table_set_over : d.beta.0 ≡ d.alpha.0 → c₂ ≡ store_block c d.beta.0 (descriptor_block e (tail_with (tail_at c d.beta.0) (l / 128) d.beta.0)) → c₂ ≡ store_all c (set_in_new_table c d m l)
    unfolding store_all set_in_new_table
    new_table_set_over same q =
        q
        ∙ sym (store_over c d.beta.0 new (descriptor_block e (tail_with (tail_at c d.beta.0) (l / 128) d.beta.0)) new_length (phi_length c d.beta.0 e (l / 128) d.beta.0 in_beta n small) in_beta)
        ∙ ap (λ (b : ℕ). store_block (store_block c d.beta.0 new) b (descriptor_block e (tail_with (tail_at c b) (l / 128) d.beta.0))) same
        ∙ rw a

-- a tail with an entry of Phi set
module _ (tail : List ℕ) (i m : ℕ) (few_entries : i < 112) (tail_whole : length tail ≡ 472) where
  put_fits : 24 + 4 * i + length (le32 m) ≤ length tail
  put_fits = omega (arith, length_le32 m)

  pub put_reserved : part (tail_with tail i m) 0 24 ≡ part tail 0 24
  unfolding tail_with
  put_reserved = part_before tail (24 + 4 * i) (le32 m) put_fits 0 24 (omega arith)

-- Phi in the tail of a descriptor block
module _ (tail : List ℕ) (i v : ℕ) (few : i < 112) (whole : length tail ≡ 472) where
  pub tail_set : v < 2 ^ 32 → u32_at (tail_with tail i v) (24 + 4 * i) ≡ v
  unfolding tail_with
  tail_set h = u32_in tail (24 + 4 * i) v (omega arith) h

  pub tail_other : (k : ℕ) → (k ≡ i → ⊥) → u32_at (tail_with tail i v) (24 + 4 * k) ≡ u32_at tail (24 + 4 * k)
  unfolding tail_with
  tail_other k h = number_other tail 24 i v (omega arith) k h (ltb k i) refl

-- the entries of a table block
module _ (table : List ℕ) (j v : ℕ) (few : j < 128) (whole : length table ≡ 512) where
  pub with_set : v < 2 ^ 32 → u32_at (table_with table j v) (4 * j) ≡ v
  unfolding table_with
  with_set h = u32_in table (4 * j) v (omega arith) h

  pub with_other : (k : ℕ) → (k ≡ j → ⊥) → u32_at (table_with table j v) (4 * k) ≡ u32_at table (4 * k)
  unfolding table_with
  with_other k h =
      let e : (n : ℕ) → 0 + 4 * n ≡ 4 * n = λ n. omega arith in
      subst (λ (x : ℕ). u32_at (splice table x (le32 v)) (4 * k) ≡ u32_at table (4 * k)) (e j)
      (subst (λ (x : ℕ). u32_at (splice table (0 + 4 * j) (le32 v)) x ≡ u32_at table x) (e k) (number_other table 0 j v (omega arith) k h (ltb k j) refl))
