-- Which blocks are descriptors and table blocks of a chain, and of one that ends sooner; a descriptor's own table blocks; entries as they are read from a block and from one that was stored.
use mathlib.Core.Path.{◌≡◌, refl, sym, ap, ◌∙◌, subst}
use mathlib.Core.Bool.{Bool, true, false, not, ◌&&◌, ◌||◌}
use mathlib.Core.List.{List, [], ◌∷◌, ◌++◌}
use Prim.Native.Nat.{ℕ, ◌+◌, ◌≤◌, ◌<◌, ◌*◌, ◌/◌}
use native.Mathlib.Omega.{arith}
use lib.Dec.{eqb, ltb, leb}
use borrow.Author.Tests.{eq-eqb, ne_eqb, eqb-true}
use Rattle.blocks.specs.Descriptor.{table_count, cost, cost_of, tail_at, descriptor_block}
use Rattle.blocks.specs.declared.numbers.Physical.{Physical}
use Rattle.blocks.specs.declared.descriptor.Descriptor.{Descriptor}
use Rattle.blocks.proofs.BoolLaws.{no, or_false_both, false_or, true_or}
use Rattle.entries.specs.InPlace.{is_descriptor, is_table, is_in_place}
use Rattle.entries.specs.Entry.{phi_at, table_of, entry_at}
use Rattle.entries.proofs.EntryLaws.{placed_other}
use lib.ListN.{length}
use Rattle.blocks.specs.Bytes.{u32_at, block_at}
use Rattle.blocks.proofs.ByteLaws.{u32_part, number_of}
use Rattle.blocks.proofs.DescriptorLaws.{Fits, tail_length}
use Rattle.links.proofs.StoredLaws.{stored_bytes, block_tail, tail_part}

-- fewer descriptors: what is in place stays in place
module _ (v w : Descriptor) (ys : List Descriptor) (alpha : w.alpha ≡ v.alpha) (layout : w.layout ≡ v.layout) (volume : w.volume ≡ v.volume) (p : ℕ) where
  fewer_descriptors : (xs : List Descriptor) → is_descriptor (xs ++ (v ∷ ys)) p ≡ false → is_descriptor (xs ++ (w ∷ [])) p ≡ false
  unfolding is_descriptor
  fewer_descriptors [] h = false_or (eqb p w.alpha.0) false (ap (λ (x : Physical). eqb p x.0) alpha ∙ (or_false_both (eqb p v.alpha.0) (is_descriptor ys p) h).0) refl
  fewer_descriptors (x ∷ xs) h =
      let r = or_false_both (eqb p x.alpha.0) (is_descriptor (xs ++ (v ∷ ys)) p) h in
      false_or (eqb p x.alpha.0) (is_descriptor (xs ++ (w ∷ [])) p) r.0 (fewer_descriptors xs r.1)

  abbrev tables : ℕ → Physical → ℕ → Bool
  tables k a n = eqb k 1 && ltb a.0 p && leb p (a.0 + table_count n)

  fewer_tables : (xs : List Descriptor) → is_table (xs ++ (v ∷ ys)) p ≡ false → is_table (xs ++ (w ∷ [])) p ≡ false
  unfolding is_table
  fewer_tables [] h =
      false_or (tables w.layout w.alpha w.volume) false
      (ap (λ (k : ℕ). tables k w.alpha w.volume) layout ∙ ap (λ (a : Physical). tables v.layout a w.volume) alpha ∙ ap (λ (n : ℕ). tables v.layout v.alpha n) volume
      ∙ (or_false_both (tables v.layout v.alpha v.volume) (is_table ys p) h).0) refl
  fewer_tables (x ∷ xs) h =
      let r = or_false_both (tables x.layout x.alpha x.volume) (is_table (xs ++ (v ∷ ys)) p) h in
      false_or (tables x.layout x.alpha x.volume) (is_table (xs ++ (w ∷ [])) p) r.0 (fewer_tables xs r.1)

  place_by : (z b x y : Bool) → (x ≡ false → y ≡ false) → (z || (b && not x)) ≡ true → (z || (b && not y)) ≡ true
  place_by true b x y f h = refl
  place_by false true true y f h = no h
  place_by false true false y f h = rw (f refl)
  place_by false false x y f h = h

  pub fewer_placed : (xs : List Descriptor) (d e : Descriptor) → e.beta ≡ d.beta → is_in_place (xs ++ (v ∷ ys)) d p ≡ true → is_in_place (xs ++ (w ∷ [])) e p ≡ true
  unfolding is_in_place
  fewer_placed xs d e q h =
      ap (λ (b : Physical). eqb p 0 || (ltb p b.0 && not (is_descriptor (xs ++ (w ∷ [])) p || is_table (xs ++ (w ∷ [])) p))) q
      ∙ place_by (eqb p 0) (ltb p d.beta.0) (is_descriptor (xs ++ (v ∷ ys)) p || is_table (xs ++ (v ∷ ys)) p) (is_descriptor (xs ++ (w ∷ [])) p || is_table (xs ++ (w ∷ [])) p)
      (λ k. let r = or_false_both (is_descriptor (xs ++ (v ∷ ys)) p) (is_table (xs ++ (v ∷ ys)) p) k in false_or (is_descriptor (xs ++ (w ∷ [])) p) (is_table (xs ++ (w ∷ [])) p) (fewer_descriptors xs r.0) (fewer_tables xs r.1)) h

-- a descriptor of the chain is none of the blocks in place
is_descriptor_lem : (xs : List Descriptor) (v : Descriptor) (ys : List Descriptor) → is_descriptor (xs ++ (v ∷ ys)) v.alpha.0 ≡ true
unfolding is_descriptor
is_descriptor_lem [] v ys = rw (eq-eqb v.alpha.0 v.alpha.0 refl)
is_descriptor_lem (x ∷ xs) v ys = true_or (eqb v.alpha.0 x.alpha.0) (is_descriptor (xs ++ (v ∷ ys)) v.alpha.0) (is_descriptor_lem xs v ys)

pub placed_apart : (xs : List Descriptor) (v : Descriptor) (ys : List Descriptor) (d : Descriptor) (p : ℕ) → is_in_place (xs ++ (v ∷ ys)) d p ≡ true → (p ≡ 0 → ⊥) → v.alpha.0 ≡ p → ⊥
placed_apart xs v ys d p h n e =
    let a : is_descriptor (xs ++ (v ∷ ys)) p ≡ true = subst (λ (x : ℕ). is_descriptor (xs ++ (v ∷ ys)) x ≡ true) e (is_descriptor_lem xs v ys) in
    no (sym (placed_other (xs ++ (v ∷ ys)) d p h n) ∙ a)

-- the table block of a group, in layout 1 and in layout 2
pub table_own : (c : List ℕ) (d : Descriptor) (i : ℕ) → eqb d.layout 1 ≡ true → table_of c d i ≡ d.alpha.0 + 1 + i
unfolding table_of
table_own c d i e = rw e

pub table_phi : (c : List ℕ) (d : Descriptor) (i : ℕ) → eqb d.layout 1 ≡ false → table_of c d i ≡ phi_at c d i
unfolding table_of
table_phi c d i e = rw e

pub table_two : (c : List ℕ) (d : Descriptor) (i : ℕ) → d.layout ≡ 2 → table_of c d i ≡ phi_at c d i
table_two c d i e = table_phi c d i (ne_eqb d.layout 1 (λ z. omega (arith, z, e)))

-- a layout that is not 1 is 2
pub layout_two : (l : ℕ) → (eqb l 1 || eqb l 2) ≡ true → eqb l 1 ≡ false → l ≡ 2
layout_two l h e = eqb-true l 2 (rw e at h)

-- in layout 1 a region has room for its own table blocks
pub own_inside : (d : Descriptor) (a b : ℕ) → d.layout ≡ 1 → a + cost_of d ≤ b → a + table_count d.volume < b
unfolding cost
own_inside d a b e h = let q : a + (1 + table_count d.volume) ≤ b = rw (eq-eqb d.layout 1 e) at h in omega arith

-- there are at most 112 table blocks, and their entries are as many as L or more
pub few_tables : (v : ℕ) → v ≤ 14336 → table_count v ≤ 112
unfolding table_count
few_tables v h = omega arith

pub under : (l v : ℕ) → l < v → l < 128 * table_count v
unfolding table_count
under l v h = omega arith

pub own_set : (c : List ℕ) (d : Descriptor) (i : ℕ) → eqb d.layout 1 ≡ true → eqb (table_of c d i) 0 ≡ false
unfolding table_of
own_set c d i e = rw e (ne_eqb (d.alpha.0 + 1 + i) 0 (omega arith))

pub group_below : (l v : ℕ) → l < v → l / 128 < table_count v
unfolding table_count
group_below l v h = omega arith

-- an entry of a table block and one of Phi, read from the block
pub entry_in_lem : (c : List ℕ) (m j : ℕ) → j < 128 → u32_at (block_at c m) (4 * j) ≡ entry_at c m j
unfolding block_at entry_at
entry_in_lem c m j h = u32_part c (512 * m) 512 (4 * j) (omega arith)

pub phi_in_lem : (c : List ℕ) (d : Descriptor) (i : ℕ) → i < 112 → u32_at (block_at c d.alpha.0) (64 + 4 * i) ≡ phi_at c d i
unfolding block_at phi_at
phi_in_lem c d i h =
    let e : 512 * d.alpha.0 + (64 + 4 * i) ≡ 512 * d.alpha.0 + 64 + 4 * i = omega arith in
    u32_part c (512 * d.alpha.0) 512 (64 + 4 * i) (omega arith) ∙ ap (u32_at c) e

-- Phi of a descriptor block that was stored with the tail of another
pub phi_stored : (c t : List ℕ) (w v : Descriptor) → 512 * v.alpha.0 + 512 ≤ length c → 512 * w.alpha.0 + 512 ≤ length t → block_at t w.alpha.0 ≡ descriptor_block w (tail_at c v.alpha.0) → Fits w
    → (i : ℕ) → i < 112 → phi_at t w i ≡ phi_at c v i
unfolding phi_at
phi_stored c t w v in_c in_t is f i h =
    let a = v.alpha.0 in
    let b = w.alpha.0 in
    let l = tail_length c a in_c in
    let q : 512 * b + 64 + 4 * i ≡ 512 * b + (40 + (24 + 4 * i)) = omega arith in
    let r : 512 * a + 40 + (24 + 4 * i) ≡ 512 * a + 64 + 4 * i = omega arith in
    ap (u32_at t) q
    ∙ sym (number_of t (512 * b + (40 + (24 + 4 * i))))
    ∙ ap (λ (y : List ℕ). u32_at y 0)
    (stored_bytes t b in_t w (tail_at c a) is f l (40 + (24 + 4 * i)) 4 (omega arith) ∙ block_tail w (tail_at c a) f l (24 + 4 * i) 4 ∙ tail_part c a (24 + 4 * i) 4 in_c (omega arith))
    ∙ number_of c (512 * a + 40 + (24 + 4 * i))
    ∙ ap (u32_at c) r

-- the entries of two blocks that are equal
pub block_entry : (s c : List ℕ) (m n j : ℕ) → block_at s m ≡ block_at c n → j < 128 → entry_at s m j ≡ entry_at c n j
unfolding entry_at block_at
block_entry s c m n j e h = sym (u32_part s (512 * m) 512 (4 * j) (omega arith)) ∙ ap (λ (b : List ℕ). u32_at b (4 * j)) e ∙ u32_part c (512 * n) 512 (4 * j) (omega arith)
