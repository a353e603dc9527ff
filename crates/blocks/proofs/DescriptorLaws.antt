-- Laws of a descriptor: its fields put one after the other are its bytes, one that was stored is the one that is read, and what a region opens with.
use mathlib.Core.Path.{◌≡◌, refl, sym, ap, ◌∙◌}
use mathlib.Core.Bool.{Bool, true, false, ◌&&◌, ◌||◌}
use mathlib.Core.List.{List, ◌++◌}
use Prim.Native.Nat.{ℕ, ◌+◌, ◌*◌, ◌-◌, ◌≤◌, ◌<◌, ◌^◌}
use native.Mathlib.Omega.{arith}
use native.Mathlib.Nat.{add-zero}
use lib.ListN.{length, drop, length-append, length-drop, get_or, replicate}
use lib.Seq.{take_all}
use lib.Dec.{eqb}
use borrow.Author.Tests.{eq-eqb, ne_eqb, eqb-true, eqb-false}
use Rattle.blocks.specs.Pick.{pick, same, all_zero}
use Rattle.blocks.specs.Bytes.{u32_at, u64_at, le32, splice, part, block_at, store_block}
use Rattle.blocks.specs.Descriptor.{mark, descriptor_at, revision_at, revision_ok, reserved_ok, first_tail, head_bytes, tail_at, descriptor_block, physical, extended_of, table_count, cost, cost_of}
use Rattle.blocks.specs.declared.descriptor.Descriptor.{Descriptor}
use Rattle.blocks.proofs.Tests.{and_left, and_right}
use Rattle.blocks.proofs.BoolLaws.{no, and_false}
use Rattle.blocks.proofs.ListLaws.{same_equal, zero_four}
use Rattle.blocks.proofs.ByteLaws.{put_next, u32_part, u32_within, part_within, digits, splice_start, length_part, part_part, store_length, store_other, put_block, part_join, number_back, zero_number}
use Rattle.blocks.proofs.NameLaws.{name_size_lem}
use Rattle.blocks.specs.Name.{is_name}

-- the fields, put one after the other from the start of a block
pub head_put : (c₀ c₁ c₂ c₃ c₄ c₅ c₆ c₇ : List ℕ) (d : Descriptor) → 40 ≤ length c₀ → length d.name ≡ 16
    → c₁ ≡ splice c₀ 0 mark
    → c₂ ≡ splice c₁ 4 (le32 d.layout)
    → c₃ ≡ splice c₂ 8 (le32 d.volume)
    → c₄ ≡ splice c₃ 12 (le32 d.alpha.0)
    → c₅ ≡ splice c₄ 16 (le32 d.beta.0)
    → c₆ ≡ splice c₅ 20 (le32 d.next.0)
    → c₇ ≡ splice c₆ 24 d.name
    → c₇ ≡ splice c₀ 0 (head_bytes d)
unfolding head_bytes le32
head_put c₀ c₁ c₂ c₃ c₄ c₅ c₆ c₇ d h n e₁ e₂ e₃ e₄ e₅ e₆ e₇ =
    let x₂ : List ℕ = mark ++ le32 d.layout in
    let x₃ : List ℕ = x₂ ++ le32 d.volume in
    let x₄ : List ℕ = x₃ ++ le32 d.alpha.0 in
    let x₅ : List ℕ = x₄ ++ le32 d.beta.0 in
    let x₆ : List ℕ = x₅ ++ le32 d.next.0 in
    let f₂ = put_next c₀ 0 mark 4 (le32 d.layout) e₁ e₂ refl (omega arith) in
    let f₃ = put_next c₀ 0 x₂ 8 (le32 d.volume) f₂ e₃ refl (omega arith) in
    let f₄ = put_next c₀ 0 x₃ 12 (le32 d.alpha.0) f₃ e₄ refl (omega arith) in
    let f₅ = put_next c₀ 0 x₄ 16 (le32 d.beta.0) f₄ e₅ refl (omega arith) in
    let f₆ = put_next c₀ 0 x₅ 20 (le32 d.next.0) f₅ e₆ refl (omega arith) in
    put_next c₀ 0 x₆ 24 d.name f₆ e₇ refl (omega arith)

pub head_length : (d : Descriptor) → length d.name ≡ 16 → length (head_bytes d) ≡ 40
unfolding head_bytes le32
head_length d n = rw n

pub tail_length : (c : List ℕ) (p : ℕ) → 512 * p + 512 ≤ length c → length (tail_at c p) ≡ 472
tail_length c p h = length_part c (512 * p + 40) 472 (omega arith)

-- a block whose first 40 bytes are replaced keeps its tail
pub block_made : (c : List ℕ) (p : ℕ) (b b' : List ℕ) (d : Descriptor) → 512 * p + 512 ≤ length c → length (head_bytes d) ≡ 40 → b ≡ block_at c p → b' ≡ splice b 0 (head_bytes d)
    → b' ≡ descriptor_block d (tail_at c p)
unfolding descriptor_block block_at
block_made c p b b' d h n e f =
    rw (f, e) (splice_start (part c (512 * p) 512) (head_bytes d) ∙ rw n (ap (λ (t : List ℕ). head_bytes d ++ t) rest))
  where
    rest : drop 40 (part c (512 * p) 512) ≡ part c (512 * p + 40) 472
    rest = sym (take_all 472 (drop 40 (part c (512 * p) 512)) (simp (length-drop, length_part c (512 * p) 512 h) (omega arith))) ∙ part_part c (512 * p) 512 40 472 (omega arith) h

-- the numbers are of 32 bits, and the name has sixteen bytes
pub record Fits (d : Descriptor) : Type 0 where
  pub layout : d.layout < 2 ^ 32
  pub volume : d.volume < 2 ^ 32
  pub alpha : d.alpha.0 < 2 ^ 32
  pub beta : d.beta.0 < 2 ^ 32
  pub next : d.next.0 < 2 ^ 32
  pub name : length d.name ≡ 16

module _ (d : Descriptor) (f : Fits d) where
  at_layout : u32_at (head_bytes d) 4 ≡ d.layout
  unfolding head_bytes le32 u32_at
  at_layout = digits d.layout f.layout

  at_volume : u32_at (head_bytes d) 8 ≡ d.volume
  unfolding head_bytes le32 u32_at
  at_volume = digits d.volume f.volume

  at_alpha : u32_at (head_bytes d) 12 ≡ d.alpha.0
  unfolding head_bytes le32 u32_at
  at_alpha = digits d.alpha.0 f.alpha

  at_beta : u32_at (head_bytes d) 16 ≡ d.beta.0
  unfolding head_bytes le32 u32_at
  at_beta = digits d.beta.0 f.beta

  at_next : u32_at (head_bytes d) 20 ≡ d.next.0
  unfolding head_bytes le32 u32_at
  at_next = digits d.next.0 f.next

  at_name : part (head_bytes d) 24 16 ≡ d.name
  unfolding head_bytes le32
  at_name = take_all 16 d.name (omega (arith, f.name))

  -- a descriptor that was put into block p is the one that is read there
  pub read_back : (c : List ℕ) (p : ℕ) → 512 * p + 40 ≤ length c → descriptor_at (splice c (512 * p) (head_bytes d)) p ≡ d
  unfolding descriptor_at
  read_back c p h =
      let long = head_length d f.name in
      let fits : 512 * p + length (head_bytes d) ≤ length c = omega arith in
      rw (
        u32_within c (512 * p) (head_bytes d) fits 4 (omega arith),
        at_layout,
        u32_within c (512 * p) (head_bytes d) fits 8 (omega arith),
        at_volume,
        u32_within c (512 * p) (head_bytes d) fits 12 (omega arith),
        at_alpha,
        u32_within c (512 * p) (head_bytes d) fits 16 (omega arith),
        at_beta,
        u32_within c (512 * p) (head_bytes d) fits 20 (omega arith),
        at_next,
        part_within c (512 * p) (head_bytes d) fits 24 16 (omega arith),
        at_name,
      )

-- a marked block of bytes is that of the descriptor that is read from it, and its tail
pub block_back : (c : List ℕ) (p : ℕ) → ((i : ℕ) → get_or c i 0 < 256) → 512 * p + 512 ≤ length c → part c (512 * p) 4 ≡ mark → descriptor_block (descriptor_at c p) (tail_at c p) ≡ block_at c p
unfolding descriptor_block head_bytes descriptor_at block_at
block_back c p bytes h m =
    let a = 512 * p in
    let x₁ = mark ++ le32 (u32_at c (a + 4)) in
    let x₂ = x₁ ++ le32 (u32_at c (a + 8)) in
    let x₃ = x₂ ++ le32 (u32_at c (a + 12)) in
    let x₄ = x₃ ++ le32 (u32_at c (a + 16)) in
    let x₅ = x₄ ++ le32 (u32_at c (a + 20)) in
    let e₁ = part_join c a 4 4 8 mark (le32 (u32_at c (a + 4))) (omega arith) (sym m) (number_back c (a + 4) bytes (omega arith)) in
    let e₂ = part_join c a 8 4 12 x₁ (le32 (u32_at c (a + 8))) (omega arith) e₁ (number_back c (a + 8) bytes (omega arith)) in
    let e₃ = part_join c a 12 4 16 x₂ (le32 (u32_at c (a + 12))) (omega arith) e₂ (number_back c (a + 12) bytes (omega arith)) in
    let e₄ = part_join c a 16 4 20 x₃ (le32 (u32_at c (a + 16))) (omega arith) e₃ (number_back c (a + 16) bytes (omega arith)) in
    let e₅ = part_join c a 20 4 24 x₄ (le32 (u32_at c (a + 20))) (omega arith) e₄ (number_back c (a + 20) bytes (omega arith)) in
    let e₆ = part_join c a 24 16 40 x₅ (part c (a + 24) 16) (omega arith) e₅ refl in
    part_join c a 40 472 512 (x₅ ++ part c (a + 24) 16) (tail_at c p) (omega arith) e₆ refl

-- a descriptor's block is a whole block
pub block_length : (c : List ℕ) (p : ℕ) (d : Descriptor) (b : List ℕ) → 512 * p + 512 ≤ length c → length (head_bytes d) ≡ 40 → b ≡ descriptor_block d (tail_at c p) → length b ≡ 512
unfolding descriptor_block
block_length c p d b h n e = ap length e ∙ length-append (head_bytes d) (tail_at c p) ∙ omega (arith, n, tail_length c p h)

-- bytes 40 to 511 of a block, and what a store of another block leaves of them
pub tail_block : (c : List ℕ) (p : ℕ) → 512 * p + 512 ≤ length c → part (block_at c p) 40 472 ≡ tail_at c p
unfolding block_at
tail_block c p h = part_part c (512 * p) 512 40 472 (omega arith) h

pub store_tail : (c : List ℕ) (q : ℕ) (b : List ℕ) (p : ℕ) → length b ≡ 512 → 512 * q + 512 ≤ length c → 512 * p + 512 ≤ length c → (p ≡ q → ⊥) → tail_at (store_block c q b) p ≡ tail_at c p
store_tail c q b p whole inside h n =
    sym (tail_block (store_block c q b) p (rw (store_length c q b whole inside) h)) ∙ ap (λ (x : List ℕ). part x 40 472) (store_other c q b whole inside p n) ∙ tail_block c p h

-- a descriptor put into its place is a store of its block
pub descriptor_put : (c x : List ℕ) (p : ℕ) (d : Descriptor) → 512 * p + 512 ≤ length c → length (head_bytes d) ≡ 40 → x ≡ splice c (512 * p) (head_bytes d) → x ≡ store_block c p (descriptor_block d (tail_at c p))
descriptor_put c x p d h n e =
    e
    ∙ ap (λ (at : ℕ). splice c at (head_bytes d)) (sym (add-zero (512 * p)))
    ∙ put_block c p 0 (head_bytes d) h (omega arith)
    ∙ ap (store_block c p) (block_made c p (block_at c p) (splice (block_at c p) 0 (head_bytes d)) d h n refl refl)

-- sixteen bytes that differ from a name in a 64-bit word are not that name
pub words_apart : (c name : List ℕ) (p place k x y : ℕ) → place ≡ 512 * p + 24 + k → k + 8 ≤ 16 → x ≡ u64_at c place → y ≡ u64_at name k → (x ≡ y → ⊥) → false ≡ same (descriptor_at c p).name name
unfolding descriptor_at u64_at
words_apart c name p place k x y at inside e f n = by (same (part c (512 * p + 24) 16) name) refl
  where
    word : u32_at (part c (512 * p + 24) 16) k + 4294967296 * u32_at (part c (512 * p + 24) 16) (k + 4) ≡ x
    word =
        let q : 512 * p + 24 + (k + 4) ≡ place + 4 = omega arith in
        rw (u32_part c (512 * p + 24) 16 k (omega arith), u32_part c (512 * p + 24) 16 (k + 4) (omega arith), q, ← at) (sym e)

    by : (b : Bool) → same (part c (512 * p + 24) 16) name ≡ b → false ≡ b
    by true h = absurd (n (sym word ∙ ap (λ (z : List ℕ). u32_at z k + 4294967296 * u32_at z (k + 4)) (same_equal (part c (512 * p + 24) 16) name h) ∙ sym f))
    by false h = refl

-- a descriptor's block is whole where its name has sixteen bytes and its tail 472
pub block_whole : (d : Descriptor) (tail : List ℕ) → length d.name ≡ 16 → length tail ≡ 472 → length (descriptor_block d tail) ≡ 512
unfolding descriptor_block
block_whole d tail n t = length-append (head_bytes d) tail ∙ omega (arith, head_length d n, t)

-- numbers that a card's descriptors have fit 32 bits
pub fits_of : (e : Descriptor) → e.layout ≤ 2 → e.volume ≤ 14336 → e.alpha.0 ≤ 65536 → e.beta.0 ≤ 65536 → e.next.0 ≤ 65536 → is_name e.name ≡ true → Fits e
fits_of e l v a b n m = record { layout = omega arith; volume = omega arith; alpha = omega arith; beta = omega arith; next = omega arith; name = name_size_lem e.name m }

-- no more blocks: the descriptor as it was
pub extended_none : (d : Descriptor) → extended_of d 0 ≡ d
extended_none d =
    let e : d.beta.0 + 0 ≡ d.beta.0 = omega arith in
    ap (λ (b : ℕ). record { layout = d.layout; volume = d.volume; alpha = d.alpha; beta = physical b; next = d.next; name = d.name }) e

-- what a region opens with: at least its descriptor; in layout 1 its n table blocks too
cost_by : (n : ℕ) (t : Bool) → 1 ≤ pick t (1 + n) 1
cost_by n true = omega arith
cost_by n false = omega arith

pub cost_least : (layout volume : ℕ) → 1 ≤ cost layout volume
unfolding cost
cost_least layout volume = cost_by (table_count volume) (eqb layout 1)

pub cost_one : (d : Descriptor) → d.layout ≡ 1 → cost_of d ≡ 1 + table_count d.volume
unfolding cost
cost_one d e = rw (eq-eqb d.layout 1 e)

-- the revision: where it stands in bytes 40 to 63, and in bytes 40 to 511
pub revision_part : (c : List ℕ) (p : ℕ) → u32_at (part c (512 * p + 40) 24) 0 ≡ revision_at c p
unfolding revision_at
revision_part c p = u32_part c (512 * p + 40) 24 0 (omega arith) ∙ ap (λ (at : ℕ). u32_at c at) (add-zero (512 * p + 40))

pub revision_tail : (c : List ℕ) (p : ℕ) → u32_at (tail_at c p) 0 ≡ revision_at c p
unfolding revision_at
revision_tail c p = u32_part c (512 * p + 40) 472 0 (omega arith) ∙ ap (λ (at : ℕ). u32_at c at) (add-zero (512 * p + 40))

-- 0 or 1
pub revision_small : (r : ℕ) → revision_ok r ≡ true → r ≤ 1
unfolding revision_ok
revision_small r h = by (eqb r 0) (eqb r 1) refl refl h
  where
    by : (x y : Bool) → eqb r 0 ≡ x → eqb r 1 ≡ y → (x || y) ≡ true → r ≤ 1
    by true y e f h = omega (arith, eqb-true r 0 e)
    by false true e f h = omega (arith, eqb-true r 1 f)
    by false false e f h = no h

pub revision_large : (r : ℕ) → 1 < r → revision_ok r ≡ false
unfolding revision_ok
revision_large r h = rw (ne_eqb r 0 (omega arith), ne_eqb r 1 (omega arith))

pub small_revision : (r : ℕ) → r ≤ 1 → revision_ok r ≡ true
unfolding revision_ok
small_revision r h = by (eqb r 0) refl
  where
    by : (x : Bool) → eqb r 0 ≡ x → (x || eqb r 1) ≡ true
    by true e = refl
    by false e = eq-eqb r 1 (omega (arith, eqb-false r 0 e))

-- bytes 40 to 63 in order have a revision, the card's
pub reserved_revision : (r : ℕ) (b : List ℕ) → reserved_ok r b ≡ true → (revision_ok (u32_at b 0) ≡ true) × (u32_at b 0 ≡ r)
unfolding reserved_ok
reserved_revision r b h =
    let two = and_left (revision_ok (u32_at b 0) && eqb (u32_at b 0) r) (all_zero (drop 4 b)) h in
    (and_left (revision_ok (u32_at b 0)) (eqb (u32_at b 0) r) two, eqb-true (u32_at b 0) r (and_right (revision_ok (u32_at b 0)) (eqb (u32_at b 0) r) two))

-- bytes 40 to 63 by the tests of the code: the first eight as one number, and the rest
module _ (r : ℕ) (b : List ℕ) where
  pub reserved_large : 1 < r → false ≡ reserved_ok r b
  unfolding reserved_ok
  reserved_large h = by (eqb (u32_at b 0) r) refl
    where
      by : (x : Bool) → eqb (u32_at b 0) r ≡ x → false ≡ (revision_ok (u32_at b 0) && x && all_zero (drop 4 b))
      by true e = rw (eqb-true (u32_at b 0) r e, revision_large r h)
      by false e = sym (ap (λ (z : Bool). z && all_zero (drop 4 b)) (and_false (revision_ok (u32_at b 0))))

  module _ (small : r ≤ 1) (long : 8 ≤ length b) where
    rest_is : all_zero (drop 4 b) ≡ (eqb (u32_at b 4) 0 && all_zero (drop 8 b))
    rest_is = zero_four b 4 long

    pub reserved_other : (u64_at b 0 ≡ r → ⊥) → false ≡ reserved_ok r b
    unfolding reserved_ok u64_at
    reserved_other n = by (eqb (u32_at b 0) r) (eqb (u32_at b 4) 0) refl refl
      where
        by : (x y : Bool) → eqb (u32_at b 0) r ≡ x → eqb (u32_at b 4) 0 ≡ y → false ≡ (revision_ok (u32_at b 0) && x && all_zero (drop 4 b))
        by true true e f = absurd (n (omega (arith, eqb-true (u32_at b 0) r e, eqb-true (u32_at b 4) 0 f)))
        by true false e f = rw (rest_is, f) (sym (and_false (revision_ok (u32_at b 0) && true)))
        by false y e f = sym (ap (λ (z : Bool). z && all_zero (drop 4 b)) (and_false (revision_ok (u32_at b 0))))

    pub reserved_same : u64_at b 0 ≡ r → (z : Bool) → z ≡ all_zero (drop 8 b) → z ≡ reserved_ok r b
    unfolding reserved_ok u64_at
    reserved_same e z zero =
        let low : u32_at b 0 ≡ r = omega (arith, e) in
        let high : u32_at b 4 ≡ 0 = omega (arith, e) in
        zero ∙ sym (rw (low, small_revision r small, eq-eqb r r refl, rest_is, eq-eqb (u32_at b 4) 0 high))

-- what a format stores there
pub first_tail_length : (r : ℕ) → length (first_tail r) ≡ 472
unfolding first_tail le32
first_tail_length r = refl

pub first_tail_revision : (r : ℕ) → r ≤ 1 → u32_at (first_tail r) 0 ≡ r
unfolding first_tail le32 u32_at
first_tail_revision r h = digits r (omega arith)

pub first_tail_number : (r k : ℕ) → 4 ≤ k → u32_at (first_tail r) k ≡ 0
unfolding first_tail le32
first_tail_number r k h =
    let j = k - 4 in
    let e : k ≡ 4 + j = omega arith in
    ap (u32_at (first_tail r)) e
    ∙ sym (u32_part (first_tail r) 4 (j + 4) j (omega arith))
    ∙ u32_part (replicate 468 0) 0 (j + 4) j (omega arith)
    ∙ zero_number 468 (0 + j)

pub first_tail_zeros : (r : ℕ) → all_zero (part (first_tail r) 24 448) ≡ true
unfolding first_tail le32 all_zero
first_tail_zeros r = refl

pub first_tail_reserved : (r : ℕ) → r ≤ 1 → reserved_ok r (part (first_tail r) 0 24) ≡ true
unfolding reserved_ok first_tail le32 all_zero
first_tail_reserved r h = rw (u32_part (first_tail r) 0 24 0 (omega arith), first_tail_revision r h, small_revision r h, eq-eqb r r refl)
