-- A span piece by piece: which blocks it touches, and what one piece more adds to what was read and to what was written.
use mathlib.Core.Path.{◌≡◌, refl, sym, ap, ◌∙◌}
use mathlib.Core.Bool.{Bool, true, false}
use mathlib.Core.List.{List, ◌++◌}
use Prim.Native.Nat.{ℕ, zero, suc, ◌+◌, ◌*◌, ◌-◌, ◌/◌, ◌≤◌, ◌<◌, min}
use native.Mathlib.Omega.{arith}
use native.Mathlib.Nat.{zero-add}
use lib.ListN.{length, take}
use lib.Seq.{take-add, length-take-le}
use lib.Dec.{ltb, leb}
use borrow.Author.Tests.{leb-true, leb-false, ltb-false}
use Rattle.blocks.specs.Bytes.{splice, part}
use Rattle.blocks.proofs.ByteLaws.{length_part, length_splice, splice_join}
use Rattle.pieces.specs.Span.{touched, merged, span_block}
use Rattle.pieces.proofs.RunLaws.{splice_inside, parts_join}

-- how many blocks a span touches
pub touched_none : (o n : ℕ) → n ≡ 0 → 0 ≡ touched o n
unfolding touched
touched_none o n e = rw e

pub touched_some : (o n : ℕ) → (n ≡ 0 → ⊥) → (o + (n - 1)) / 512 - o / 512 + 1 ≡ touched o n
unfolding touched
touched_some o zero h = absurd (h refl)
touched_some o (suc n) h = let e : suc n - 1 ≡ n = omega arith in rw e

-- a span that does not end past so many bytes
pub past_upto : (v o n : ℕ) (b : Bool) → b ≡ ltb (512 * v) (o + n) → b ≡ false → o + n ≤ 512 * v
past_upto v o n b e h = ltb-false (512 * v) (o + n) (sym e ∙ h)

-- block i of them begins before the span's end and ends behind its start
pub begins : (o n i : ℕ) → i < touched o n → 512 * span_block o i < o + n
unfolding touched
begins o zero i h = absurd (omega arith)
begins o (suc m) i h = omega arith

pub ends : (o i : ℕ) → o < 512 * span_block o i + 512
ends o i = omega arith

-- so it is one of the volume, where the span ends in it
pub inside : (o n v i : ℕ) → o + n ≤ 512 * v → i < touched o n → span_block o i < v
inside o n v i h k = omega (arith, begins o n i k)

-- how many of the span's bytes lie before a block
abbrev pub reached : ℕ → ℕ → ℕ → ℕ
reached o n l = min n (512 * l - o)

pub reached_none : (o n : ℕ) → reached o n (span_block o 0) ≡ 0
reached_none o n = omega arith

pub reached_all : (o n : ℕ) → reached o n (span_block o (touched o n)) ≡ n
unfolding touched
reached_all o zero = omega arith
reached_all o (suc m) = omega arith

-- the numbers of one piece: x is the first byte of its block, which the span touches
module _ (o n x : ℕ) (h : x < o + n) (k : o < x + 512) where
  pub stands_is : x - o ≡ min n (x - o)
  stands_is = omega arith

  pub place_is : x + (o - x) ≡ o + min n (x - o)
  place_is = omega arith

  pub next_is : min n (x + 512 - o) ≡ min n (x - o) + min (512 - (o - x)) (n - (x - o))
  next_is = by (leb x o) refl
    where
      low : (b : ℕ) → b < 512 → min n (512 - b) ≡ min (512 - b) n
      low b l = omega arith

      high : (a : ℕ) → a < n → min n (a + 512) ≡ a + min 512 (n - a)
      high a l = omega arith

      by : (t : Bool) → leb x o ≡ t → min n (x + 512 - o) ≡ min n (x - o) + min (512 - (o - x)) (n - (x - o))
      by true t =
          let l = leb-true x o t in
          let e : x - o ≡ 0 = omega arith in
          let f : x + 512 - o ≡ 512 - (o - x) = omega arith in
          let z : min n 0 ≡ 0 = omega arith in
          let w : n - 0 ≡ n = omega arith in
          rw (e, f, z, w, zero-add) (low (o - x) (omega arith))
      by false t =
          let l = leb-false x o t in
          let e : o - x ≡ 0 = omega arith in
          let f : x + 512 - o ≡ x - o + 512 = omega arith in
          let z : min n (x - o) ≡ x - o = omega arith in
          let w : 512 - 0 ≡ 512 = refl in
          rw (e, f, z) (high (x - o) (omega arith))

  pub in_block : (o - x) + min (512 - (o - x)) (n - (x - o)) ≤ 512
  in_block = omega arith

  pub in_bytes : (x - o) + min (512 - (o - x)) (n - (x - o)) ≤ n
  in_bytes = omega arith

  -- read: from where in the run the piece comes
  pub read_next : (c : List ℕ) → part c o (min n (x - o)) ++ part c (x + (o - x)) (min (512 - (o - x)) (n - (x - o))) ≡ part c o (min n (x + 512 - o))
  read_next c =
      ap (λ (a : ℕ). part c o (min n (x - o)) ++ part c a (min (512 - (o - x)) (n - (x - o)))) place_is
      ∙ parts_join c o (min n (x - o)) (min (512 - (o - x)) (n - (x - o)))
      ∙ ap (part c o) (sym next_is)

  -- written: the block merged and put back
  pub write_next : (c c' bytes : List ℕ) → length bytes ≡ n → o + n ≤ length c → x + 512 ≤ length c → c' ≡ splice c o (take (min n (x - o)) bytes)
      → splice c' x (splice (part c' x 512) (o - x) (part bytes (x - o) (min (512 - (o - x)) (n - (x - o))))) ≡ splice c o (take (min n (x + 512 - o)) bytes)
  write_next c c' bytes lb f g e =
      let a = o - x in
      let m = min n (x - o) in
      let q = min (512 - (o - x)) (n - (x - o)) in
      let mn : m + q ≤ n = omega (arith, in_bytes, stands_is) in
      let lt : length (take m bytes) ≡ m = length-take-le m bytes (omega arith) in
      let lc : length c' ≡ length c = ap length e ∙ length_splice c o (take m bytes) (omega arith) in
      let d = part bytes (x - o) q in
      let ld : length d ≡ q = length_part bytes (x - o) q (rw lb in_bytes) in
      splice_inside c' x 512 a d (omega arith) (omega (arith, in_block))
      ∙ ap (λ (p : ℕ). splice c' p d) place_is
      ∙ ap (λ (l : List ℕ). splice l (o + m) d) e
      ∙ splice_join c o (take m bytes) (o + m) d (omega arith) (omega arith)
      ∙ ap (λ (p : ℕ). splice c o (take m bytes ++ part bytes p q)) stands_is
      ∙ ap (splice c o) (sym (take-add m q bytes))
      ∙ ap (λ (p : ℕ). splice c o (take p bytes)) (sym next_is)

-- a block merged with a span that touches it is a block
pub merged_long : (block : List ℕ) (o : ℕ) (bytes : List ℕ) (l : ℕ) → length block ≡ 512 → 512 * l < o + length bytes → o < 512 * l + 512 → length (merged block o bytes l) ≡ 512
unfolding merged
merged_long block o bytes l long h k =
    let n = length bytes in
    let x = 512 * l in
    let p = part bytes (x - o) (min (512 - (o - x)) (n - (x - o))) in
    let lp : length p ≡ min (512 - (o - x)) (n - (x - o)) = length_part bytes (x - o) _ (in_bytes o n x h k) in
    length_splice block (o - x) p (omega (arith, in_block o n x h k)) ∙ long

pub merged_length : (block : List ℕ) (o : ℕ) (bytes : List ℕ) (i : ℕ) → length block ≡ 512 → i < touched o (length bytes) → length (merged block o bytes (span_block o i)) ≡ 512
merged_length block o bytes i long h = merged_long block o bytes (span_block o i) long (begins o (length bytes) i h) (ends o i)
