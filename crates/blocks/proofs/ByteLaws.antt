-- Laws of parts, splices, 32-bit numbers, blocks and stores.
use mathlib.Core.Path.{◌≡◌, refl, sym, ap, ◌∙◌, subst}
use mathlib.Core.Logic.{◌⊎◌, inl, inr}
use mathlib.Core.List.{List, ◌++◌, append_assoc, append-nil, [], ◌∷◌}
use Prim.Native.Nat.{ℕ, ◌+◌, ◌*◌, ◌-◌, ◌≤◌, ◌<◌, ◌/◌, ◌%◌, ◌^◌, suc, zero}
use native.Mathlib.Numerals.{add-one}
use native.Mathlib.Omega.{arith}
use native.Mathlib.Nat.{add_assoc, zero-add, suc-add, add-zero, div-div-eq-div-mul, div-add-mod'}
use mathlib.Core.Bool.{Bool, true, false}
use lib.Dec.{ltb}
use borrow.Author.Tests.{ltb-true, ltb-false}
use lib.ListN.{length, take, drop, get_or, set, length-append, length-take, length-drop, get_or-append, take-append-drop, replicate, length-replicate, get_or-replicate}
use lib.Seq.{take-length, drop-length, paste, paste-zero, paste-suc, take_at, get_or-take, get_or-drop, get_or-append-add, ext_get_or, drop-drop, take-append-add, drop-append-add, take-append-le, drop-append-le, length-take-le, take-add, take-nil, drop-cons}
use borrow.Rule.Slice.PartMut.{put_mid}
use Rattle.std.specs.Int.{w32, w64, from_le_bytes, to_le_bytes}
use Rattle.blocks.specs.Bytes.{u32_at, u64_at, le32, splice, part, block_at, store_block, store_upto, block_count}

-- area after the first n elements of s were copied in from index at. Shut, so that `_` and `rw` find its arguments
unfoldable pub copied : List ℕ → ℕ → List ℕ → ℕ → List ℕ
copied d at s n = paste d at s n

module _ (d : List ℕ) (at : ℕ) (s : List ℕ) where
  pub copied_none : d ≡ copied d at s 0
  unfolding copied
  copied_none = paste-zero d at s

  pub copied_more : (j : ℕ) → at + j < length d → j < length s → set (copied d at s j) (at + j) (get_or s j 0) ≡ copied d at s (j + 1)
  unfolding copied
  copied_more j hd hs = rw add-one (paste-suc d at s j 0 hd hs)

  pub copied_all : (j : ℕ) → j ≡ length s → copied d at s j ≡ splice d at s
  unfolding copied splice
  copied_all j e = rw (e, take-length)

  pub length_splice : at + length s ≤ length d → length (splice d at s) ≡ length d
  unfolding splice
  length_splice h = simp (length-append, length-take, length-drop) (omega arith)

pub splice_whole : (d s : List ℕ) → length s ≡ length d → splice d 0 s ≡ s
unfolding splice
splice_whole d s h = rw (zero-add, h, drop-length) (append-nil s)

-- a splice at the start is the new elements and then the rest
pub splice_start : (d s : List ℕ) → splice d 0 s ≡ s ++ drop (length s) d
unfolding splice
splice_start d s = rw zero-add

pub length_part : (c : List ℕ) (at n : ℕ) → at + n ≤ length c → length (part c at n) ≡ n
length_part c at n h = simp (length-take, length-drop) (omega arith)

pub part_at : (c : List ℕ) (b n i : ℕ) → i < n → get_or (part c b n) i 0 ≡ get_or c (b + i) 0
part_at c b n i h = rw (get_or-take, get_or-drop)

-- a part without its first elements
drop_taken : (k n : ℕ) (l : List ℕ) → drop k (take (k + n) l) ≡ take n (drop k l)
drop_taken zero n l = ap (λ (m : ℕ). take m l) (zero-add n)
drop_taken (suc k) n [] = ap (drop (suc k)) (take-nil (suc k + n)) ∙ sym (take-nil n)
drop_taken (suc k) n (x ∷ l) = ap (λ (m : ℕ). drop (suc k) (take m (x ∷ l))) (suc-add k n) ∙ drop_taken k n l

pub drop_part : (c : List ℕ) (at k n : ℕ) → drop k (part c at (k + n)) ≡ part c (at + k) n
drop_part c at k n = drop_taken k n (drop at c) ∙ ap (λ (l : List ℕ). take n l) (drop-drop k at c)

-- a part of a part
pub part_part : (c : List ℕ) (b n k m : ℕ) → k + m ≤ n → b + n ≤ length c → part (part c b n) k m ≡ part c (b + k) m
part_part c b n k m h l =
    ext_get_or 0 (part (part c b n) k m) (part c (b + k) m)
    (length_part (part c b n) k m (rw (length_part c b n l) h) ∙ sym (length_part c (b + k) m (omega arith)))
    (λ i j.
    let i_in : i < m = omega (arith, simp length-take at j) in
    part_at (part c b n) k m i i_in
    ∙ part_at c b n (k + i) (omega arith)
    ∙ ap (λ (x : ℕ). get_or c x 0) (sym (add_assoc b k i))
    ∙ sym (part_at c (b + k) m i i_in))

-- two parts are equal where their elements are
pub part_ext : (x y : List ℕ) (b n : ℕ) → length x ≡ length y → ((i : ℕ) → b ≤ i → i < b + n → get_or x i 0 ≡ get_or y i 0) → part x b n ≡ part y b n
part_ext x y b n e f =
    ext_get_or 0 (part x b n) (part y b n) (simp (length-take, length-drop, e))
    (λ i h.
    let l : i < n = omega (arith, simp length-take at h) in
    part_at x b n i l ∙ f (b + i) (omega arith) (omega arith) ∙ sym (part_at y b n i l))

-- an index that is not among the n from at on is before or after them
pub outside : (i at n : ℕ) → (at ≤ i → i < at + n → ⊥) → (i < at) ⊎ (at + n ≤ i)
outside i at n h = by (ltb i at) refl (ltb i (at + n)) refl
  where
    by : (t : Bool) → ltb i at ≡ t → (u : Bool) → ltb i (at + n) ≡ u → (i < at) ⊎ (at + n ≤ i)
    by true e u f = inl (ltb-true i at e)
    by false e true f = absurd (h (ltb-false i at e) (ltb-true i (at + n) f))
    by false e false f = inr (ltb-false i (at + n) f)

-- what stands at each index of a splice: before, in and after what was put in
module _ (c : List ℕ) (at : ℕ) (d : List ℕ) (fits : at + length d ≤ length c) where
  head_length : length (take at c ++ d) ≡ at + length d
  head_length = simp (length-append, length-take) (omega arith)

  take_is : length (take at c) ≡ at
  take_is = simp length-take (omega arith)

  pub splice_before : (i : ℕ) → i < at → get_or (splice c at d) i 0 ≡ get_or c i 0
  unfolding splice
  splice_before i h =
      get_or-append (take at c ++ d) (drop (at + length d) c) 0 i (rw head_length (omega arith))
      ∙ get_or-append (take at c) d 0 i (rw take_is (omega arith))
      ∙ get_or-take at c i 0 h

  pub splice_in : (k : ℕ) → k < length d → get_or (splice c at d) (at + k) 0 ≡ get_or d k 0
  unfolding splice
  splice_in k h =
      get_or-append (take at c ++ d) (drop (at + length d) c) 0 (at + k) (rw head_length (omega arith))
      ∙ ap (λ (n : ℕ). get_or (take at c ++ d) (n + k) 0) (sym take_is)
      ∙ get_or-append-add (take at c) d k 0

  pub splice_after : (i : ℕ) → at + length d ≤ i → get_or (splice c at d) i 0 ≡ get_or c i 0
  unfolding splice
  splice_after i h =
      let e : i ≡ length (take at c ++ d) + (i - (at + length d)) = rw head_length (omega arith) in
      let f : at + length d + (i - (at + length d)) ≡ i = omega arith in
      ap (λ (n : ℕ). get_or (take at c ++ d ++ drop (at + length d) c) n 0) e
      ∙ get_or-append-add (take at c ++ d) (drop (at + length d) c) (i - (at + length d)) 0
      ∙ get_or-drop (at + length d) c (i - (at + length d)) 0
      ∙ ap (λ (n : ℕ). get_or c n 0) f

  -- elsewhere, an element, a number and a part are as they were
  pub splice_other : (i : ℕ) → (i < at) ⊎ (at + length d ≤ i) → get_or (splice c at d) i 0 ≡ get_or c i 0
  splice_other i (inl h) = splice_before i h
  splice_other i (inr h) = splice_after i h

  pub u32_before : (i : ℕ) → i + 4 ≤ at → u32_at (splice c at d) i ≡ u32_at c i
  unfolding u32_at
  u32_before i h = rw (splice_before i (omega arith), splice_before (i + 1) (omega arith), splice_before (i + 2) (omega arith), splice_before (i + 3) (omega arith))

  pub u32_after : (i : ℕ) → at + length d ≤ i → u32_at (splice c at d) i ≡ u32_at c i
  unfolding u32_at
  u32_after i h = rw (splice_after i (omega arith), splice_after (i + 1) (omega arith), splice_after (i + 2) (omega arith), splice_after (i + 3) (omega arith))

  pub part_before : (b n : ℕ) → b + n ≤ at → part (splice c at d) b n ≡ part c b n
  part_before b n h = part_ext (splice c at d) c b n (length_splice c at d fits) (λ i l m. splice_before i (omega arith))

  -- inside what was put in, they are those of what was put in
  pub u32_within : (k : ℕ) → k + 4 ≤ length d → u32_at (splice c at d) (at + k) ≡ u32_at d k
  unfolding u32_at
  u32_within k h =
      rw (add_assoc at k 1, add_assoc at k 2, add_assoc at k 3, splice_in k (omega arith), splice_in (k + 1) (omega arith), splice_in (k + 2) (omega arith), splice_in (k + 3) (omega arith))

  pub part_within : (k n : ℕ) → k + n ≤ length d → part (splice c at d) (at + k) n ≡ part d k n
  part_within k n h =
      ext_get_or 0 (part (splice c at d) (at + k) n) (part d k n) (simp (length-take, length-drop, length_splice c at d fits) (omega arith))
      (λ i l.
      let i_in : i < n = omega (arith, simp length-take at l) in
      part_at (splice c at d) (at + k) n i i_in
      ∙ ap (λ (j : ℕ). get_or (splice c at d) j 0) (add_assoc at k i)
      ∙ splice_in (k + i) (omega arith)
      ∙ sym (part_at d k n i i_in))

-- omega does not prove nested quotients in one go: name them, and it is a sum
digit_sum : (v a b c r s t : ℕ) → a * 256 + r ≡ v → b * 256 + s ≡ a → c * 256 + t ≡ b → r + 256 * s + 65536 * t + 16777216 * c ≡ v
digit_sum v a b c r s t p q w = omega arith

pub digits : (v : ℕ) → v < 2 ^ 32 → v % 256 + 256 * (v / 256 % 256) + 65536 * (v / 65536 % 256) + 16777216 * (v / 16777216 % 256) ≡ v
digits v h =
    let c : v / 16777216 % 256 ≡ v / 16777216 = omega arith in
    rw c
    (digit_sum v (v / 256) (v / 65536) (v / 16777216) (v % 256) (v / 256 % 256) (v / 65536 % 256) (omega arith)
    (ap (λ (n : ℕ). n * 256 + v / 256 % 256) (sym (div-div-eq-div-mul v 256 256)) ∙ div-add-mod' (v / 256) 256)
    (ap (λ (n : ℕ). n * 256 + v / 65536 % 256) (sym (div-div-eq-div-mul v 65536 256)) ∙ div-add-mod' (v / 65536) 256))

pub length_le32 : (v : ℕ) → length (le32 v) ≡ 4
unfolding le32
length_le32 v = refl

-- a number that was put is the one that is read
pub u32_le32 : (v : ℕ) → v < 2 ^ 32 → u32_at (le32 v) 0 ≡ v
unfolding le32 u32_at
u32_le32 v h = digits v h

pub u32_in : (c : List ℕ) (at v : ℕ) → at + 4 ≤ length c → v < 2 ^ 32 → u32_at (splice c at (le32 v)) at ≡ v
u32_in c at v h hv =
    let fits : at + length (le32 v) ≤ length c = rw length_le32 h in
    let e = u32_within c at (le32 v) fits 0 (rw length_le32 (omega arith)) in
    (rw add-zero at e) ∙ u32_le32 v hv

-- a number in a part of a card
pub u32_part : (c : List ℕ) (at n k : ℕ) → k + 4 ≤ n → u32_at (part c at n) k ≡ u32_at c (at + k)
unfolding u32_at
u32_part c at n k h =
    rw (part_at c at n k (omega arith), part_at c at n (k + 1) (omega arith), part_at c at n (k + 2) (omega arith), part_at c at n (k + 3) (omega arith), add_assoc at k 1, add_assoc at k 2, add_assoc at k 3)

-- what the library reads from the bytes of a number, and what it writes
pub u32_read : (c : List ℕ) (at : ℕ) → from_le_bytes w32 (part c at 4) ≡ u32_at c at
unfolding u32_at
u32_read c at = rw (part_at c at 4 0 (omega arith), part_at c at 4 1 (omega arith), part_at c at 4 2 (omega arith), part_at c at 4 3 (omega arith), add-zero at) (omega arith)

pub u64_read : (c : List ℕ) (at : ℕ) → from_le_bytes w64 (part c at 8) ≡ u64_at c at
unfolding u64_at u32_at
u64_read c at =
    rw (
      part_at c at 8 0 (omega arith),
      part_at c at 8 1 (omega arith),
      part_at c at 8 2 (omega arith),
      part_at c at 8 3 (omega arith),
      part_at c at 8 4 (omega arith),
      part_at c at 8 5 (omega arith),
      part_at c at 8 6 (omega arith),
      part_at c at 8 7 (omega arith),
      add-zero at,
      add_assoc at 4 1,
      add_assoc at 4 2,
      add_assoc at 4 3,
    ) (omega arith)

pub le32_written : (v : ℕ) → to_le_bytes w32 v ≡ le32 v
unfolding le32
le32_written v = refl

-- parts that follow each other are one
pub part_join : (c : List ℕ) (at n m k : ℕ) (x y : List ℕ) → n + m ≡ k → x ≡ part c at n → y ≡ part c (at + n) m → x ++ y ≡ part c at k
part_join c at n m k x y e p q =
    rw (p, q, ← e)
    (sym (take-add n m (drop at c) ∙ ap (λ (l : List ℕ). take n (drop at c) ++ take m l) (drop-drop n at c)))

-- the four bytes of a number that was read are those that were there
pub digit_0 : (w x y z : ℕ) → w < 256 → (w + 256 * x + 65536 * y + 16777216 * z) % 256 ≡ w
digit_0 w x y z h = omega arith

pub digit_1 : (w x y z : ℕ) → w < 256 → x < 256 → (w + 256 * x + 65536 * y + 16777216 * z) / 256 % 256 ≡ x
digit_1 w x y z h k =
    let e : (w + 256 * x + 65536 * y + 16777216 * z) / 256 ≡ x + 256 * y + 65536 * z = omega arith in rw e (omega arith)

pub digit_2 : (w x y z : ℕ) → w < 256 → x < 256 → y < 256 → (w + 256 * x + 65536 * y + 16777216 * z) / 65536 % 256 ≡ y
digit_2 w x y z h k l =
    let e : (w + 256 * x + 65536 * y + 16777216 * z) / 65536 ≡ y + 256 * z = omega arith in rw e (omega arith)

pub digit_3 : (w x y z : ℕ) → w < 256 → x < 256 → y < 256 → z < 256 → (w + 256 * x + 65536 * y + 16777216 * z) / 16777216 % 256 ≡ z
digit_3 w x y z h k l m =
    let e : (w + 256 * x + 65536 * y + 16777216 * z) / 16777216 ≡ z = omega arith in rw e (omega arith)

pub part_4 : (b : List ℕ) (at : ℕ) → at + 4 ≤ length b → part b at 4 ≡ get_or b at 0 ∷ get_or b (at + 1) 0 ∷ get_or b (at + 2) 0 ∷ get_or b (at + 3) 0 ∷ []
part_4 b at h =
    let e₁ : at + 1 ≡ suc at = omega arith in
    let e₂ : at + 2 ≡ suc (suc at) = omega arith in
    let e₃ : at + 3 ≡ suc (suc (suc at)) = omega arith in
    rw (e₁, e₂, e₃, drop-cons b at 0 (omega arith), drop-cons b (suc at) 0 (omega arith), drop-cons b (suc (suc at)) 0 (omega arith), drop-cons b (suc (suc (suc at))) 0 (omega arith))

pub number_back : (b : List ℕ) (at : ℕ) → ((i : ℕ) → get_or b i 0 < 256) → at + 4 ≤ length b → le32 (u32_at b at) ≡ part b at 4
unfolding le32 u32_at
number_back b at h l =
    let w = get_or b at 0 in
    let x = get_or b (at + 1) 0 in
    let y = get_or b (at + 2) 0 in
    let z = get_or b (at + 3) 0 in
    rw (part_4 b at l, digit_0 w x y z (h at), digit_1 w x y z (h at) (h (at + 1)), digit_2 w x y z (h at) (h (at + 1)) (h (at + 2)), digit_3 w x y z (h at) (h (at + 1)) (h (at + 2)) (h (at + 3)))

-- two puts, the second where the first ends, are one
pub splice_join : (c : List ℕ) (at : ℕ) (x : List ℕ) (b : ℕ) (y : List ℕ) → at + length x ≡ b → b + length y ≤ length c → splice (splice c at x) b y ≡ splice c at (x ++ y)
unfolding splice
splice_join c at x b y e h =
    let hd : List ℕ = take at c ++ x in
    let tl : List ℕ = drop (at + length x) c in
    let hl : length hd ≡ b = head_length c at x (omega arith) ∙ e in
    let f : at + length x + length y ≡ at + (length x + length y) = omega arith in
    ap (λ (l : List ℕ). l ++ y ++ drop (b + length y) (hd ++ tl)) (take_at hd tl b hl)
    ∙ ap (λ (l : List ℕ). hd ++ y ++ l)
    (ap (λ (n : ℕ). drop (n + length y) (hd ++ tl)) (sym hl) ∙ drop-append-add hd tl (length y) ∙ drop-drop (length y) (at + length x) c ∙ ap (λ (n : ℕ). drop n c) f)
    ∙ ap (λ (l : List ℕ). l ++ drop (at + (length x + length y)) c) (append_assoc (take at c) x y)
    ∙ ap (λ (n : ℕ). take at c ++ (x ++ y) ++ drop (at + n) c) (sym (length-append x y))

-- the same, from what two calls ensure
pub put_next : (c : List ℕ) {c' c'' : List ℕ} (at : ℕ) (x : List ℕ) (b : ℕ) (y : List ℕ) → c' ≡ splice c at x → c'' ≡ splice c' b y → at + length x ≡ b → b + length y ≤ length c
    → c'' ≡ splice c at (x ++ y)
put_next c at x b y p q e h = rw (q, p) (splice_join c at x b y e h)

-- a put past a head is a put into the rest, and one inside a head leaves the rest
pub splice_past : (x y : List ℕ) (n k : ℕ) (z : List ℕ) → length x ≡ n → splice (x ++ y) (n + k) z ≡ x ++ splice y k z
unfolding splice
splice_past x y n k z e =
    rw (← e, add_assoc (length x) k (length z), take-append-add x y k, drop-append-add x y (k + length z), append_assoc x (take k y) z) (append_assoc x (take k y ++ z) (drop (k + length z) y))

splice_front : (x y : List ℕ) (k : ℕ) (z : List ℕ) → k + length z ≤ length x → splice (x ++ y) k z ≡ splice x k z ++ y
unfolding splice
splice_front x y k z h =
    rw (take-append-le k x y (omega arith), drop-append-le (k + length z) x y h) (sym (append_assoc (take k x ++ z) (drop (k + length z) x) y))

splice_parts : (c : List ℕ) (at : ℕ) (b : List ℕ) (n : ℕ) → length b ≡ n → splice c at b ≡ take at c ++ (b ++ drop (at + n) c)
unfolding splice
splice_parts c at b n e = rw (← e) (append_assoc (take at c) b (drop (at + length b) c))

-- a put inside what was put in
pub splice_over : (c : List ℕ) (at : ℕ) (b : List ℕ) (k : ℕ) (x : List ℕ) → at + length b ≤ length c → k + length x ≤ length b → splice (splice c at b) (at + k) x ≡ splice c at (splice b k x)
splice_over c at b k x h l =
    ap (λ (y : List ℕ). splice y (at + k) x) (splice_parts c at b (length b) refl)
    ∙ splice_past (take at c) (b ++ drop (at + length b) c) at k x (take_is c at b h)
    ∙ ap (λ (y : List ℕ). take at c ++ y) (splice_front b (drop (at + length b) c) k x l)
    ∙ sym (splice_parts c at (splice b k x) (length b) (length_splice b k x l))

-- a part put where it stands
pub splice_self : (c : List ℕ) (at n : ℕ) → at + n ≤ length c → splice c at (part c at n) ≡ c
splice_self c at n h =
    splice_parts c at (part c at n) n (length_part c at n h)
    ∙ ap (λ (y : List ℕ). take at c ++ (part c at n ++ y)) (sym (drop-drop n at c))
    ∙ ap (λ (y : List ℕ). take at c ++ y) (take-append-drop n (drop at c))
    ∙ take-append-drop at c

-- what is put into a part that is lent, from at to e, seen in the whole
pub part_put : (c : List ℕ) (at e : ℕ) (y x : List ℕ) → at + length x ≡ e → e ≤ length c → y ≡ splice (part c at (e - at)) 0 x → take at c ++ (y ++ drop (e - at) (drop at c)) ≡ splice c at x
part_put c at e y x l h q =
    let n : e - at ≡ length x = omega arith in
    let w : y ≡ x = q ∙ splice_whole (part c at (e - at)) x (sym (length_part c at (e - at) (omega arith) ∙ n)) in
    rw (w, n, drop-drop (length x) at c) (sym (splice_parts c at x (length x) refl))

-- what a write to the n elements from at leaves
pub part_written : (c : List ℕ) (at n : ℕ) (y x : List ℕ) → y ≡ x → length x ≡ n → put_mid at n c y ≡ splice c at x
part_written c at n y x e l = rw (e, ← l, drop-drop (length x) at c) (sym (splice_parts c at x (length x) refl))

-- blocks: the length of a block of the card, and what a store of a block changes
pub length_block_at : (c : List ℕ) (p : ℕ) → 512 * p + 512 ≤ length c → length (block_at c p) ≡ 512
unfolding block_at
length_block_at c p h = length_part c (512 * p) 512 h

module _ (c : List ℕ) (p : ℕ) (b : List ℕ) (whole : length b ≡ 512) (inside : 512 * p + 512 ≤ length c) where
  store_fits : 512 * p + length b ≤ length c
  store_fits = omega arith

  pub store_length : length (store_block c p b) ≡ length c
  unfolding store_block
  store_length = length_splice c (512 * p) b store_fits

  pub store_same : block_at (store_block c p b) p ≡ b
  unfolding store_block block_at
  store_same =
      ap (λ (n : ℕ). part (splice c (512 * p) b) n 512) (sym (add-zero (512 * p)))
      ∙ part_within c (512 * p) b store_fits 0 512 (omega arith)
      ∙ rw (← whole) (take-length b)

  pub store_other : (q : ℕ) → (q ≡ p → ⊥) → block_at (store_block c p b) q ≡ block_at c q
  unfolding store_block block_at
  store_other q n =
      part_ext (splice c (512 * p) b) c (512 * q) 512 (length_splice c (512 * p) b store_fits)
      (λ i l m. splice_other c (512 * p) b store_fits i (outside i (512 * p) (length b) (λ h k. n (omega arith))))

-- a put inside a block is a store of that block
pub put_block : (c : List ℕ) (p k : ℕ) (x : List ℕ) → 512 * p + 512 ≤ length c → k + length x ≤ 512 → splice c (512 * p + k) x ≡ store_block c p (splice (block_at c p) k x)
unfolding store_block block_at
put_block c p k x h l =
    let n = length_part c (512 * p) 512 h in
    ap (λ (y : List ℕ). splice y (512 * p + k) x) (sym (splice_self c (512 * p) 512 h)) ∙ splice_over c (512 * p) (part c (512 * p) 512) k x (rw n h) (rw n l)

-- the same where the block was stored before
pub put_stored : (c : List ℕ) (p : ℕ) (b : List ℕ) (k : ℕ) (x : List ℕ) → length b ≡ 512 → 512 * p + 512 ≤ length c → k + length x ≤ 512 → splice (store_block c p b) (512 * p + k) x ≡ store_block c p (splice b k x)
unfolding store_block
put_stored c p b k x n h l = splice_over c (512 * p) b k x (rw n h) (rw n l)

-- of two stores of a block the second stays
pub store_over : (c : List ℕ) (p : ℕ) (x y : List ℕ) → length x ≡ 512 → length y ≡ 512 → 512 * p + 512 ≤ length c → store_block (store_block c p x) p y ≡ store_block c p y
unfolding store_block
store_over c p x y n m h =
    ap (λ (at : ℕ). splice (splice c (512 * p) x) at y) (sym (add-zero (512 * p)))
    ∙ splice_over c (512 * p) x 0 y (rw n h) (omega arith)
    ∙ ap (splice c (512 * p)) (splice_whole x y (m ∙ sym n))

-- what has been copied is the first n bytes put in, and every other byte is as it was
pub copied_splice : (d : List ℕ) (at : ℕ) (s : List ℕ) (n : ℕ) → n ≤ length s → copied d at s n ≡ splice d at (take n s)
unfolding copied splice
copied_splice d at s n h = rw (length-take-le n s h)

pub copied_other : (d : List ℕ) (at : ℕ) (s : List ℕ) (n i : ℕ) → n ≤ length s → at + n ≤ length d → (i < at) ⊎ (at + n ≤ i) → get_or (copied d at s n) i 0 ≡ get_or d i 0
copied_other d at s n i h l o =
    let long = length-take-le n s h in
    ap (λ (y : List ℕ). get_or y i 0) (copied_splice d at s n h) ∙ splice_other d at (take n s) (rw long l) i (rw long o)

-- the first k bytes of a store of block p: those bytes, every other byte, none, all
module _ (c : List ℕ) (p : ℕ) (b : List ℕ) (whole : length b ≡ 512) (inside : 512 * p + 512 ≤ length c) where
  module _ (k : ℕ) (few : k ≤ 512) where
    upto_long : length (take k b) ≡ k
    upto_long = length-take-le k b (omega arith)

    upto_fits : 512 * p + length (take k b) ≤ length c
    upto_fits = rw upto_long (omega arith)

    pub upto_length : length (store_upto c p b k) ≡ length c
    unfolding store_upto
    upto_length = length_splice c (512 * p) (take k b) upto_fits

    pub upto_in : (i : ℕ) → i < k → get_or (store_upto c p b k) (512 * p + i) 0 ≡ get_or b i 0
    unfolding store_upto
    upto_in i h = splice_in c (512 * p) (take k b) upto_fits i (rw upto_long h) ∙ get_or-take k b i 0 h

    pub upto_other : (i : ℕ) → (i < 512 * p) ⊎ (512 * p + k ≤ i) → get_or (store_upto c p b k) i 0 ≡ get_or c i 0
    unfolding store_upto
    upto_other i o = splice_other c (512 * p) (take k b) upto_fits i (rw upto_long o)

  pub upto_whole : store_upto c p b 512 ≡ store_block c p b
  unfolding store_upto store_block
  upto_whole = rw (← whole, take-length b)

-- zeros copied, one by one
pub cleared_more : (c x : List ℕ) (at n i : ℕ) → at + n ≤ length c → i < n → x ≡ copied c at (replicate n 0) i → set x (at + i) 0 ≡ copied c at (replicate n 0) (i + 1)
cleared_more c x at n i h l e =
    ap (λ (y : List ℕ). set y (at + i) 0) e
    ∙ ap (set (copied c at (replicate n 0) i) (at + i)) (sym (get_or-replicate n i 0 0 l))
    ∙ copied_more c at (replicate n 0) i (omega arith) (rw (length-replicate {A = ℕ} n 0) l)

-- a stored number by its own four bytes
pub number_of : (b : List ℕ) (at : ℕ) → u32_at (part b at 4) 0 ≡ u32_at b at
number_of b at = let e : at + 0 ≡ at = omega arith in subst (λ (n : ℕ). u32_at (part b at 4) 0 ≡ u32_at b n) e (u32_part b at 4 0 (omega arith))

-- so many blocks are within the area
pub blocks_long : (c : List ℕ) (b : ℕ) → b ≤ block_count c → 512 * b ≤ length c
unfolding block_count
blocks_long c b h = omega arith

-- zeros, and the numbers in them
pub zeros_at : (n k : ℕ) → get_or {A = ℕ} (replicate n 0) k 0 ≡ 0
zeros_at zero k = refl
zeros_at (suc n) zero = refl
zeros_at (suc n) (suc k) = zeros_at n k

pub zero_number : (n k : ℕ) → u32_at (replicate n 0) k ≡ 0
unfolding u32_at
zero_number n k = rw (zeros_at n k, zeros_at n (k + 1), zeros_at n (k + 2), zeros_at n (k + 3))

-- a block below where two cards are equal
pub taken_block : (s : List ℕ) (b p : ℕ) → p < b → 512 * b ≤ length s → block_at s p ≡ part (take (512 * b) s) (512 * p) 512
unfolding block_at
taken_block s b p h l = let e : 0 + 512 * p ≡ 512 * p = omega arith in sym (part_part s 0 (512 * b) (512 * p) 512 (omega arith) (omega arith) ∙ ap (λ (n : ℕ). part s n 512) e)

-- numbers of four bytes each, after n bytes of a list: one that is put, and the others
module _ (b : List ℕ) (n i v : ℕ) (inside : n + 4 * i + 4 ≤ length b) where
  number_fits : n + 4 * i + length (le32 v) ≤ length b
  number_fits = omega (arith, length_le32 v)

  pub number_other : (k : ℕ) → (k ≡ i → ⊥) → (t : Bool) → ltb k i ≡ t → u32_at (splice b (n + 4 * i) (le32 v)) (n + 4 * k) ≡ u32_at b (n + 4 * k)
  number_other k h true e = u32_before b (n + 4 * i) (le32 v) number_fits (n + 4 * k) (omega (arith, ltb-true k i e))
  number_other k h false e = u32_after b (n + 4 * i) (le32 v) number_fits (n + 4 * k) (omega (arith, ltb-false k i e, h, length_le32 v))
