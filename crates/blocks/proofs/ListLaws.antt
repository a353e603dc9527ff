-- Laws of `same` and `all_zero`, as `==` and folds give them.
use mathlib.Core.Path.{◌≡◌, refl, sym, ap, ◌∙◌}
use mathlib.Core.Bool.{Bool, true, false, ◌&&◌, and_assoc}
use mathlib.Core.List.{List, [], ◌∷◌}
use Prim.Native.Nat.{ℕ, zero, suc, ◌+◌, ◌*◌, ◌/◌, ◌≤◌, ◌<◌}
use native.Mathlib.Numerals.{add-one}
use native.Mathlib.Omega.{arith}
use lib.ListN.{length, take, drop, get_or, length-drop}
use lib.Seq.{drop-cons, drop-drop}
use lib.Dec.{eqb}
use borrow.Author.Tests.{eq-eqb, ne_eqb, eqb-true, eqb-false}
use Rattle.std.specs.Str.{bytes_eq}
use Rattle.std.specs.Int.{w64, from_le_bytes}
use Rattle.std.specs.List.{fold}
use Rattle.std.specs.Simd.{first_chunks}
use Rattle.blocks.specs.Pick.{same, all_zero}
use Rattle.blocks.specs.Bytes.{u32_at, u64_at, part}
use Rattle.blocks.proofs.Tests.{and_left, and_right}
use Rattle.blocks.proofs.BoolLaws.{and_true}
use Rattle.blocks.proofs.ByteLaws.{u64_read}

-- what `==` of slices and arrays gives
pub bytes_same : (a b : List ℕ) → bytes_eq a b ≡ same a b
unfolding same
bytes_same [] [] = refl
bytes_same [] (y ∷ ys) = refl
bytes_same (x ∷ xs) [] = refl
bytes_same (x ∷ xs) (y ∷ ys) = ap (λ (t : Bool). eqb x y && t) (bytes_same xs ys)

-- four elements of a list, compared all at once
pub same_four : (c : List ℕ) (at w x y z : ℕ) → at + 4 ≤ length c
    → ((((eqb (get_or c at 0) w && eqb (get_or c (at + 1) 0) x) && eqb (get_or c (at + 2) 0) y) && eqb (get_or c (at + 3) 0) z) ≡ same (part c at 4) (w ∷ x ∷ y ∷ z ∷ []))
unfolding same
same_four c at w x y z h =
    let e : at + 1 ≡ suc at = omega arith in
    let f : at + 2 ≡ suc (suc at) = omega arith in
    let g : at + 3 ≡ suc (suc (suc at)) = omega arith in
    rw (e, f, g, drop-cons c at 0 (omega arith), drop-cons c (suc at) 0 (omega arith), drop-cons c (suc (suc at)) 0 (omega arith), drop-cons c (suc (suc (suc at))) 0 (omega arith))
    (by (eqb (get_or c at 0) w) (eqb (get_or c (suc at) 0) x) (eqb (get_or c (suc (suc at)) 0) y) (eqb (get_or c (suc (suc (suc at))) 0) z))
  where
    by : (p q r s : Bool) → (((p && q) && r) && s) ≡ (p && (q && (r && (s && true))))
    by true true true true = refl
    by true true true false = refl
    by true true false s = refl
    by true false r s = refl
    by false q r s = refl

-- lists that are the same are equal, and a list is the same as itself
pub same_equal : (a b : List ℕ) → same a b ≡ true → a ≡ b
unfolding same
same_equal [] [] h = refl
same_equal [] (y ∷ ys) h = let z : ◌≡◌ {A = ℕ} 0 1 = cc in absurd (omega arith)
same_equal (x ∷ xs) [] h = let z : ◌≡◌ {A = ℕ} 0 1 = cc in absurd (omega arith)
same_equal (x ∷ xs) (y ∷ ys) h = rw (eqb-true x y (and_left (eqb x y) (same xs ys) h), same_equal xs ys (and_right (eqb x y) (same xs ys) h))

pub same_self : (a : List ℕ) → same a a ≡ true
unfolding same
same_self [] = refl
same_self (x ∷ xs) = rw (eq-eqb x x refl) (same_self xs)

-- a sum is zero where both its parts are
sum_zero : (x y s : ℕ) → (s ≡ 0 → x ≡ 0) → (s ≡ 0 → y ≡ 0) → (x ≡ 0 → y ≡ 0 → s ≡ 0) → eqb s 0 ≡ (eqb x 0 && eqb y 0)
sum_zero x y s f g h = by (eqb x 0) (eqb y 0) refl refl
  where
    by : (t u : Bool) → eqb x 0 ≡ t → eqb y 0 ≡ u → eqb s 0 ≡ (t && u)
    by true true p q = eq-eqb s 0 (h (eqb-true x 0 p) (eqb-true y 0 q))
    by true false p q = ne_eqb s 0 (λ z. eqb-false y 0 q (g z))
    by false u p q = ne_eqb s 0 (λ z. eqb-false x 0 p (f z))

two_zero : (x y : ℕ) (z : Bool) → (eqb x 0 && (eqb y 0 && z)) ≡ (eqb (x + 4294967296 * y) 0 && z)
two_zero x y z = rw (sum_zero x y (x + 4294967296 * y) (λ e. omega arith) (λ e. omega arith) (λ e f. omega arith)) (by (eqb x 0) (eqb y 0))
  where
    by : (t u : Bool) → (t && (u && z)) ≡ ((t && u) && z)
    by true u = refl
    by false u = refl

four_zero : (b c d e : ℕ) (z : Bool) → (eqb b 0 && (eqb c 0 && (eqb d 0 && (eqb e 0 && z)))) ≡ (eqb (b + 256 * c + 65536 * d + 16777216 * e) 0 && z)
four_zero b c d e z =
    rw (
      sum_zero (b + 256 * c + 65536 * d) e (b + 256 * c + 65536 * d + 16777216 * e) (λ h. omega arith) (λ h. omega arith) (λ h k. omega arith),
      sum_zero (b + 256 * c) d (b + 256 * c + 65536 * d) (λ h. omega arith) (λ h. omega arith) (λ h k. omega arith),
      sum_zero b c (b + 256 * c) (λ h. omega arith) (λ h. omega arith) (λ h k. omega arith),
    ) (by (eqb b 0) (eqb c 0) (eqb d 0) (eqb e 0))
  where
    by : (p q r s : Bool) → (p && (q && (r && (s && z)))) ≡ ((((p && q) && r) && s) && z)
    by true true true s = refl
    by true true false s = refl
    by true false r s = refl
    by false q r s = refl

-- what is left to be zero from index i: one element at a time, four and eight
module _ (a : List ℕ) where
  zero_step : (i : ℕ) → i < length a → all_zero (drop i a) ≡ (eqb (get_or a i 0) 0 && all_zero (drop (i + 1) a))
  unfolding all_zero
  zero_step i h = rw (add-one, drop-cons a i 0)

  pub zero_four : (i : ℕ) → i + 4 ≤ length a → all_zero (drop i a) ≡ (eqb (u32_at a i) 0 && all_zero (drop (i + 4) a))
  unfolding u32_at
  zero_four i h =
      let e : i + 1 + 1 ≡ i + 2 = omega arith in
      let f : i + 2 + 1 ≡ i + 3 = omega arith in
      let g : i + 3 + 1 ≡ i + 4 = omega arith in
      let third : all_zero (drop (i + 3) a) ≡ (eqb (get_or a (i + 3) 0) 0 && all_zero (drop (i + 4) a)) = rw (← g) (zero_step (i + 3) (omega arith)) in
      let second : all_zero (drop (i + 2) a) ≡ (eqb (get_or a (i + 2) 0) 0 && all_zero (drop (i + 3) a)) = rw (← f) (zero_step (i + 2) (omega arith)) in
      let first : all_zero (drop (i + 1) a) ≡ (eqb (get_or a (i + 1) 0) 0 && all_zero (drop (i + 2) a)) = rw (← e) (zero_step (i + 1) (omega arith)) in
      zero_step i (omega arith) ∙ rw (first, second, third) (four_zero (get_or a i 0) (get_or a (i + 1) 0) (get_or a (i + 2) 0) (get_or a (i + 3) 0) (all_zero (drop (i + 4) a)))

  zero_eight : 8 ≤ length a → all_zero a ≡ (eqb (from_le_bytes w64 (take 8 a)) 0 && all_zero (drop 8 a))
  unfolding u64_at
  zero_eight h =
      zero_four 0 (omega arith)
      ∙ ap (λ (t : Bool). eqb (u32_at a 0) 0 && t) (zero_four 4 (omega arith))
      ∙ two_zero (u32_at a 0) (u32_at a 4) (all_zero (drop 8 a))
      ∙ ap (λ (n : ℕ). eqb n 0 && all_zero (drop 8 a)) (sym (u64_read a 0))

-- a test carried through the numbers of eight elements each, and through the elements after them
abbrev pub zero_word : Bool → List ℕ → Bool
zero_word t w = t && eqb (from_le_bytes w64 w) 0

abbrev pub zero_byte : Bool → ℕ → Bool
zero_byte t b = t && eqb b 0

zero_words : (k : ℕ) (t : Bool) (a : List ℕ) → k * 8 ≤ length a → (fold zero_word t (first_chunks 8 k a) && all_zero (drop (k * 8) a)) ≡ (t && all_zero a)
zero_words zero t a h = refl
zero_words (suc k) t a h =
    let n : suc k * 8 ≡ 8 + k * 8 = omega arith in
    let word = eqb (from_le_bytes w64 (take 8 a)) 0 in
    rw (n, ← (drop-drop (k * 8) 8 a))
    (zero_words k (t && word) (drop 8 a) (omega (arith, length-drop 8 a)) ∙ and_assoc t word (all_zero (drop 8 a)) ∙ ap (λ (u : Bool). t && u) (sym (zero_eight a (omega arith))))

zero_bytes : (t : Bool) (a : List ℕ) → fold zero_byte t a ≡ (t && all_zero a)
unfolding all_zero
zero_bytes t [] = sym (and_true t)
zero_bytes t (b ∷ a) = zero_bytes (t && eqb b 0) a ∙ and_assoc t (eqb b 0) (all_zero a)

pub zero_folds : (a : List ℕ) (x y : Bool) → x ≡ fold zero_word true (first_chunks 8 (length a / 8) a) → y ≡ fold zero_byte true (drop (length a / 8 * 8) a) → (x && y) ≡ all_zero a
zero_folds a x y e f = rw (e, f, zero_bytes true (drop (length a / 8 * 8) a)) (zero_words (length a / 8) true a (omega arith))
