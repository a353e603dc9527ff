-- Laws of flags that are bits of words: a flag that is set is found, and setting one clears none.
use mathlib.Core.Path.{◌≡◌, refl, sym, ap, ◌∙◌}
use mathlib.Core.Bool.{Bool, true, false}
use mathlib.Core.List.{List}
use Prim.Native.Nat.{ℕ, zero, suc, ◌*◌, ◌/◌, ◌%◌, ◌^◌, ◌<◌}
use native.Mathlib.Nat.{div_self, one-mul, mod-eq_of_lt}
use native.Mathlib.Omega.{arith}
use lib.ListN.{length, get_or, set}
use lib.Seq.{get_or-set_same, get_or-set_other}
use lib.Bits.{bit_or, or_shr, or_mod}
use lib.Pow.{pow_pos, pow-lt}
use lib.Dec.{eqb}
use borrow.Author.Tests.{eqb-true, eqb-false, eq-eqb}
use Rattle.chains.specs.Walk.{has_flag, with_flag}

-- a digit beside a one
or_left : (x y : ℕ) → x ≡ 1 → y < 2 → bit_or x y ≡ 1
or_left x zero e h = rw e
or_left x (suc zero) e h = rw e
or_left x (suc (suc y)) e h = absurd (omega arith)

or_right : (x y : ℕ) → x < 2 → y ≡ 1 → bit_or x y ≡ 1
or_right zero y h e = rw e
or_right (suc zero) y h e = rw e
or_right (suc (suc x)) y h e = absurd (omega arith)

-- a digit of two numbers joined
or_digit : (a b t : ℕ) → bit_or a b / 2 ^ t % 2 ≡ bit_or (a / 2 ^ t % 2) (b / 2 ^ t % 2)
or_digit a b t = ap (λ (x : ℕ). x % 2) (or_shr a b t) ∙ or_mod (a / 2 ^ t) (b / 2 ^ t) 1

digit_kept : (a b t : ℕ) → eqb (a / 2 ^ t % 2) 1 ≡ true → eqb (bit_or a b / 2 ^ t % 2) 1 ≡ true
digit_kept a b t e = eq-eqb _ 1 (or_digit a b t ∙ or_left (a / 2 ^ t % 2) (b / 2 ^ t % 2) (eqb-true _ 1 e) (omega arith))

digit_set : (a s : ℕ) → eqb (bit_or a (2 ^ s) / 2 ^ s % 2) 1 ≡ true
digit_set a s = eq-eqb _ 1 (or_digit a (2 ^ s) s ∙ or_right (a / 2 ^ s % 2) (2 ^ s / 2 ^ s % 2) (omega arith) one)
  where
    one : 2 ^ s / 2 ^ s % 2 ≡ 1
    one = ap (λ (x : ℕ). x % 2) (div_self (pow_pos s))

pub flag_set : (words : List ℕ) (h : ℕ) → h < 32 * length words → has_flag (with_flag words h) h ≡ true
unfolding has_flag with_flag
flag_set words h low =
    ap (λ (w : ℕ). eqb (w / 2 ^ (h % 32) % 2) 1) (get_or-set_same words (h / 32) _ 0 (omega arith)) ∙ digit_set (get_or words (h / 32) 0) (h % 32)

-- in the same word, or in another
kept_by : (words : List ℕ) (h x : ℕ) → h < 32 * length words → (t : Bool) → eqb (x / 32) (h / 32) ≡ t → has_flag words x ≡ true → has_flag (with_flag words h) x ≡ true
unfolding has_flag with_flag
kept_by words h x low true e is =
    let q = eqb-true (x / 32) (h / 32) e in
    ap (λ (w : ℕ). eqb (w / 2 ^ (x % 32) % 2) 1) (ap (λ (n : ℕ). get_or (set words (h / 32) (bit_or (get_or words (h / 32) 0) (2 ^ (h % 32)))) n 0) q ∙ get_or-set_same words (h / 32) _ 0 (omega arith))
    ∙ digit_kept (get_or words (h / 32) 0) (2 ^ (h % 32)) (x % 32) (ap (λ (n : ℕ). eqb (get_or words n 0 / 2 ^ (x % 32) % 2) 1) (sym q) ∙ is)
kept_by words h x low false e is =
    ap (λ (w : ℕ). eqb (w / 2 ^ (x % 32) % 2) 1) (get_or-set_other words (h / 32) (x / 32) _ 0 (eqb-false (x / 32) (h / 32) e)) ∙ is

pub flag_kept : (words : List ℕ) (h x : ℕ) → h < 32 * length words → has_flag words x ≡ true → has_flag (with_flag words h) x ≡ true
flag_kept words h x low = kept_by words h x low (eqb (x / 32) (h / 32)) refl

-- a one shifted within its word
pub one_shifted : (s : ℕ) → s < 32 → 1 * 2 ^ s % 2 ^ 32 ≡ 2 ^ s
one_shifted s h = ap (λ (x : ℕ). x % 2 ^ 32) (one-mul (2 ^ s)) ∙ mod-eq_of_lt (pow-lt h)
