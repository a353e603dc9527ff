-- Laws of numbers in decimal: how long they are, what their digits are, and what they stand for.
use mathlib.Core.Path.{◌≡◌, refl, sym, ap, ◌∙◌}
use mathlib.Core.Bool.{Bool, true, false}
use mathlib.Core.List.{List, [], ◌∷◌, ◌++◌}
use Prim.Native.Nat.{ℕ, zero, suc, ◌+◌, ◌*◌, ◌-◌, ◌≤◌, ◌<◌, ◌/◌, ◌%◌, ◌^◌}
use native.Mathlib.Omega.{arith}
use native.Mathlib.Nat.{pow-succ'}
use lib.ListN.{length, get_or, length-append, get_or-append}
use lib.Seq.{get_or-append-add}
use lib.Dec.{ltb}
use borrow.Author.Tests.{lt-ltb, le-ltb, ltb-true, ltb-false}
use Rattle.blocks.specs.Pick.{pick}
use Rattle.printing.specs.Text.{digits, decimal}

-- a number below ten is one digit, and any other the digits of a tenth of it and its last digit
digits_one : (k n : ℕ) → n < 10 → digits (suc k) n ≡ (48 + n) ∷ []
unfolding digits
digits_one k n h = rw (lt-ltb n 10 h)

digits_more : (k n : ℕ) → 10 ≤ n → digits (suc k) n ≡ digits k (n / 10) ++ ((48 + n % 10) ∷ [])
unfolding digits
digits_more k n h = rw (le-ltb n 10 h)

-- a tenth of a number of at most k + 1 digits has at most k
tenth_below : (k n : ℕ) → n < 10 ^ suc k → n / 10 < 10 ^ k
tenth_below k n h = by (10 ^ k) (rw pow-succ' at h)
  where
    by : (m : ℕ) → n < 10 * m → n / 10 < m
    by m l = omega arith

-- where a number has at most k digits, room for one more changes nothing
digits_enough : (k n : ℕ) → n < 10 ^ suc k → digits (suc k) n ≡ digits (suc (suc k)) n
digits_enough zero n h = let l : n < 10 = omega arith in digits_one 0 n l ∙ sym (digits_one 1 n l)
digits_enough (suc k) n h = by (ltb n 10) refl (digits_enough k (n / 10) (tenth_below (suc k) n h))
  where
    by : (t : Bool) → ltb n 10 ≡ t → digits (suc k) (n / 10) ≡ digits (suc (suc k)) (n / 10) → digits (suc (suc k)) n ≡ digits (suc (suc (suc k))) n
    by true e more = digits_one (suc k) n (ltb-true n 10 e) ∙ sym (digits_one (suc (suc k)) n (ltb-true n 10 e))
    by false e more =
        let m : 10 ≤ n = ltb-false n 10 e in
        digits_more (suc k) n m ∙ ap (λ (s : List ℕ). s ++ ((48 + n % 10) ∷ [])) more ∙ sym (digits_more (suc (suc k)) n m)

pub decimal_one : (n : ℕ) → n < 10 → decimal n ≡ (48 + n) ∷ []
unfolding decimal
decimal_one n h = digits_one 9 n h

pub decimal_more : (n : ℕ) → 10 ≤ n → n < 2 ^ 32 → decimal n ≡ decimal (n / 10) ++ ((48 + n % 10) ∷ [])
unfolding decimal
decimal_more n h l = digits_more 9 n h ∙ ap (λ (s : List ℕ). s ++ ((48 + n % 10) ∷ [])) (digits_enough 8 (n / 10) (omega arith))

-- at most k digits
digits_length : (k n : ℕ) → length (digits k n) ≤ k
unfolding digits
digits_length zero n = omega arith
digits_length (suc k) n = by (ltb n 10) (digits_length k (n / 10))
  where
    by : (t : Bool) → length (digits k (n / 10)) ≤ k → length (pick t ((48 + n) ∷ []) (digits k (n / 10) ++ ((48 + n % 10) ∷ []))) ≤ suc k
    by true h = omega arith
    by false h = rw (length-append (digits k (n / 10)) ((48 + n % 10) ∷ [])) (omega arith)

pub decimal_length : (n : ℕ) → length (decimal n) ≤ 10
unfolding decimal
decimal_length n = digits_length 10 n

-- what a list of digits stands for, read from left to right after the value v
unfoldable pub value_from : ℕ → List ℕ → ℕ
value_from v [] = v
value_from v (b ∷ bs) = value_from (10 * v + (b - 48)) bs

value_last : (v : ℕ) (s : List ℕ) (b : ℕ) → value_from v (s ++ (b ∷ [])) ≡ 10 * value_from v s + (b - 48)
unfolding value_from
value_last v [] b = refl
value_last v (x ∷ s) b = value_last (10 * v + (x - 48)) s b

-- the digits of a number stand for it
digits_value : (k n : ℕ) → n < 10 ^ suc k → value_from 0 (digits (suc k) n) ≡ n
unfolding value_from
digits_value zero n h = let l : n < 10 = omega arith in rw (digits_one 0 n l) (omega arith)
digits_value (suc k) n h = by (ltb n 10) refl (digits_value k (n / 10) (tenth_below (suc k) n h))
  where
    by : (t : Bool) → ltb n 10 ≡ t → value_from 0 (digits (suc k) (n / 10)) ≡ n / 10 → value_from 0 (digits (suc (suc k)) n) ≡ n
    by true e more = rw (digits_one (suc k) n (ltb-true n 10 e)) (omega arith)
    by false e more =
        ap (value_from 0) (digits_more (suc k) n (ltb-false n 10 e)) ∙ value_last 0 (digits (suc k) (n / 10)) (48 + n % 10) ∙ rw more (omega arith)

pub decimal_value : (n : ℕ) → n < 2 ^ 32 → value_from 0 (decimal n) ≡ n
unfolding decimal
decimal_value n h = digits_value 9 n (omega arith)

-- at least one digit
digits_some : (k n : ℕ) → 0 < length (digits (suc k) n)
digits_some k n = by (ltb n 10) refl
  where
    by : (t : Bool) → ltb n 10 ≡ t → 0 < length (digits (suc k) n)
    by true e = rw (digits_one k n (ltb-true n 10 e)) (omega arith)
    by false e = rw (digits_more k n (ltb-false n 10 e), length-append) (omega arith)

pub decimal_some : (n : ℕ) → 0 < length (decimal n)
unfolding decimal
decimal_some n = digits_some 9 n

-- no leading zero unless the number is zero
digits_first : (k n : ℕ) → n < 10 ^ suc k → 0 < n → 48 < get_or (digits (suc k) n) 0 0
digits_first zero n h p = let l : n < 10 = omega arith in rw (digits_one 0 n l) (omega arith)
digits_first (suc k) n h p = by (ltb n 10) refl (digits_first k (n / 10) (tenth_below (suc k) n h))
  where
    by : (t : Bool) → ltb n 10 ≡ t → (0 < n / 10 → 48 < get_or (digits (suc k) (n / 10)) 0 0) → 48 < get_or (digits (suc (suc k)) n) 0 0
    by true e more = rw (digits_one (suc k) n (ltb-true n 10 e)) (omega arith)
    by false e more =
        let m : 10 ≤ n = ltb-false n 10 e in
        rw (digits_more (suc k) n m, get_or-append (digits (suc k) (n / 10)) ((48 + n % 10) ∷ []) 0 0 (digits_some k (n / 10))) (more (omega arith))

pub decimal_first : (n : ℕ) → n < 2 ^ 32 → 0 < n → 48 < get_or (decimal n) 0 0
unfolding decimal
decimal_first n h p = digits_first 9 n (omega arith) p

-- a list of ASCII digits
abbrev pub AllDigits : List ℕ → Type 0
AllDigits s = (i : ℕ) → i < length s → (48 ≤ get_or s i 0) × (get_or s i 0 ≤ 57)

all_last : (s : List ℕ) (b : ℕ) → AllDigits s → 48 ≤ b → b ≤ 57 → AllDigits (s ++ (b ∷ []))
all_last s b all h l i j = by (ltb i (length s)) refl
  where
    by : (t : Bool) → ltb i (length s) ≡ t → (48 ≤ get_or (s ++ (b ∷ [])) i 0) × (get_or (s ++ (b ∷ [])) i 0 ≤ 57)
    by true e = rw (get_or-append s (b ∷ []) 0 i (ltb-true i (length s) e)) (all i (ltb-true i (length s) e))
    by false e =
        let last : i ≡ length s + 0 = omega (arith, ltb-false i (length s) e, length-append s (b ∷ [])) in
        let is : get_or (s ++ (b ∷ [])) i 0 ≡ b = ap (λ (m : ℕ). get_or (s ++ (b ∷ [])) m 0) last ∙ get_or-append-add s (b ∷ []) 0 0 in
        rw is (h, l)

digits_all : (k n : ℕ) → AllDigits (digits k n)
unfolding digits
digits_all zero n = λ i j. absurd (omega arith)
digits_all (suc k) n = by (ltb n 10) refl (digits_all k (n / 10))
  where
    by : (t : Bool) → ltb n 10 ≡ t → AllDigits (digits k (n / 10)) → AllDigits (pick t ((48 + n) ∷ []) (digits k (n / 10) ++ ((48 + n % 10) ∷ [])))
    by true e more = all_last [] (48 + n) (λ i j. absurd (omega arith)) (omega arith) (omega (arith, ltb-true n 10 e))
    by false e more = all_last (digits k (n / 10)) (48 + n % 10) more (omega arith) (omega arith)

pub decimal_all : (n : ℕ) → AllDigits (decimal n)
unfolding decimal
decimal_all n = digits_all 10 n

-- some numbers
pub decimal_examples :
    (decimal 0 ≡ 48 ∷ []) × (decimal 7 ≡ 55 ∷ []) × (decimal 10 ≡ 49 ∷ 48 ∷ []) × (decimal 255 ≡ 50 ∷ 53 ∷ 53 ∷ []) × (decimal 65535 ≡ 54 ∷ 53 ∷ 53 ∷ 51 ∷ 53 ∷ [])
    × (decimal 4294967295 ≡ 52 ∷ 50 ∷ 57 ∷ 52 ∷ 57 ∷ 54 ∷ 55 ∷ 50 ∷ 57 ∷ 53 ∷ [])
unfolding decimal digits
decimal_examples = (refl, refl, refl, refl, refl, refl)
