-- Laws of decimal numbers.
use mathlib.Core.Path.{◌≡◌, refl, sym, ◌∙◌}
use mathlib.Core.Bool.{Bool, true, false, ◌&&◌, ◌||◌}
use mathlib.Core.List.{List, [], ◌∷◌}
use Prim.Native.Nat.{ℕ, ◌+◌, ◌*◌, ◌-◌, ◌≤◌, ◌<◌}
use native.Mathlib.Numerals.{add-one}
use native.Mathlib.Omega.{arith}
use lib.ListN.{length, drop, get_or, drop_of_length-le}
use lib.Seq.{drop-cons}
use lib.Dec.{leb, eqb}
use borrow.Author.Tests.{eq-eqb, ne_eqb, eqb-true, eqb-false, lt-ltb, le-ltb, le-leb, lt-leb}
use Rattle.std.proofs.Math.Bool.{and-true}
use Rattle.std.specs.List.{starts_with}
use Rattle.blocks.specs.Pick.{pick}
use Rattle.std.proofs.Common.{Option, None, Some}
use Rattle.cutter.specs.Grammar.{is_digit, all_digits, digits_from, is_number, has_key, has_number, number_of}
use Rattle.cutter.specs.ReadNumber.{digits_number, number_in, number_after}

-- more digits never say less
pub digits_up : (n : ℕ) (ds : List ℕ) → n ≤ digits_from n ds
unfolding digits_from
digits_up n [] = omega arith
digits_up n (b ∷ bs) = omega (arith, digits_up (10 * n + (b - 48)) bs)

-- what the digits from index i say after those that say v
unfoldable pub digits_left : List ℕ → ℕ → ℕ → Option ℕ
digits_left ds v i = digits_number v (drop i ds)

module _ (ds : List ℕ) where
  pub digits_start : digits_number 0 ds ≡ digits_left ds 0 0
  unfolding digits_left
  digits_start = refl

  module _ (v i : ℕ) where
    pub digits_stop : i < length ds → is_digit (get_or ds i 0) ≡ false → digits_left ds v i ≡ None
    unfolding digits_left digits_number all_digits
    digits_stop h k = rw (drop-cons ds i 0, k)

    pub digits_more : i < length ds → is_digit (get_or ds i 0) ≡ true → digits_left ds v i ≡ digits_left ds (10 * v + (get_or ds i 0 - 48)) (i + 1)
    unfolding digits_left digits_number all_digits digits_from
    digits_more h k = rw (add-one, drop-cons ds i 0, k)

    pub digits_large : 65535 < v → digits_left ds v i ≡ None
    unfolding digits_left digits_number
    digits_large h = rw (lt-leb (digits_from v (drop i ds)) 65535 (omega (arith, digits_up v (drop i ds)))) (by (all_digits (drop i ds)))
      where
        by : (t : Bool) → pick (t && false) (Some (digits_from v (drop i ds))) None ≡ None
        by true = refl
        by false = refl

    pub digits_end : length ds ≤ i → v ≤ 65535 → digits_left ds v i ≡ Some v
    unfolding digits_left digits_number all_digits digits_from
    digits_end h k = rw (drop_of_length-le ds {i = i} h, le-leb v 65535 k)

-- a text as a number, by the tests of the code
module _ (ds : List ℕ) where
  abbrev within : Bool
  within = leb (digits_from 0 ds) 65535

  pub number_empty : length ds ≡ 0 → None ≡ number_in ds
  unfolding number_in is_number
  number_empty h = rw (le-ltb 0 (length ds) (omega arith))

  -- what the test of the code says of the first byte
  first_is : (length ds ≡ 0 → ⊥) → starts_with eqb ds (48 ∷ []) ≡ eqb (get_or ds 0 0) 48
  first_is = by ds
    where
      by : (l : List ℕ) → (length l ≡ 0 → ⊥) → starts_with eqb l (48 ∷ []) ≡ eqb (get_or l 0 0) 48
      by [] h = absurd (h refl)
      by (d ∷ l) h = and-true (eqb 48 d) ∙ swap (eqb d 48) refl
        where
          swap : (t : Bool) → eqb d 48 ≡ t → eqb 48 d ≡ t
          swap true e = eq-eqb 48 d (sym (eqb-true d 48 e))
          swap false e = ne_eqb 48 d (λ z. eqb-false d 48 e (sym z))

  module _ (some : length ds ≡ 0 → ⊥) (b : Bool) (test : b ≡ starts_with eqb ds (48 ∷ [])) where
    pub number_zero : 1 < length ds → b ≡ true → None ≡ number_in ds
    unfolding number_in is_number
    number_zero h e = rw (lt-ltb 0 (length ds) (omega arith), ne_eqb (length ds) 1 (λ e. omega arith), sym (first_is some) ∙ sym test ∙ e) (by (all_digits ds))
      where
        by : (t : Bool) → None ≡ pick (t && false && within) (Some (digits_from 0 ds)) None
        by true = refl
        by false = refl

    pub number_more : b ≡ false → (r : Option ℕ) → r ≡ digits_number 0 ds → r ≡ number_in ds
    unfolding number_in is_number digits_number
    number_more e r is = rw (is, lt-ltb 0 (length ds) (omega (arith, some)), sym (first_is some) ∙ sym test ∙ e) (by (all_digits ds) (eqb (length ds) 1))
      where
        by : (t u : Bool) → pick (t && within) (Some (digits_from 0 ds)) None ≡ pick (t && (u || true) && within) (Some (digits_from 0 ds)) None
        by true true = refl
        by true false = refl
        by false u = refl

  pub number_one : (length ds ≡ 0 → ⊥) → length ds ≤ 1 → (r : Option ℕ) → r ≡ digits_number 0 ds → r ≡ number_in ds
  unfolding number_in is_number digits_number
  number_one some h r is = rw (is, lt-ltb 0 (length ds) (omega (arith, some)), eq-eqb (length ds) 1 (omega (arith, some))) (by (all_digits ds))
    where
      by : (t : Bool) → pick (t && within) (Some (digits_from 0 ds)) None ≡ pick (t && true && within) (Some (digits_from 0 ds)) None
      by true = refl
      by false = refl

-- a number after a key
module _ (k w : List ℕ) where
  pub pair_none : has_key k w ≡ false → None ≡ number_after k w
  unfolding number_after has_number
  pair_none e = rw e

  pub pair_number : has_key k w ≡ true → (v : Option ℕ) → v ≡ number_in (drop (length k) w) → v ≡ number_after k w
  unfolding number_after has_number number_of number_in
  pair_number e v is = rw e is

-- what a number after a key shows of the word
module _ (k w : List ℕ) (v : Option ℕ) (is : v ≡ number_after k w) where
  pub after_none : v ≡ None → has_number k w ≡ false
  unfolding number_after
  after_none e = by (has_number k w) (sym is ∙ e)
    where
      by : (t : Bool) → pick t (Some (number_of k w)) None ≡ None → t ≡ false
      by true f = let z : ◌≡◌ {A = ℕ} 0 1 = cc in absurd (omega arith)
      by false f = refl

  pub after_some : (n : ℕ) → v ≡ Some n → (has_number k w ≡ true) × (number_of k w ≡ n)
  unfolding number_after
  after_some n e = by (has_number k w) (sym is ∙ e)
    where
      by : (t : Bool) → pick t (Some (number_of k w)) None ≡ Some n → (t ≡ true) × (number_of k w ≡ n)
      by true f = (refl, cc)
      by false f = let z : ◌≡◌ {A = ℕ} 0 1 = cc in absurd (omega arith)
