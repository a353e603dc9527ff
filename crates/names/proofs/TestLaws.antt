-- Laws of the tests of a name, as the code makes them: how many of its bytes come first, and of a loop over its bytes each byte of a name or zero, zeros last,
-- by each byte and the one before it, and some byte that is not zero.
use mathlib.Core.Path.{◌≡◌, refl, sym, ap, ◌∙◌}
use mathlib.Core.Bool.{Bool, true, false, not, ◌&&◌, ◌||◌, and_assoc, cond}
use mathlib.Core.List.{List, [], ◌∷◌}
use Prim.Native.Nat.{ℕ, suc, ◌+◌, ◌≤◌, ◌<◌}
use native.Mathlib.Numerals.{add-one}
use native.Mathlib.Omega.{arith}
use lib.ListN.{length, drop, get_or, drop_of_length-le}
use lib.Seq.{drop-cons}
use lib.Dec.{eqb}
use Rattle.std.specs.List.{take_while, prefix_len}
use Rattle.std.proofs.lemmas.List.Folds.{length-prefix_len}
use Rattle.blocks.specs.Pick.{pick, all_zero}
use Rattle.blocks.specs.Name.{name_byte, name_length, is_name, name_or_zero, zeros_last}
use Rattle.blocks.proofs.BoolLaws.{no}
use Rattle.blocks.proofs.NameLaws.{name_tests}

-- how many bytes of a name come first, as a chain counts them
name_prefix : (a : List ℕ) → prefix_len name_byte a ≡ name_length a
unfolding name_length
name_prefix [] = refl
name_prefix (b ∷ a) = by (name_byte b) (name_prefix a)
  where
    by : (t : Bool) → prefix_len name_byte a ≡ name_length a → cond t (1 + prefix_len name_byte a) 0 ≡ pick t (suc (name_length a)) 0
    by true more = omega arith
    by false more = refl

pub name_taken : (a : List ℕ) → length (take_while name_byte a) ≡ name_length a
name_taken a = length-prefix_len name_byte a ∙ name_prefix a

-- whether the bytes from index i are of a name or zero
unfoldable pub good_from : List ℕ → ℕ → Bool
good_from a i = name_or_zero (drop i a)

-- whether zeros come last in the bytes from index i, after one more byte
unfoldable pub last_from : List ℕ → ℕ → ℕ → Bool
last_from a before i = zeros_last (before ∷ drop i a)

-- whether the bytes from index i are not all zero
unfoldable pub some_from : List ℕ → ℕ → Bool
some_from a i = not (all_zero (drop i a))

-- each with the test of the bytes before carried along
module _ (a : List ℕ) where
  pub good_start : name_or_zero a ≡ good_from a 0
  unfolding good_from
  good_start = refl

  good_step : (i : ℕ) → i < length a → good_from a i ≡ ((name_byte (get_or a i 0) || eqb (get_or a i 0) 0) && good_from a (i + 1))
  unfolding good_from name_or_zero
  good_step i h = rw (add-one, drop-cons a i 0)

  pub good_next : (i : ℕ) (z t : Bool) → i < length a → t ≡ name_byte (get_or a i 0) → name_or_zero a ≡ (z && good_from a i) → name_or_zero a ≡ ((z && (t || eqb (get_or a i 0) 0)) && good_from a (i + 1))
  good_next i true t h e q = q ∙ good_step i h ∙ rw e
  good_next i false t h e q = q

  pub good_end : (i : ℕ) (z : Bool) → length a ≤ i → name_or_zero a ≡ (z && good_from a i) → z ≡ name_or_zero a
  unfolding good_from name_or_zero
  good_end i true h q = sym (q ∙ rw (drop_of_length-le a h))
  good_end i false h q = sym q

  pub last_start : zeros_last a ≡ last_from a 1 0
  unfolding last_from zeros_last
  last_start = by a
    where
      by : (l : List ℕ) → zeros_last l ≡ zeros_last (1 ∷ l)
      by [] = refl
      by (b ∷ l) = refl

  last_step : (before i : ℕ) → i < length a → last_from a before i ≡ ((not (eqb before 0) || eqb (get_or a i 0) 0) && last_from a (get_or a i 0) (i + 1))
  unfolding last_from zeros_last
  last_step before i h = rw (add-one, drop-cons a i 0)

  pub last_next : (before i : ℕ) (z : Bool) → i < length a → zeros_last a ≡ (z && last_from a before i)
      → zeros_last a ≡ ((z && (not (eqb before 0) || eqb (get_or a i 0) 0)) && last_from a (get_or a i 0) (i + 1))
  last_next before i true h q = q ∙ last_step before i h
  last_next before i false h q = q

  pub last_end : (before i : ℕ) (z : Bool) → length a ≤ i → zeros_last a ≡ (z && last_from a before i) → z ≡ zeros_last a
  unfolding last_from zeros_last
  last_end before i true h q = sym (q ∙ rw (drop_of_length-le a h))
  last_end before i false h q = sym q

  pub some_start : not (all_zero a) ≡ some_from a 0
  unfolding some_from
  some_start = refl

  some_step : (i : ℕ) → i < length a → some_from a i ≡ (not (eqb (get_or a i 0) 0) || some_from a (i + 1))
  unfolding some_from all_zero
  some_step i h = rw (add-one, drop-cons a i 0) (by (eqb (get_or a i 0) 0) (all_zero (drop (suc i) a)))
    where
      by : (x y : Bool) → not (x && y) ≡ (not x || not y)
      by true y = refl
      by false y = refl

  pub some_next : (i : ℕ) (z : Bool) → i < length a → not (all_zero a) ≡ (z || some_from a i) → not (all_zero a) ≡ ((z || not (eqb (get_or a i 0) 0)) || some_from a (i + 1))
  some_next i true h q = q
  some_next i false h q = q ∙ some_step i h

  pub some_end : (i : ℕ) (z : Bool) → length a ≤ i → not (all_zero a) ≡ (z || some_from a i) → z ≡ not (all_zero a)
  unfolding some_from all_zero
  some_end i true h q = sym q
  some_end i false h q = sym (q ∙ rw (drop_of_length-le a h))

-- sixteen bytes are a name exactly where they pass the tests of the code: each of a name or zero, zeros last, and not all zero
zero_after : (b : ℕ) (l : List ℕ) → eqb b 0 ≡ true → zeros_last (b ∷ l) ≡ true → all_zero l ≡ true
unfolding zeros_last all_zero
zero_after b [] e h = refl
zero_after b (c ∷ l) e h = by (eqb b 0) (eqb c 0) e (zero_after c l) h
  where
    by : (y z : Bool) → y ≡ true → (z ≡ true → zeros_last (c ∷ l) ≡ true → all_zero l ≡ true) → ((not y || z) && zeros_last (c ∷ l)) ≡ true → (z && all_zero l) ≡ true
    by true true f more k = more refl k
    by true false f more k = k
    by false z f more k = no f

first_some : (n : List ℕ) → 0 < length n → (zeros_last n && not (eqb (get_or n 0 0) 0)) ≡ (zeros_last n && not (all_zero n))
unfolding all_zero
first_some [] h = absurd (omega arith)
first_some (b ∷ l) h = by (eqb b 0) (zeros_last (b ∷ l)) refl refl
  where
    by : (z t : Bool) → eqb b 0 ≡ z → zeros_last (b ∷ l) ≡ t → (t && not z) ≡ (t && not (z && all_zero l))
    by z false e f = refl
    by false true e f = refl
    by true true e f = rw (zero_after b l e f)

pub name_loop : (n : List ℕ) → length n ≡ 16 → (p z s : Bool) → p ≡ name_or_zero n → z ≡ zeros_last n → s ≡ not (all_zero n) → (p && z && s) ≡ is_name n
name_loop n h p z s e f g =
    rw (e, f, g) (and_assoc (name_or_zero n) (zeros_last n) (not (all_zero n)) ∙ ap (λ (t : Bool). name_or_zero n && t) (sym (first_some n (omega arith))) ∙ sym (and_assoc (name_or_zero n) (zeros_last n) (not (eqb (get_or n 0 0) 0))))
    ∙ name_tests n h (name_or_zero n) (zeros_last n) refl refl
