-- The thirteen marked bench values of 01: what the definitions compute is what the table says, and what wrong values would say it is not.
use mathlib.Core.Path.{◌≡◌, refl, sym, ap, ◌∙◌}
use mathlib.Core.List.{map}
use Prim.Native.Nat.{ℕ}
use native.Mathlib.Omega.{arith}
use lib.ListN.{get_or}
use Rattle.claims.specs.Bench.{Shown, Only, Beta, Bytes, Named, Result, values, expected, computed, showing, block_of, WrongValues}
use Rattle.claims.proofs.Running.{running}

pub bench_values : map computed values ≡ map expected values
unfolding running values expected computed showing block_of
bench_values = refl

-- what two results may differ in, as a number
pub apart : {A : Type 0} (f : A → ℕ) (m n : ℕ) → (m ≡ n → ⊥) → (x y : A) → f x ≡ m → f y ≡ n → x ≡ y → ⊥
apart f m n h x y e g q = h (sym e ∙ ap f q ∙ g)

unfoldable pub beta_in : Shown → ℕ
beta_in Only = 0
beta_in (Beta n) = n
beta_in (Bytes b) = 0
beta_in (Named n) = 0

unfoldable pub last_byte_in : Shown → ℕ
last_byte_in Only = 0
last_byte_in (Beta n) = 0
last_byte_in (Bytes b) = get_or b 511 0
last_byte_in (Named n) = 0

unfoldable pub first_letter_in : Shown → ℕ
first_letter_in Only = 0
first_letter_in (Beta n) = 0
first_letter_in (Bytes b) = 0
first_letter_in (Named n) = get_or n 0 0

pub wrong_values : WrongValues
unfolding running WrongValues expected computed showing block_of beta_in last_byte_in
wrong_values = (
  apart (λ (r : Result). r.answer.number) 0 5 (λ e. omega arith) _ _ refl refl,
  apart (λ (r : Result). r.answer.place) 0 1 (λ e. omega arith) _ _ refl refl,
  apart (λ (r : Result). beta_in r.shown) 3 4 (λ e. omega arith) _ _ refl refl,
  apart (λ (r : Result). last_byte_in r.shown) 0 1 (λ e. omega arith) _ _ refl refl,
  apart (λ (r : Result). last_byte_in r.shown) 9 0 (λ e. omega arith) _ _ refl refl,
)
