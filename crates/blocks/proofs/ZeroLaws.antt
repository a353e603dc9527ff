-- Laws of `all_zero`: what zeros are, and parts and joins of lists.
use mathlib.Core.Path.{◌≡◌, refl, sym, ap, ◌∙◌}
use mathlib.Core.Bool.{Bool, true, false, ◌&&◌}
use mathlib.Core.List.{List, [], ◌∷◌, ◌++◌}
use Prim.Native.Nat.{ℕ, zero, suc, ◌+◌, ◌-◌}
use lib.ListN.{length, take, drop, replicate}
use lib.Dec.{eqb}
use borrow.Author.Tests.{eqb-true}
use Rattle.blocks.specs.Pick.{same, all_zero}
use Rattle.blocks.specs.Bytes.{part, splice, zero_block}
use Rattle.blocks.proofs.Tests.{and_left, and_right}
use Rattle.blocks.proofs.BoolLaws.{no, and_true}
use Rattle.blocks.proofs.ListLaws.{same_equal, same_self}
use Rattle.blocks.proofs.NameLaws.{drop_replicate}

zeros_are : (b : List ℕ) → all_zero b ≡ true → b ≡ replicate (length b) 0
unfolding all_zero
zeros_are [] e = refl
zeros_are (x ∷ xs) e =
    let h : x ≡ 0 = eqb-true x 0 (and_left (eqb x 0) (all_zero xs) e) in
    rw h (ap (λ (ys : List ℕ). 0 ∷ ys) (zeros_are xs (and_right (eqb x 0) (all_zero xs) e)))

-- parts of zeros
zeros_taken : (m n : ℕ) → all_zero (take m (replicate n 0)) ≡ true
unfolding all_zero
zeros_taken zero n = refl
zeros_taken (suc m) zero = refl
zeros_taken (suc m) (suc n) = zeros_taken m n

all_zeros : (n : ℕ) → all_zero (replicate n 0) ≡ true
unfolding all_zero
all_zeros zero = refl
all_zeros (suc n) = all_zeros n

pub zero_part : (n k m : ℕ) → all_zero (part (replicate n 0) k m) ≡ true
zero_part n k m = rw (drop_replicate n k) (zeros_taken m (n - k))

-- a block is the block of zeros exactly where its bytes are zeros
zero_by : (b : List ℕ) → length b ≡ 512 → (x y : Bool) → all_zero b ≡ x → same b zero_block ≡ y → y ≡ x
zero_by b h true true e f = refl
zero_by b h false false e f = refl
zero_by b h true false e f = no (sym f ∙ ap (λ (z : List ℕ). same z zero_block) (zeros_are b e ∙ ap (λ (n : ℕ). replicate n 0) h) ∙ same_self zero_block)
zero_by b h false true e f = no (sym e ∙ ap all_zero (same_equal b zero_block f) ∙ all_zeros 512)

pub same_zeros : (b : List ℕ) → length b ≡ 512 → same b zero_block ≡ all_zero b
same_zeros b h = zero_by b h (all_zero b) (same b zero_block) refl refl

-- bytes laid over zeros
zero_join : (x y : List ℕ) → all_zero (x ++ y) ≡ (all_zero x && all_zero y)
unfolding all_zero
zero_join [] y = refl
zero_join (a ∷ x) y = ap (λ (b : Bool). eqb a 0 && b) (zero_join x y) ∙ sym (joined (eqb a 0) (all_zero x) (all_zero y))
  where
    joined : (p q r : Bool) → ((p && q) && r) ≡ (p && (q && r))
    joined true q r = refl
    joined false q r = refl

pub zero_splice : (n at : ℕ) (bytes : List ℕ) → all_zero (splice (replicate n 0) at bytes) ≡ all_zero bytes
unfolding splice
zero_splice n at bytes =
    zero_join (take at (replicate n 0) ++ bytes) (drop (at + length bytes) (replicate n 0))
    ∙ rw (zero_join (take at (replicate n 0)) bytes, zeros_taken at n, drop_replicate n (at + length bytes), all_zeros (n - (at + length bytes))) (and_true (all_zero bytes))
