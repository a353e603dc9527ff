-- The region that contains a block is the same in two chains that begin alike.
use mathlib.Core.Path.{◌≡◌, refl, ap}
use mathlib.Core.Bool.{Bool, true, false}
use mathlib.Core.List.{List, [], ◌∷◌, ◌++◌}
use Prim.Native.Nat.{ℕ, suc, ◌≤◌, ◌<◌}
use native.Mathlib.Omega.{arith}
use lib.ListN.{length}
use Rattle.blocks.specs.Pick.{pick}
use Rattle.blocks.specs.declared.numbers.Physical.{Physical}
use Rattle.blocks.specs.declared.descriptor.Descriptor.{Descriptor}
use Rattle.entries.specs.InPlace.{contains, owner_index}
use Rattle.entries.proofs.OwnerLaws.{contains_is, is_contained}

-- two chains that begin alike, and whose next regions start alike: a block below the end of both is in the same region of both
first_by : (b : Bool) (n : ℕ) → pick b 0 (suc n) ≤ 0 → b ≡ true
first_by true n h = refl
first_by false n h = absurd (omega arith)

front_by : (s : Bool) (m n k : ℕ) → pick s 0 (suc n) ≤ suc k → (n ≤ k → m ≡ n) → pick s 0 (suc m) ≡ pick s 0 (suc n)
front_by true m n k h later = refl
front_by false m n k h later = ap suc (later (omega arith))

pub owner_front : (xs : List Descriptor) (x y : Descriptor) (ys zs : List Descriptor) (q : ℕ) → y.alpha ≡ x.alpha → q < y.beta.0 → owner_index (xs ++ (x ∷ ys)) q ≤ length xs
    → owner_index (xs ++ (y ∷ zs)) q ≡ owner_index (xs ++ (x ∷ ys)) q
unfolding owner_index
owner_front [] x y ys zs q a b h =
    let e = first_by (contains x q) (owner_index ys q) h in
    rw (e, is_contained y q (omega (arith, (contains_is x q e).0, ap (λ (z : Physical). z.0) a)) b)
owner_front (w ∷ xs) x y ys zs q a b h = front_by (contains w q) (owner_index (xs ++ (y ∷ zs)) q) (owner_index (xs ++ (x ∷ ys)) q) (length xs) h (λ l. owner_front xs x y ys zs q a b l)
