-- Laws of region_of and owner_at, as the code asks them.
use mathlib.Core.Path.{◌≡◌, sym, ap, subst}
use mathlib.Core.Bool.{true, false}
use mathlib.Core.List.{List, [], ◌∷◌}
use Prim.Native.Nat.{ℕ, zero, suc, ◌+◌, ◌-◌, ◌≤◌, ◌<◌}
use native.Mathlib.Omega.{arith}
use lib.ListN.{length, get_or, take, drop}
use lib.Dec.{leb}
use borrow.Author.Tests.{ne_eqb, lt-ltb, le-ltb, le-leb, lt-leb, leb-true, leb-false}
use Rattle.std.specs.List.Sorted.{IsPartitionedBy, IsPartitionPoint}
use Rattle.std.proofs.lemmas.List.{take_rest}
use Rattle.std.proofs.lemmas.List.Sorted.{IsPartitionedBy-leb, IsNonDecreasingBy-from_default}
use Rattle.entries.specs.InPlace.{region_of, in_place_at, owner_at}
use Rattle.entries.specs.Through.{RisingRegions}

-- the region that starts at or below p and ends above it, where none before it does
pub region_is : (starts : List ℕ) (k p : ℕ) → suc k < length starts → ((j : ℕ) → j ≤ k → get_or starts j 0 ≤ p) → p < get_or starts (suc k) 0 → region_of starts p ≡ k
unfolding region_of
region_is [] k p l low high = absurd (omega arith)
region_is (s ∷ []) k p l low high = absurd (omega arith)
region_is (s ∷ t ∷ starts) zero p l low high = rw (lt-ltb p t high)
region_is (s ∷ t ∷ starts) (suc k) p l low high =
    rw (le-ltb p t (low 1 (omega arith))) (ap suc (region_is (t ∷ starts) k p (omega arith) (λ j h. low (suc j) (omega arith)) high))

-- where the ends of the regions, which are the starts but the first, are parted by block p: as many as end at or below it
abbrev PartedAt : ℕ → ℕ → List ℕ → Type 0
PartedAt p i ends = IsPartitionedBy (λ e. leb e p) ends → IsPartitionPoint (λ e. leb e p ≡ true) (λ e. leb e p ≡ false) ends i

pub region_ends : (starts : List ℕ) (p i : ℕ) → RisingRegions starts (length starts - 1) 0 × (p < get_or starts (length starts - 1) 0) → PartedAt p i (take (length starts - 1) (drop 1 starts))
    → (i ≡ region_of starts p) × (i < length starts - 1)
region_ends [] p i (rising, below) parted = absurd (omega (arith, rising.some))
region_ends (s ∷ ends) p i (rising, below) parted =
    let rise : IsPartitionedBy (λ e. leb e p) ends =
    IsPartitionedBy-leb (λ e. e) ends p (IsNonDecreasingBy-from_default (λ e. e) ends 0 (λ j k h m. rising.rise (suc j) (suc k) (omega arith) (omega arith))) in
    let point = subst (PartedAt p i) (take_rest (s ∷ ends) 1) parted rise in
    let low : (k : ℕ) → k < i → get_or ends k 0 ≤ p = λ k h. leb-true _ _ (point.0 k 0 (omega arith) h) in
    let more : length (s ∷ ends) - 1 ≡ suc (length ends - 1) = omega (arith, rising.some) in
    let last : p < get_or ends (length ends - 1) 0 = subst (λ k. p < get_or (s ∷ ends) k 0) more below in
    let short : i < length ends = grind (arith, low (length ends - 1), last, rising.some) in
    let upto : (j : ℕ) → j ≤ i → get_or (s ∷ ends) j 0 ≤ p = elim [ zero ↦ λ h. omega (arith, rising.from) | suc j ↦ λ h. low j (omega arith) ] in
    (sym (region_is (s ∷ ends) i p (omega arith) upto (leb-false _ _ (point.1 i 0 (omega arith) short))), omega arith)

-- owner_at, by the tests of the code
module _ (starts : List ℕ) (cost beta count p : ℕ) where
  pub owner_nil : p ≡ 0 → 0 ≡ owner_at starts cost beta count p
  unfolding owner_at in_place_at
  owner_nil e = rw e

  pub owner_past : (p ≡ 0 → ⊥) → beta ≤ p → count ≡ owner_at starts cost beta count p
  unfolding owner_at in_place_at
  owner_past n h = rw (ne_eqb p 0 n, le-ltb p beta h)

  module _ (n : p ≡ 0 → ⊥) (h : p < beta) (k : ℕ) (is : k ≡ region_of starts p) (c : ℕ) (costs : c ≡ cost) where
    pub owner_opening : p < get_or starts k 0 + c → count ≡ owner_at starts cost beta count p
    unfolding owner_at in_place_at
    owner_opening l = rw (ne_eqb p 0 n, lt-ltb p beta h, ← is, ← costs, lt-leb (get_or starts k 0 + c) p l)

    pub owner_found : get_or starts k 0 + c ≤ p → k ≡ owner_at starts cost beta count p
    unfolding owner_at in_place_at
    owner_found l = rw (ne_eqb p 0 n, lt-ltb p beta h, ← is, ← costs, le-leb (get_or starts k 0 + c) p l)
