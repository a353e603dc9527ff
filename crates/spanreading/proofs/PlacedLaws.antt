-- Entries of one table block, one after the other: which of them are in place.
use mathlib.Core.Path.{◌≡◌, refl, sym, ap, ◌∙◌}
use mathlib.Core.Bool.{Bool, true, false, ◌&&◌}
use mathlib.Core.List.{List}
use Prim.Native.Nat.{ℕ, suc, ◌+◌, ◌-◌, ◌≤◌, ◌<◌}
use native.Mathlib.Omega.{arith}
use Rattle.blocks.specs.Pick.{pick}
use Rattle.blocks.specs.Descriptor.{physical}
use Rattle.blocks.specs.declared.numbers.Physical.{Physical}
use Rattle.blocks.specs.declared.descriptor.Descriptor.{Descriptor}
use Rattle.entries.specs.InPlace.{is_in_place}
use Rattle.entries.specs.Entry.{entry_at, entry_found, located_in}
use Rattle.entries.specs.Found.{Misplaced, Entry, Located, Passed, Fault}
use Rattle.calls.specs.Parts.{descriptors_of}
use Rattle.spanreading.specs.Fetched.{placed_from}

-- what an entry that was looked for tells
told_by : (m p : ℕ) (t : Bool) (h : Physical) → pick t (Entry (physical m) (physical p)) (Misplaced (physical m)) ≡ Misplaced h → (t ≡ false) × (h ≡ physical m)
told_by m p true h e = cc
told_by m p false h e = (refl, cc)

found_by : (m p : ℕ) (t : Bool) (x y : Physical) → pick t (Entry (physical m) (physical p)) (Misplaced (physical m)) ≡ Entry x y → t ≡ true
found_by m p true x y e = refl
found_by m p false x y e = cc

module _ (c : List ℕ) (d : Descriptor) (m j : ℕ) (at : Located) (is : at ≡ located_in (descriptors_of c) (entry_found (descriptors_of c) d m (entry_at c m j))) where
  found_is : at.found ≡ entry_found (descriptors_of c) d m (entry_at c m j)
  unfolding located_in
  found_is = ap (λ (x : Located). x.found) is

  misplaced_is : (h : Physical) → at.found ≡ Misplaced h → (is_in_place (descriptors_of c) d (entry_at c m j) ≡ false) × (h ≡ physical m)
  unfolding entry_found
  misplaced_is h e = told_by m (entry_at c m j) (is_in_place (descriptors_of c) d (entry_at c m j)) h (sym found_is ∙ e)

  placed_is : (x y : Physical) → at.found ≡ Entry x y → is_in_place (descriptors_of c) d (entry_at c m j) ≡ true
  unfolding entry_found
  placed_is x y e = found_by m (entry_at c m j) (is_in_place (descriptors_of c) d (entry_at c m j)) x y (sym found_is ∙ e)

-- one entry of those that are left
unrolled : (c : List ℕ) (d : Descriptor) (m j n k : ℕ) → k ≡ suc n → placed_from c d m j k ≡ (is_in_place (descriptors_of c) d (entry_at c m j) && placed_from c d m (suc j) n)
unfolding placed_from
unrolled c d m j n k e = rw e

pub placed_start : (c : List ℕ) (d : Descriptor) (m j k : ℕ) → placed_from c d m j k ≡ placed_from c d m (j + 0) (k - 0)
placed_start c d m j k = let e : j + 0 ≡ j = omega arith in let f : k - 0 ≡ k = omega arith in rw (e, f)

module _ (c : List ℕ) (d : Descriptor) (m j k i : ℕ) (left : placed_from c d m j k ≡ placed_from c d m (j + i) (k - i)) where
  pub placed_end : k ≤ i → Passed ≡ pick (placed_from c d m j k) Passed (Fault (physical m))
  unfolding placed_from
  placed_end h = let f : k - i ≡ 0 = omega arith in rw (left, f)

  module _ (h : i < k) (at : Located) (is : at ≡ located_in (descriptors_of c) (entry_found (descriptors_of c) d m (entry_at c m (j + i)))) where
    step : placed_from c d m j k ≡ (is_in_place (descriptors_of c) d (entry_at c m (j + i)) && placed_from c d m (suc (j + i)) (k - (i + 1)))
    step = left ∙ unrolled c d m (j + i) (k - (i + 1)) (k - i) (omega arith)

    pub placed_stop : (x : Physical) → at.found ≡ Misplaced x → Fault x ≡ pick (placed_from c d m j k) Passed (Fault (physical m))
    placed_stop x e = let f = misplaced_is c d m (j + i) at is x e in rw (step, f.0, f.1)

    pub placed_more : (x y : Physical) → at.found ≡ Entry x y → placed_from c d m j k ≡ placed_from c d m (j + (i + 1)) (k - (i + 1))
    placed_more x y e = let f : suc (j + i) ≡ j + (i + 1) = omega arith in step ∙ rw (placed_is c d m (j + i) at is x y e, f)
