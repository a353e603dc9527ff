-- What a block of a span takes, as the code counts it.
use mathlib.Core.Path.{◌≡◌, refl, sym, ap, ◌∙◌, subst}
use mathlib.Core.Bool.{Bool, true, false, ◌||◌}
use mathlib.Core.List.{List, map}
use Prim.Native.Nat.{ℕ, zero, suc, ◌+◌, ◌*◌, ◌/◌, ◌%◌, ◌≤◌, ◌<◌, min}
use native.Mathlib.Omega.{arith}
use lib.Dec.{eqb}
use borrow.Author.Tests.{eq-eqb, ne_eqb}
use Rattle.std.specs.List.{sum, range_with_len}
use Rattle.std.proofs.lemmas.List.FromFn.{sum_by-map-range_with_len_more}
use Rattle.blocks.specs.Pick.{pick}
use Rattle.pieces.specs.Span.{span_block}
use Rattle.blocks.specs.declared.descriptor.Descriptor.{Descriptor}
use Rattle.blocks.proofs.BoolLaws.{no}
use Rattle.chains.specs.Chain.{active_of}
use Rattle.entries.specs.Entry.{need}
use Rattle.entries.specs.Found.{Found}
use Rattle.entries.proofs.EntryLaws.{need_most}
use Rattle.calls.specs.Parts.{descriptors_of, found_through, is_misplaced}
use Rattle.calls.specs.Check.{Passes}
use Rattle.calls.specs.Stores.{write_need}
use Rattle.calls.proofs.CellLaws.{active_placed}
use Rattle.spanwriting.specs.Planned.{counted_at, planned_need}

-- the entry of a block of the volume is in place, on a card that passes
pub in_place : (c : List ℕ) → Passes c → (d : Descriptor) → d ≡ active_of (descriptors_of c) → (l : ℕ) → l < d.volume → is_misplaced (found_through c d l) ≡ false
in_place c p d active l h =
    subst (λ (x : Descriptor). is_misplaced (found_through c x l) ≡ false) (sym active) (active_placed c p l (subst (λ (x : Descriptor). l < x.volume) active h))

module _ (c : List ℕ) (d : Descriptor) (active : d ≡ active_of (descriptors_of c)) (o i : ℕ) (f : Found) (is : f ≡ found_through c d (o / 512 + i)) (n : ℕ) (taken : n ≡ need d.alpha.0 f) where
  abbrev l : ℕ
  l = o / 512 + i

  counts : n ≡ write_need c l
  unfolding write_need
  counts = taken ∙ ap (need d.alpha.0) is ∙ ap (λ (x : Descriptor). need x.alpha.0 (found_through c x l)) active

  pub counted_first : i ≡ 0 → n ≡ counted_at c o i
  unfolding counted_at
  counted_first z = counts ∙ rw (eq-eqb i 0 z)

  group_by : (b : Bool) → b ≡ true → (z : Bool) (x y : ℕ) → x ≡ pick (z || b) x y
  group_by true e true x y = refl
  group_by true e false x y = refl
  group_by false e z x y = no e

  pub counted_group : l % 128 ≡ 0 → n ≡ counted_at c o i
  unfolding counted_at
  counted_group z = counts ∙ group_by (eqb (l % 128) 0) (eq-eqb (l % 128) 0 z) (eqb i 0) (write_need c l) (min (write_need c l) 1)

  pub counted_later : (i ≡ 0 → ⊥) → (l % 128 ≡ 0 → ⊥) → min n 1 ≡ counted_at c o i
  unfolding counted_at
  counted_later z g = rw (ne_eqb i 0 z, ne_eqb (l % 128) 0 g, ← counts)

-- the sum over the first n blocks, and how large it is at most
pub planned_sum : (c : List ℕ) (o n : ℕ) → sum (map (counted_at c o) (range_with_len 0 n)) ≡ planned_need c o n
unfolding planned_need
planned_sum c o zero = refl
planned_sum c o (suc n) =
    let e : suc n ≡ n + 1 = omega arith in
    ap (λ (k : ℕ). sum (map (counted_at c o) (range_with_len 0 k))) e
    ∙ sum_by-map-range_with_len_more (λ x. x) (counted_at c o) 0 n n (omega arith)
    ∙ ap (λ (k : ℕ). k + counted_at c o n) (planned_sum c o n)

most_by : (b : Bool) (n : ℕ) → n ≤ 2 → pick b n (min n 1) ≤ 2
most_by true n h = h
most_by false n h = omega (arith, h)

counted_most : (c : List ℕ) (o i : ℕ) → counted_at c o i ≤ 2
unfolding counted_at write_need
counted_most c o i =
    let l = span_block o i in
    let d = active_of (descriptors_of c) in
    most_by (eqb i 0 || eqb (l % 128) 0) (need d.alpha.0 (found_through c d l)) (need_most d.alpha.0 (found_through c d l))

pub planned_most : (c : List ℕ) (o n : ℕ) → planned_need c o n ≤ 2 * n
unfolding planned_need
planned_most c o zero = omega arith
planned_most c o (suc n) = omega (arith, planned_most c o n, counted_most c o n)
