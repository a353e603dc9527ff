-- Laws of index_of and named, of one list and of lists joined.
use mathlib.Core.Path.{◌≡◌, refl, sym, ap, ◌∙◌}
use mathlib.Core.Bool.{Bool, true, false, ◌||◌}
use mathlib.Core.List.{List, [], ◌∷◌, ◌++◌}
use Prim.Native.Nat.{ℕ, suc, ◌≤◌, ◌<◌}
use native.Mathlib.Omega.{arith}
use lib.ListN.{length, take, get_or}
use lib.Seq.{length-take-le}
use lib.Dec.{ltb}
use Rattle.std.specs.Prelude.{Option, Some, None, IfSome, is_some, unwrap_or}
use borrow.Author.Tests.{lt-ltb, le-ltb, ltb-true, ltb-false}
use Rattle.blocks.specs.Pick.{pick, same}
use Rattle.blocks.specs.Descriptor.{descriptor_at}
use Rattle.chains.specs.Chain.{index_of, named, descriptors_at}
use Rattle.blocks.specs.declared.descriptor.Descriptor.{Descriptor}
use Rattle.blocks.proofs.BoolLaws.{or_false_both, or_nil, or_assoc, or_false_left}

-- the index is how many there are where none of the blocks' descriptors has the name
index_none : (c name starts : List ℕ) → ((i : ℕ) → i < length starts → same (descriptor_at c (get_or starts i 0)).name name ≡ false) → index_of (descriptors_at c starts) name ≡ length starts
unfolding index_of descriptors_at
index_none c name [] apart = refl
index_none c name (p ∷ ps) apart = rw (apart 0 (omega arith)) (ap suc (index_none c name ps (λ i h. apart (suc i) (omega arith))))

-- the index is no more than how many there are
index_le_by : (t : Bool) (i n : ℕ) → i ≤ n → pick t 0 (suc i) ≤ suc n
index_le_by true i n h = omega arith
index_le_by false i n h = omega arith

pub index_le : (ds : List Descriptor) (name : List ℕ) → index_of ds name ≤ length ds
unfolding index_of
index_le [] name = omega arith
index_le (d ∷ ds) name = index_le_by (same d.name name) (index_of ds name) (length ds) (index_le ds name)

-- whether none, or one more, has the name
pub named_none : (name : List ℕ) → named [] name ≡ false
unfolding named index_of
named_none name = refl

below_suc : (i n : ℕ) (t : Bool) → ltb i n ≡ t → ltb (suc i) (suc n) ≡ t
below_suc i n true e = lt-ltb (suc i) (suc n) (omega (arith, ltb-true i n e))
below_suc i n false e = le-ltb (suc i) (suc n) (omega (arith, ltb-false i n e))

cons_by : (i n : ℕ) (t : Bool) → ltb (pick t 0 (suc i)) (suc n) ≡ (t || ltb i n)
cons_by i n true = lt-ltb 0 (suc n) (omega arith)
cons_by i n false = below_suc i n (ltb i n) refl

pub named_cons : (d : Descriptor) (ds : List Descriptor) (name : List ℕ) → named (d ∷ ds) name ≡ (same d.name name || named ds name)
unfolding named index_of
named_cons d ds name = cons_by (index_of ds name) (length ds) (same d.name name)

pub named_one : (d : Descriptor) (name : List ℕ) → named (d ∷ []) name ≡ same d.name name
named_one d name = named_cons d [] name ∙ rw (named_none name) (or_nil (same d.name name))

-- where a descriptor has the name the index is one of theirs; the first after others without the name has the index after them
pub index_below : (ds : List Descriptor) (name : List ℕ) → named ds name ≡ true → index_of ds name < length ds
unfolding named
index_below ds name h = ltb-true (index_of ds name) (length ds) h

pub index_at : (xs : List Descriptor) (d : Descriptor) (ys : List Descriptor) (name : List ℕ) → named xs name ≡ false → same d.name name ≡ true → index_of (xs ++ (d ∷ ys)) name ≡ length xs
unfolding index_of
index_at [] d ys name h e = rw e
index_at (x ∷ xs) d ys name h e =
    let r = or_false_both (same x.name name) (named xs name) (sym (named_cons x xs name) ∙ h) in
    rw (r.0, index_at xs d ys name r.1 e)

-- how many descriptors there are in blocks, and whether one has the name by its index
pub length_descriptors : (c : List ℕ) (ps : List ℕ) → length (descriptors_at c ps) ≡ length ps
unfolding descriptors_at
length_descriptors c [] = refl
length_descriptors c (p ∷ ps) = ap suc (length_descriptors c ps)

-- one of them has the name where its index is found
pub named_found : (c starts name : List ℕ) (found : Option ℕ) → unwrap_or found (length starts) ≡ index_of (descriptors_at c starts) name → IfSome found (λ j. j < length starts)
    → is_some found ≡ named (descriptors_at c starts) name
unfolding named
named_found c starts name (Some j) e h = rw (← e, length_descriptors) (sym (lt-ltb j (length starts) h))
named_found c starts name None e h = rw (← e, length_descriptors) (sym (le-ltb (length starts) (length starts) (omega arith)))

pub not_named : (c starts name : List ℕ) → ((i : ℕ) → i < length starts → same (descriptor_at c (get_or starts i 0)).name name ≡ false) → named (descriptors_at c starts) name ≡ false
unfolding named
not_named c starts name apart = rw (index_none c name starts apart, length_descriptors) (le-ltb (length starts) (length starts) (omega arith))

pub descriptors_counted : (c starts : List ℕ) (n : ℕ) → n ≤ length starts → length (descriptors_at c (take n starts)) ≡ n
descriptors_counted c starts n long = length_descriptors c (take n starts) ∙ length-take-le n starts long

-- names of lists joined
pub named_append : (xs ys : List Descriptor) (n : List ℕ) → named (xs ++ ys) n ≡ (named xs n || named ys n)
named_append [] ys n = rw (named_none n)
named_append (x ∷ xs) ys n = rw (named_cons x (xs ++ ys) n, named_cons x xs n, named_append xs ys n) (or_assoc (same x.name n) (named xs n) (named ys n))

pub named_left : (xs ys : List Descriptor) (n : List ℕ) → named (xs ++ ys) n ≡ false → named xs n ≡ false
named_left xs ys n h = or_false_left (named xs n) (named ys n) (sym (named_append xs ys n) ∙ h)
