-- In place in a chain whose last region is longer, or that has one region more: what was in place stays so, and the new blocks of the last region are.
use mathlib.Core.Path.{◌≡◌, refl, ap, sym}
use mathlib.Core.Bool.{Bool, true, false, not, ◌&&◌, ◌||◌}
use mathlib.Core.List.{List, [], ◌∷◌, ◌++◌}
use Prim.Native.Nat.{ℕ, suc, ◌+◌, ◌≤◌, ◌<◌}
use native.Mathlib.Omega.{arith}
use lib.ListN.{length, get_or}
use lib.Dec.{eqb, ltb, leb}
use borrow.Author.Tests.{ne_eqb, eqb-true, ltb-true, lt-ltb, lt-leb, le-ltb}
use Rattle.blocks.proofs.BoolLaws.{no, and_false, or_false_both, false_or}
use Rattle.blocks.specs.Descriptor.{extended_of, table_count, no_descriptor, renamed_of, linked_of}
use Rattle.blocks.specs.declared.descriptor.Descriptor.{Descriptor}
use Rattle.entries.specs.InPlace.{is_descriptor, is_table, is_in_place}
use Rattle.entries.proofs.LocalLaws.{Region}
use Rattle.blocks.specs.declared.numbers.Physical.{Physical}

-- the blocks of descriptors and of layout 1 tables are the same where the last region is longer
extended_descriptor : (xs : List Descriptor) (d : Descriptor) (k p : ℕ) → is_descriptor (xs ++ (extended_of d k ∷ [])) p ≡ is_descriptor (xs ++ (d ∷ [])) p
unfolding is_descriptor
extended_descriptor [] d k p = refl
extended_descriptor (x ∷ xs) d k p = ap (λ (b : Bool). eqb p x.alpha.0 || b) (extended_descriptor xs d k p)

extended_table : (xs : List Descriptor) (d : Descriptor) (k p : ℕ) → is_table (xs ++ (extended_of d k ∷ [])) p ≡ is_table (xs ++ (d ∷ [])) p
unfolding is_table
extended_table [] d k p = refl
extended_table (x ∷ xs) d k p = ap (λ (b : Bool). (eqb x.layout 1 && ltb x.alpha.0 p && leb p (x.alpha.0 + table_count x.volume)) || b) (extended_table xs d k p)

-- in place is the same for any descriptor
pub extended_placed : (xs : List Descriptor) (d : Descriptor) (k : ℕ) (e : Descriptor) (p : ℕ) → is_in_place (xs ++ (extended_of d k ∷ [])) e p ≡ is_in_place (xs ++ (d ∷ [])) e p
unfolding is_in_place
extended_placed xs d k e p = rw (extended_descriptor xs d k p, extended_table xs d k p)

-- what was in place stays in place
placed_wider : (z o : Bool) (p b k : ℕ) (t : Bool) → ltb p b ≡ t → (z || (t && o)) ≡ true → (z || (ltb p (b + k) && o)) ≡ true
placed_wider true o p b k t e h = refl
placed_wider false o p b k true e h = rw (lt-ltb p (b + k) (omega (arith, ltb-true p b e))) h
placed_wider false o p b k false e h = no h

pub extended_stays : (xs : List Descriptor) (d : Descriptor) (k p : ℕ) → is_in_place (xs ++ (d ∷ [])) d p ≡ true → is_in_place (xs ++ (extended_of d k ∷ [])) (extended_of d k) p ≡ true
unfolding is_in_place
extended_stays xs d k p h =
    rw (extended_descriptor xs d k p, extended_table xs d k p)
    (placed_wider (eqb p 0) (not (is_descriptor (xs ++ (d ∷ [])) p || is_table (xs ++ (d ∷ [])) p)) p d.beta.0 k (ltb p d.beta.0) refl h)

-- no block at or above the end of all regions is a descriptor or a layout 1 table block
no_own : (d : Descriptor) (b q : ℕ) → Region d b → b ≤ q → (o : Bool) → eqb d.layout 1 ≡ o → (o && ltb d.alpha.0 q && leb q (d.alpha.0 + table_count d.volume)) ≡ false
no_own d b q r h true e = rw (lt-leb q (d.alpha.0 + table_count d.volume) (omega (arith, r.own (eqb-true d.layout 1 e), r.upto))) (and_false (ltb d.alpha.0 q))
no_own d b q r h false e = refl

descriptors_above : (ds : List Descriptor) (b q : ℕ) → b ≤ q → ((k : ℕ) → k < length ds → Region (get_or ds k no_descriptor) b) → is_descriptor ds q ≡ false
unfolding is_descriptor
descriptors_above [] b q h r = refl
descriptors_above (d ∷ ds) b q h r =
    let e : Region d b = r 0 (omega arith) in
    rw (ne_eqb q d.alpha.0 (λ x. omega (arith, e.some, e.upto))) (descriptors_above ds b q h (λ k l. r (suc k) (omega arith)))

tables_above : (ds : List Descriptor) (b q : ℕ) → b ≤ q → ((k : ℕ) → k < length ds → Region (get_or ds k no_descriptor) b) → is_table ds q ≡ false
unfolding is_table
tables_above [] b q h r = refl
tables_above (d ∷ ds) b q h r = rw (no_own d b q (r 0 (omega arith)) h (eqb d.layout 1) refl) (tables_above ds b q h (λ k l. r (suc k) (omega arith)))

none_above : (ds : List Descriptor) (b q : ℕ) → b ≤ q → ((k : ℕ) → k < length ds → Region (get_or ds k no_descriptor) b) → (is_descriptor ds q || is_table ds q) ≡ false
none_above ds b q h r = rw (descriptors_above ds b q h r, tables_above ds b q h r)

-- the new blocks of the last region are in place
placed_if : (z : Bool) (p b : ℕ) (o : Bool) → p < b → o ≡ false → (z || (ltb p b && not o)) ≡ true
placed_if true p b o h e = refl
placed_if false p b o h e = rw (lt-ltb p b h, e)

pub extended_new : (xs : List Descriptor) (d : Descriptor) (k j : ℕ) → j < k → ((i : ℕ) → i < length (xs ++ (d ∷ [])) → Region (get_or (xs ++ (d ∷ [])) i no_descriptor) d.beta.0)
    → is_in_place (xs ++ (extended_of d k ∷ [])) (extended_of d k) (d.beta.0 + j) ≡ true
unfolding is_in_place
extended_new xs d k j h r =
    let q = d.beta.0 + j in
    rw (extended_descriptor xs d k q, extended_table xs d k q)
    (placed_if (eqb q 0) q (d.beta.0 + k) (is_descriptor (xs ++ (d ∷ [])) q || is_table (xs ++ (d ∷ [])) q) (omega arith) (none_above (xs ++ (d ∷ [])) d.beta.0 q (omega arith) r))

and_mid : (x y z : Bool) → y ≡ false → (x && y && z) ≡ false
and_mid true false z e = refl
and_mid false y z e = refl
and_mid true true z e = no (sym e)

longer_by : (z b a x y u v : Bool) → (b ≡ true → (a ≡ true) × (x ≡ false → u ≡ false) × (y ≡ false → v ≡ false)) → (z || (b && not (x || y))) ≡ true → (z || (a && not (u || v))) ≡ true
longer_by true b a x y u v f h = refl
longer_by false true a false false u v f h = rw ((f refl).0, (f refl).1 refl, (f refl).2 refl)
longer_by false true a true y u v f h = no h
longer_by false true a false true u v f h = no h
longer_by false false a x y u v f h = no h

-- the descriptors xs and one with the numbers of v, then w, which starts above p
module _ (v : Descriptor) (n : List ℕ) (q : Physical) (w : Descriptor) (p : ℕ) where
  abbrev was : Descriptor
  was = linked_of (renamed_of v n) q

  abbrev in_table : Descriptor → Bool
  in_table x = eqb x.layout 1 && ltb x.alpha.0 p && leb p (x.alpha.0 + table_count x.volume)

  longer_descriptor : p < w.alpha.0 → (xs : List Descriptor) → is_descriptor (xs ++ (v ∷ [])) p ≡ false → is_descriptor (xs ++ (was ∷ w ∷ [])) p ≡ false
  unfolding is_descriptor
  longer_descriptor l [] h =
      false_or (eqb p v.alpha.0) (eqb p w.alpha.0 || false) (or_false_both (eqb p v.alpha.0) false h).0 (false_or (eqb p w.alpha.0) false (ne_eqb p w.alpha.0 (λ k. omega (arith, l, k))) refl)
  longer_descriptor l (x ∷ xs) h =
      let g = or_false_both (eqb p x.alpha.0) (is_descriptor (xs ++ (v ∷ [])) p) h in
      false_or (eqb p x.alpha.0) (is_descriptor (xs ++ (was ∷ w ∷ [])) p) g.0 (longer_descriptor l xs g.1)

  longer_table : p < w.alpha.0 → (xs : List Descriptor) → is_table (xs ++ (v ∷ [])) p ≡ false → is_table (xs ++ (was ∷ w ∷ [])) p ≡ false
  unfolding is_table
  longer_table l [] h =
      false_or (in_table v) (in_table w || false) (or_false_both (in_table v) false h).0
      (false_or (in_table w) false (and_mid (eqb w.layout 1) (ltb w.alpha.0 p) (leb p (w.alpha.0 + table_count w.volume)) (le-ltb w.alpha.0 p (omega (arith, l)))) refl)
  longer_table l (x ∷ xs) h =
      let g = or_false_both (in_table x) (is_table (xs ++ (v ∷ [])) p) h in
      false_or (in_table x) (is_table (xs ++ (was ∷ w ∷ [])) p) g.0 (longer_table l xs g.1)

  pub placed_longer : (xs : List Descriptor) (d x : Descriptor) → d.beta.0 ≤ w.alpha.0 → d.beta.0 ≤ x.beta.0 → is_in_place (xs ++ (v ∷ [])) d p ≡ true → is_in_place (xs ++ (was ∷ w ∷ [])) x p ≡ true
  unfolding is_in_place
  placed_longer xs d x f g h =
      longer_by (eqb p 0) (ltb p d.beta.0) (ltb p x.beta.0) (is_descriptor (xs ++ (v ∷ [])) p) (is_table (xs ++ (v ∷ [])) p) (is_descriptor (xs ++ (was ∷ w ∷ [])) p) (is_table (xs ++ (was ∷ w ∷ [])) p)
      (λ k. let l = ltb-true p d.beta.0 k in (lt-ltb p x.beta.0 (omega (arith, l, g)), longer_descriptor (omega (arith, l, f)) xs, longer_table (omega (arith, l, f)) xs)) h
