-- What find gives of a logical block is its entry, and the table block that holds it.
use mathlib.Core.Path.{◌≡◌, refl, sym, ap, subst, ◌∙◌}
use mathlib.Core.Bool.{Bool, true, false, ◌||◌}
use mathlib.Core.List.{List}
use Prim.Native.Nat.{ℕ, ◌+◌, ◌/◌, ◌%◌, ◌<◌}
use native.Mathlib.Omega.{arith}
use lib.Dec.{eqb}
use borrow.Author.Tests.{eqb-true}
use Rattle.blocks.specs.Pick.{pick}
use Rattle.blocks.specs.Descriptor.{physical}
use Rattle.blocks.specs.declared.numbers.Physical.{Physical}
use Rattle.blocks.specs.declared.descriptor.Descriptor.{Descriptor}
use Rattle.blocks.proofs.BoolLaws.{no}
use Rattle.entries.specs.InPlace.{is_in_place}
use Rattle.entries.specs.Entry.{table_of, entry_at, entry_found, find}
use Rattle.entries.specs.Rules.{entry_of, Rules}
use Rattle.entries.specs.Found.{Misplaced, Entry}
use Rattle.entries.proofs.TableLaws.{own_set, table_own, table_phi, layout_two, group_below}

-- the parts of an entry that was found
parts_of : (m' p : Physical) (m q : ℕ) → Entry (physical m) (physical q) ≡ Entry m' p → (m'.0 ≡ m) × (q ≡ p.0)
parts_of m' p m q e =
    let j : physical m ≡ m' = cc in
    let k : physical q ≡ p = cc in
    (sym (ap (λ (x : Physical). x.0) j), ap (λ (x : Physical). x.0) k)

parts_by : (m' p : Physical) (m q : ℕ) (t : Bool) → pick t (Entry (physical m) (physical q)) (Misplaced (physical m)) ≡ Entry m' p → (m'.0 ≡ m) × (q ≡ p.0)
parts_by m' p m q true e = parts_of m' p m q e
parts_by m' p m q false e = let z : ◌≡◌ {A = ℕ} 0 1 = cc in absurd (omega arith)

through_by : (ds : List Descriptor) (d : Descriptor) (m q : ℕ) (m' p : Physical) → entry_found ds d m q ≡ Entry m' p → (m'.0 ≡ m) × (q ≡ p.0)
unfolding entry_found
through_by ds d m q m' p e = parts_by m' p m q (is_in_place ds d q) e

-- by the tests of find
found_by : (ds : List Descriptor) (d : Descriptor) (m q : ℕ) (m' p : Physical) (o i z : Bool) → (o ≡ true → z ≡ false) → eqb m 0 ≡ z
    → pick o (entry_found ds d m q) (pick i (pick z (Entry (physical 0) (physical 0)) (entry_found ds d m q)) (Misplaced d.alpha)) ≡ Entry m' p
    → (m'.0 ≡ m) × (pick z 0 q ≡ p.0)
found_by ds d m q m' p true i true own h e = no (sym (own refl))
found_by ds d m q m' p true i false own h e = through_by ds d m q m' p e
found_by ds d m q m' p false true true own h e = let r = parts_of m' p 0 0 e in (r.0 ∙ sym (eqb-true m 0 h), r.1)
found_by ds d m q m' p false true false own h e = through_by ds d m q m' p e
found_by ds d m q m' p false false z own h e = let y : ◌≡◌ {A = ℕ} 0 1 = cc in absurd (omega arith)

module _ (c : List ℕ) (ds : List Descriptor) (d : Descriptor) (l : ℕ) (m p : Physical) (is : find c ds d l ≡ Entry m p) where
  found_both : (m.0 ≡ table_of c d (l / 128)) × (entry_of c d l ≡ p.0)
  unfolding find entry_of
  found_both =
      let n : ℕ = table_of c d (l / 128) in
      found_by ds d n (entry_at c n (l % 128)) m p (eqb d.layout 1) (is_in_place ds d n) (eqb n 0) (λ o. own_set c d (l / 128) o) refl is

  pub found_holder : m.0 ≡ table_of c d (l / 128)
  found_holder = found_both.0

  pub found_value : entry_of c d l ≡ p.0
  found_value = found_both.1

-- that table block: in layout 1 one of the descriptor's own, in layout 2 in place
nil_table : (ds : List Descriptor) (d : Descriptor) (m' p : Physical) → Entry (physical 0) (physical 0) ≡ Entry m' p → is_in_place ds d m'.0 ≡ true
unfolding is_in_place
nil_table ds d m' p e = let k : physical 0 ≡ m' = cc in let n : 0 ≡ m'.0 = ap (λ (x : Physical). x.0) k in subst (λ (q : ℕ). is_in_place ds d q ≡ true) n refl

table_by_lem : (ds : List Descriptor) (d : Descriptor) (m q : ℕ) (m' p : Physical) (o i z : Bool) → is_in_place ds d m ≡ i
    → pick o (entry_found ds d m q) (pick i (pick z (Entry (physical 0) (physical 0)) (entry_found ds d m q)) (Misplaced d.alpha)) ≡ Entry m' p
    → o ≡ false → is_in_place ds d m'.0 ≡ true
table_by_lem ds d m q m' p true i z h e u = no (sym u)
table_by_lem ds d m q m' p false true true h e u = nil_table ds d m' p e
table_by_lem ds d m q m' p false true false h e u = subst (λ (x : ℕ). is_in_place ds d x ≡ true) (sym (through_by ds d m q m' p e).0) h
table_by_lem ds d m q m' p false false z h e u = let y : ◌≡◌ {A = ℕ} 0 1 = cc in absurd (omega arith)

module _ (c : List ℕ) (ds : List Descriptor) (d : Descriptor) (l : ℕ) (m p : Physical) (is : find c ds d l ≡ Entry m p) where
  pub found_own : eqb d.layout 1 ≡ true → m.0 ≡ d.alpha.0 + 1 + l / 128
  found_own e = found_holder c ds d l m p is ∙ table_own c d (l / 128) e

  pub found_placed : eqb d.layout 1 ≡ false → is_in_place ds d m.0 ≡ true
  unfolding find
  found_placed =
      let n : ℕ = table_of c d (l / 128) in
      table_by_lem ds d n (entry_at c n (l % 128)) m p (eqb d.layout 1) (is_in_place ds d n) (eqb n 0) refl is

-- through a descriptor that keeps the rules: what is followed is in place, so the table block and the entry are found
rules_by : (ds : List Descriptor) (d : Descriptor) (m e : ℕ) (o i z : Bool) → (o ≡ true → z ≡ false) → (o ≡ false → i ≡ true) → eqb m 0 ≡ z → is_in_place ds d (pick z 0 e) ≡ true
    → pick o (entry_found ds d m e) (pick i (pick z (Entry (physical 0) (physical 0)) (entry_found ds d m e)) (Misplaced d.alpha)) ≡ Entry (physical m) (physical (pick z 0 e))
unfolding entry_found
rules_by ds d m e true i true own phi n h = no (sym (own refl))
rules_by ds d m e true i false own phi n h = rw h
rules_by ds d m e false true true own phi n h = ap (λ (x : ℕ). Entry (physical x) (physical 0)) (sym (eqb-true m 0 n))
rules_by ds d m e false true false own phi n h = rw h
rules_by ds d m e false false z own phi n h = no (phi refl)

pub rules_find : (c : List ℕ) (ds : List Descriptor) (d : Descriptor) → (eqb d.layout 1 || eqb d.layout 2) ≡ true → Rules c ds d → (l : ℕ) → l < d.volume
    → find c ds d l ≡ Entry (physical (table_of c d (l / 128))) (physical (entry_of c d l))
unfolding find entry_of
rules_find c ds d layout r l h =
    let i = l / 128 in
    let m = table_of c d (l / 128) in
    rules_by ds d m (entry_at c m (l % 128)) (eqb d.layout 1) (is_in_place ds d m) (eqb m 0)
    (λ o. own_set c d i o)
    (λ o. rw (table_phi c d i o) ((r.phi (layout_two d.layout layout o)).in_place i (group_below l d.volume h)))
    refl (r.tables.in_place l h)
