-- Logical blocks of one group: they share a table block, so that where the entry of one is found the table block serves the others.
use mathlib.Core.Path.{◌≡◌, refl, sym, ap, ◌∙◌}
use mathlib.Core.Bool.{Bool, true, false, not, ◌&&◌}
use mathlib.Core.List.{List}
use Prim.Native.Nat.{ℕ, zero, suc, ◌+◌, ◌-◌, ◌/◌, ◌%◌, ◌≤◌, ◌<◌}
use native.Mathlib.Omega.{arith}
use lib.Dec.{eqb}
use borrow.Author.Tests.{ne_eqb}
use Rattle.blocks.specs.Pick.{pick}
use Rattle.blocks.specs.Descriptor.{physical}
use Rattle.blocks.specs.declared.numbers.Physical.{Physical}
use Rattle.blocks.specs.declared.descriptor.Descriptor.{Descriptor}
use Rattle.blocks.proofs.BoolLaws.{no}
use Rattle.entries.specs.InPlace.{is_in_place}
use Rattle.entries.specs.Entry.{entry_at, table_of, entry_found, find}
use Rattle.entries.specs.Found.{Found, Misplaced, Entry, Verdict, Passed, Fault}
use Rattle.entries.proofs.FoundLaws.{found_holder}
use Rattle.entries.proofs.TableLaws.{table_own}
use Rattle.calls.specs.Parts.{descriptors_of, found_through, is_misplaced, holder_of}
use Rattle.calls.specs.Check.{or_else, is_fault}
use Rattle.pieces.specs.Span.{span_block, touched}
use Rattle.calls.specs.Spans.{misplaced_from, span_verdict}
use Rattle.spanreading.specs.Fetched.{placed_from}

-- what is found in the same group, by the tests of find: q is the entry of the first, r that of the other
shared_by : (ds : List Descriptor) (d : Descriptor) (m q r : ℕ) (x y : Physical) (o i z : Bool) → (o ≡ true → z ≡ false) → eqb m 0 ≡ z
    → pick o (entry_found ds d m q) (pick i (pick z (Entry (physical 0) (physical 0)) (entry_found ds d m q)) (Misplaced d.alpha)) ≡ Entry x y
    → pick o (entry_found ds d m r) (pick i (pick z (Entry (physical 0) (physical 0)) (entry_found ds d m r)) (Misplaced d.alpha)) ≡ pick (eqb m 0) (Entry (physical 0) (physical 0)) (entry_found ds d m r)
shared_by ds d m q r x y true i true own h e = no (sym (own refl))
shared_by ds d m q r x y true i false own h e = rw h
shared_by ds d m q r x y false true true own h e = rw h
shared_by ds d m q r x y false true false own h e = rw h
shared_by ds d m q r x y false false z own h e = let w : ◌≡◌ {A = ℕ} 0 1 = cc in absurd (omega arith)

-- no block, and no entry
nothing : (c : List ℕ) (d : Descriptor) (l : ℕ) → misplaced_from c d l 0 ≡ Passed
unfolding misplaced_from
nothing c d l = refl

all_placed : (c : List ℕ) (d : Descriptor) (m j : ℕ) → placed_from c d m j 0 ≡ true
unfolding placed_from
all_placed c d m j = refl

module _ (c : List ℕ) (d : Descriptor) (l : ℕ) (m p : Physical) (is : found_through c d l ≡ Entry m p) where
  abbrev ds : List Descriptor
  ds = descriptors_of c

  set_own : (o : Bool) → eqb d.layout 1 ≡ o → o ≡ true → eqb (table_of c d (l / 128)) 0 ≡ false
  set_own o q e = ne_eqb (table_of c d (l / 128)) 0 (λ z. omega (arith, z, table_own c d (l / 128) (q ∙ e)))

  shared : (k : ℕ) → k / 128 ≡ l / 128 → found_through c d k ≡ pick (eqb m.0 0) (Entry (physical 0) (physical 0)) (entry_found ds d m.0 (entry_at c m.0 (k % 128)))
  unfolding find
  shared k g =
      let n = table_of c d (l / 128) in
      rw (g, found_holder c ds d l m p is)
      (shared_by ds d n (entry_at c n (l % 128)) (entry_at c n (k % 128)) m p (eqb d.layout 1) (is_in_place ds d n) (eqb n 0) (set_own (eqb d.layout 1) refl) refl is)

  -- in a table block that is nil, and in one that is set
  nil_at : eqb m.0 0 ≡ true → (k : ℕ) → k / 128 ≡ l / 128 → is_misplaced (found_through c d k) ≡ false
  unfolding is_misplaced
  nil_at z k g = rw (shared k g, z)

  set_by : (q : ℕ) (t : Bool) → (is_misplaced (pick t (Entry (physical m.0) (physical q)) (Misplaced (physical m.0))) ≡ not t)
      × (t ≡ false → holder_of (pick t (Entry (physical m.0) (physical q)) (Misplaced (physical m.0))) ≡ m.0)
  unfolding is_misplaced holder_of
  set_by q true = (refl, λ e. no (sym e))
  set_by q false = (refl, λ e. refl)

  set_at : (eqb m.0 0 ≡ false) → (k : ℕ) → k / 128 ≡ l / 128
      → (is_misplaced (found_through c d k) ≡ not (is_in_place ds d (entry_at c m.0 (k % 128)))) × (is_in_place ds d (entry_at c m.0 (k % 128)) ≡ false → holder_of (found_through c d k) ≡ m.0)
  unfolding entry_found
  set_at z k g = rw (shared k g, z) (set_by (entry_at c m.0 (k % 128)) (is_in_place ds d (entry_at c m.0 (k % 128))))

  -- the k blocks of the group from block j on
  nil_from : eqb m.0 0 ≡ true → (k j : ℕ) → j / 128 ≡ l / 128 → j % 128 + k ≤ 128 → misplaced_from c d j k ≡ Passed
  unfolding misplaced_from
  nil_from z zero j g h = refl
  nil_from z (suc zero) j g h = rw (nil_at z j g)
  nil_from z (suc (suc k)) j g h = rw (nil_at z j g) (nil_from z (suc k) (suc j) (omega arith) (omega arith))

  set_step : (eqb m.0 0 ≡ false) → (j : ℕ) → j / 128 ≡ l / 128 → (later : Verdict) (rest t : Bool) → is_in_place ds d (entry_at c m.0 (j % 128)) ≡ t → later ≡ pick rest Passed (Fault m)
      → pick (is_misplaced (found_through c d j)) (Fault (physical (holder_of (found_through c d j)))) later ≡ pick (t && rest) Passed (Fault m)
  set_step z j g later rest true e q = rw ((set_at z j g).0, e) q
  set_step z j g later rest false e q = rw ((set_at z j g).0, e, (set_at z j g).1 e)

  set_from : (eqb m.0 0 ≡ false) → (k j : ℕ) → j / 128 ≡ l / 128 → j % 128 + k ≤ 128 → misplaced_from c d j k ≡ pick (placed_from c d m.0 (j % 128) k) Passed (Fault m)
  unfolding misplaced_from placed_from
  set_from z zero j g h = refl
  set_from z (suc zero) j g h = set_step z j g Passed true (is_in_place ds d (entry_at c m.0 (j % 128))) refl refl
  set_from z (suc (suc k)) j g h =
      let e : suc j % 128 ≡ suc (j % 128) = omega arith in
      set_step z j g (misplaced_from c d (suc j) (suc k)) (placed_from c d m.0 (suc (j % 128)) (suc k)) (is_in_place ds d (entry_at c m.0 (j % 128))) refl
      (set_from z (suc k) (suc j) (omega arith) (omega (arith, e)) ∙ rw e)

  -- after the first, whose entry was found
  past_first : (k n : ℕ) → k ≡ suc n → misplaced_from c d l k ≡ misplaced_from c d (suc l) n
  unfolding misplaced_from is_misplaced
  past_first k n e = rw (e, is)

  pub rest_nil : eqb m.0 0 ≡ true → (k : ℕ) → 0 < k → l % 128 + k ≤ 128 → Passed ≡ misplaced_from c d l k
  rest_nil z k s h = sym (by (k - 1) (omega arith))
    where
      by : (n : ℕ) → k ≡ suc n → misplaced_from c d l k ≡ Passed
      by zero e = past_first k 0 e ∙ nothing c d (suc l)
      by (suc n) e = past_first k (suc n) e ∙ nil_from z (suc n) (suc l) (omega arith) (omega arith)

  pub rest_set : (eqb m.0 0 ≡ false) → (k : ℕ) → 0 < k → l % 128 + k ≤ 128 → misplaced_from c d l k ≡ pick (placed_from c d m.0 (l % 128 + 1) (k - 1)) Passed (Fault m)
  rest_set z k s h = by (k - 1) refl
    where
      by : (n : ℕ) → k - 1 ≡ n → misplaced_from c d l k ≡ pick (placed_from c d m.0 (l % 128 + 1) (k - 1)) Passed (Fault m)
      by zero e = past_first k 0 (omega arith) ∙ nothing c d (suc l) ∙ rw e (sym (ap (λ (t : Bool). pick t Passed (Fault m)) (all_placed c d m.0 (l % 128 + 1))))
      by (suc n) e =
          let f : suc l % 128 ≡ l % 128 + 1 = omega arith in
          past_first k (suc n) (omega arith) ∙ set_from z (suc n) (suc l) (omega arith) (omega (arith, f)) ∙ rw (e, f)

-- the first entry of a group that is not in place
pub first_fault_lem : (c : List ℕ) (d : Descriptor) (l k : ℕ) → 0 < k → (f : Found) → f ≡ found_through c d l → (h : Physical) → f ≡ Misplaced h → Fault h ≡ misplaced_from c d l k
unfolding misplaced_from is_misplaced holder_of
first_fault_lem c d l zero s f is h e = absurd (omega arith)
first_fault_lem c d l (suc k) s f is h e = rw (← is, e)

-- group after group
split : (c : List ℕ) (d : Descriptor) (a b l : ℕ) → misplaced_from c d l (a + b) ≡ or_else (misplaced_from c d l a) (misplaced_from c d (l + a) b)
unfolding misplaced_from or_else
split c d zero b l = let e : l + 0 ≡ l = omega arith in let f : 0 + b ≡ b = omega arith in rw (e, f)
split c d (suc a) b l =
    let e : l + suc a ≡ suc l + a = omega arith in
    let f : suc a + b ≡ suc (a + b) = omega arith in
    ap (misplaced_from c d l) f ∙ by (is_misplaced (found_through c d l)) (physical (holder_of (found_through c d l))) _ (misplaced_from c d (suc l) a) (misplaced_from c d (l + suc a) b) (split c d a b (suc l) ∙ ap (λ (x : ℕ). or_else (misplaced_from c d (suc l) a) (misplaced_from c d x b)) (sym e))
  where
    by : (t : Bool) (h : Physical) (y z w : Verdict) → y ≡ or_else z w → pick t (Fault h) y ≡ or_else (pick t (Fault h) z) w
    by true h y z w e = refl
    by false h y z w e = e

module _ (c : List ℕ) (d : Descriptor) (first end l k : ℕ) (left : misplaced_from c d first (end - first) ≡ misplaced_from c d l (end - l)) (room : l + k ≤ end) (v : Verdict) (is : v ≡ misplaced_from c d l k) where
  parted : misplaced_from c d first (end - first) ≡ or_else v (misplaced_from c d (l + k) (end - (l + k)))
  parted =
      let e : end - l ≡ k + (end - (l + k)) = omega arith in
      left ∙ ap (misplaced_from c d l) e ∙ split c d k (end - (l + k)) l ∙ ap (λ (x : Verdict). or_else x (misplaced_from c d (l + k) (end - (l + k)))) (sym is)

  pub groups_stop : (h : Physical) → v ≡ Fault h → Fault h ≡ misplaced_from c d first (end - first)
  unfolding or_else
  groups_stop h e = sym (parted ∙ rw e)

  pub groups_more : v ≡ Passed → misplaced_from c d first (end - first) ≡ misplaced_from c d (l + k) (end - (l + k))
  unfolding or_else
  groups_more e = parted ∙ rw e

pub groups_end : (c : List ℕ) (d : Descriptor) (first end l : ℕ) → end ≤ l → misplaced_from c d first (end - first) ≡ misplaced_from c d l (end - l) → Passed ≡ misplaced_from c d first (end - first)
groups_end c d first end l h e = let f : end - l ≡ 0 = omega arith in sym (e ∙ rw f (nothing c d l))

-- where no entry is at fault, none is misplaced
faulty : (h : Physical) → is_fault (Fault h) ≡ true
unfolding is_fault
faulty h = refl

each_by : (f : Found) (v : Verdict) → is_fault (pick (is_misplaced f) (Fault (physical (holder_of f))) v) ≡ false → (is_misplaced f ≡ false) × (is_fault v ≡ false)
each_by f v e = by (is_misplaced f) refl e
  where
    by : (t : Bool) → is_misplaced f ≡ t → is_fault (pick t (Fault (physical (holder_of f))) v) ≡ false → (t ≡ false) × (is_fault v ≡ false)
    by true q e = no (sym e ∙ faulty (physical (holder_of f)))
    by false q e = (refl, e)

placed_from_lem : (c : List ℕ) (d : Descriptor) (k l : ℕ) → is_fault (misplaced_from c d l k) ≡ false → (i : ℕ) → i < k → is_misplaced (found_through c d (l + i)) ≡ false
unfolding misplaced_from
placed_from_lem c d zero l h i q = absurd (omega arith)
placed_from_lem c d (suc k) l h zero q = let e : l + 0 ≡ l = omega arith in rw e (each_by (found_through c d l) (misplaced_from c d (suc l) k) h).0
placed_from_lem c d (suc k) l h (suc i) q = let e : l + suc i ≡ suc l + i = omega arith in rw e (placed_from_lem c d k (suc l) (each_by (found_through c d l) (misplaced_from c d (suc l) k) h).1 i (omega arith))

pub placed_each : (c : List ℕ) (d : Descriptor) (o n : ℕ) → is_fault (span_verdict c d o n) ≡ false → (i : ℕ) → i < touched o n → is_misplaced (found_through c d (span_block o i)) ≡ false
unfolding span_verdict
placed_each c d o n h i q = let e : span_block o 0 + i ≡ span_block o i = omega arith in rw e at (placed_from_lem c d (touched o n) (span_block o 0) h i q)
