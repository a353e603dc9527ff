-- Check answers 0 exactly on the cards that pass, and 10 with the block that holds the first entry at fault: the walk over the namings in order
-- passes exactly where the rules, which have no order, hold.
use mathlib.Core.Path.{◌≡◌, refl, sym, ap, ◌∙◌, subst}
use mathlib.Core.Logic.{◌⊎◌, inl, inr}
use mathlib.Core.Bool.{Bool, true, false, not, ◌&&◌, ◌||◌}
use mathlib.Core.List.{List, [], ◌∷◌, ◌++◌}
use Prim.Native.Nat.{ℕ, zero, suc, ◌+◌, ◌*◌, ◌/◌, ◌%◌, ◌≤◌, ◌<◌}
use native.Mathlib.Omega.{arith}
use lib.ListN.{length, take, get_or}
use lib.Dec.{eqb, ltb, leb}
use borrow.Author.Tests.{eq-eqb, ne_eqb, le-ltb, le-leb, eqb-true, eqb-false, ltb-true, ltb-false, leb-true}
use Rattle.blocks.specs.Pick.{pick}
use Rattle.blocks.specs.Descriptor.{physical, table_count, no_descriptor}
use Rattle.chains.specs.Chain.{chain, chain_sound}
use Rattle.blocks.specs.declared.numbers.Physical.{Physical}
use Rattle.blocks.specs.declared.descriptor.Descriptor.{Descriptor}
use Rattle.blocks.proofs.BoolLaws.{no, or_true, and_false}
use Rattle.links.proofs.SoundLaws.{form_most, form_layout}
use Rattle.links.proofs.LinkedLaws.{chain_linked, linked_at}
use Rattle.entries.specs.InPlace.{is_in_place}
use Rattle.entries.specs.Entry.{entry_at, phi_at, table_of}
use Rattle.entries.specs.Naming.{Naming, table_namings, tables_namings, phi_namings, namings, among, at_fault, first_fault, check_one}
use Rattle.entries.specs.Rules.{entry_of, PhiRules, TableRules, Rules}
use Rattle.entries.specs.Found.{Verdict, Passed, Fault}
use Rattle.entries.proofs.CheckLaws.{fault_later, fault_here}
use Rattle.calls.specs.declared.answer.Answer.{Answer}
use Rattle.calls.specs.Call.{Check, SpanWrite, answer, accepted}
use Rattle.calls.specs.Parts.{area_bad, descriptors_of}
use Rattle.calls.specs.Check.{or_else, check_all, check_card, is_fault, fault_holder, Passes}
use Rattle.calls.specs.Ladder.{first_row, check_rows, admission}
use Rattle.calls.specs.Meaning.{rows_of, answer_of}
use Rattle.claims.specs.Claims.{CheckClaim, values_of, no_naming, FirstFault, FaultClaim}
use Rattle.calls.proofs.CardLaws.{chain_is}
use Rattle.entries.proofs.TableLaws.{few_tables, table_two, layout_two, table_own}
use Rattle.calls.proofs.Passed.{check_passed, span_write_passed}
use Rattle.changes.proofs.SpanSteps.{SpanPassed}
use Rattle.calls.specs.Step.{is_accepted}

-- the parts of a fault, as tests: p in place, z nil, k counted, a named before, o against the rule on old tables
fault_gives : (p z k a o : Bool) → (not p || (not z && (not k || a)) || o) ≡ false → (p ≡ true) × (z ≡ false → (k ≡ true) × (a ≡ false)) × (o ≡ false)
fault_gives false z k a o e = no (sym e)
fault_gives true true k a o e = (refl, λ q. no (sym q), e)
fault_gives true false false a o e = no (sym e)
fault_gives true false true true o e = no (sym e)
fault_gives true false true false o e = (refl, λ q. (refl, refl), e)

fault_none : (p z k a o : Bool) → p ≡ true → (z ≡ false → (k ≡ true) × (a ≡ false)) → o ≡ false → (not p || (not z && (not k || a)) || o) ≡ false
fault_none p true k a o e f g = rw (e, g)
fault_none p false k a o e f g = rw (e, (f refl).0, (f refl).1, g)

-- an entry that is not at fault: in place, counted where it is set, not named before, and in a table that is no older than it
record Clear (ds : List Descriptor) (d : Descriptor) (before : List ℕ) (e : Naming) : Type 0 where
  placed : is_in_place ds d e.value ≡ true
  counted : (e.value ≡ 0 → ⊥) → e.counted ≡ true
  new : (e.value ≡ 0 → ⊥) → among before e.value ≡ false
  old : d.layout ≡ 2 → e.phi ≡ false → d.alpha.0 ≤ e.value → d.alpha.0 ≤ e.holder

module _ (ds : List Descriptor) (d : Descriptor) (before : List ℕ) (e : Naming) where
  abbrev is_old : Bool
  is_old = eqb d.layout 2 && not e.phi && leb d.alpha.0 e.value && ltb e.holder d.alpha.0

  old_gives : is_old ≡ false → d.layout ≡ 2 → e.phi ≡ false → d.alpha.0 ≤ e.value → d.alpha.0 ≤ e.holder
  old_gives h l p a =
      ltb-false e.holder d.alpha.0
      (by (eqb d.layout 2) e.phi (leb d.alpha.0 e.value) (ltb e.holder d.alpha.0) (eq-eqb d.layout 2 l) p (le-leb d.alpha.0 e.value a) h)
    where
      by : (x y z w : Bool) → x ≡ true → y ≡ false → z ≡ true → (x && not y && z && w) ≡ false → w ≡ false
      by true false true w qx qy qz r = r
      by true true z w qx qy qz r = no (sym qy)
      by true false false w qx qy qz r = no qz
      by false y z w qx qy qz r = no qx

  old_none : (d.layout ≡ 2 → e.phi ≡ false → d.alpha.0 ≤ e.value → d.alpha.0 ≤ e.holder) → is_old ≡ false
  old_none h =
      by (eqb d.layout 2) e.phi (leb d.alpha.0 e.value) (ltb e.holder d.alpha.0)
      (λ l p a. le-ltb e.holder d.alpha.0 (h (eqb-true d.layout 2 l) p (leb-true d.alpha.0 e.value a)))
    where
      by : (x y z w : Bool) → (x ≡ true → y ≡ false → z ≡ true → w ≡ false) → (x && not y && z && w) ≡ false
      by true false true w f = f refl refl refl
      by true true z w f = refl
      by true false false w f = refl
      by false y z w f = refl

  fault_clear : at_fault ds d before e ≡ false → Clear ds d before e
  unfolding at_fault
  fault_clear h =
      let g = fault_gives (is_in_place ds d e.value) (eqb e.value 0) e.counted (among before e.value) is_old h in
      record {
        placed = g.0;
        counted = λ n. (g.1 (ne_eqb e.value 0 n)).0;
        new = λ n. (g.1 (ne_eqb e.value 0 n)).1;
        old = old_gives g.2;
      }

  clear_fault : Clear ds d before e → at_fault ds d before e ≡ false
  unfolding at_fault
  clear_fault k =
      fault_none (is_in_place ds d e.value) (eqb e.value 0) e.counted (among before e.value) is_old k.placed
      (λ z. (k.counted (eqb-false e.value 0 z), k.new (eqb-false e.value 0 z)))
      (old_none k.old)

  -- a walk that passes, by its first entry
  passed_by : (es : List Naming) (f : Bool) → at_fault ds d before e ≡ f → first_fault ds d before (e ∷ es) ≡ Passed → (at_fault ds d before e ≡ false) × (first_fault ds d (e.value ∷ before) es ≡ Passed)
  unfolding is_fault
  passed_by es true q h = no (ap is_fault (sym h ∙ fault_here ds d before e es q))
  passed_by es false q h = (q, sym (fault_later ds d before e es q) ∙ h)

  passed_first : (es : List Naming) → first_fault ds d before (e ∷ es) ≡ Passed → (at_fault ds d before e ≡ false) × (first_fault ds d (e.value ∷ before) es ≡ Passed)
  passed_first es h = passed_by es (at_fault ds d before e) refl h

  first_passed : (es : List Naming) → Clear ds d before e → first_fault ds d (e.value ∷ before) es ≡ Passed → first_fault ds d before (e ∷ es) ≡ Passed
  first_passed es k h = fault_later ds d before e es (clear_fault k) ∙ h

-- values named
among_keep : (v : ℕ) (before : List ℕ) (w : ℕ) → among before w ≡ true → among (v ∷ before) w ≡ true
unfolding among
among_keep v before w h = rw h (or_true (eqb v w))

among_head : (v : ℕ) (before : List ℕ) → among (v ∷ before) v ≡ true
unfolding among
among_head v before = rw (eq-eqb v v refl)

among_none : (v : ℕ) → among [] v ≡ false
unfolding among
among_none v = refl

among_by : (v : ℕ) (before : List ℕ) (w : ℕ) (t : Bool) → eqb v w ≡ t → among (v ∷ before) w ≡ true → (v ≡ w) ⊎ (among before w ≡ true)
unfolding among
among_by v before w true q h = inl (eqb-true v w q)
among_by v before w false q h = inr (rw q at h)

differs_by : (before : List ℕ) (v w : ℕ) (z : Bool) → eqb v 0 ≡ z → ((v ≡ 0 → ⊥) → among before v ≡ false) → ((w ≡ 0 → ⊥) → among before w ≡ true) → v ≡ w → v ≡ 0
differs_by before v w true q f g e = eqb-true v 0 q
differs_by before v w false q f g e =
    let n = eqb-false v 0 q in
    no (sym (f n) ∙ ap (among before) e ∙ g (λ z. n (e ∙ z)))

-- a value that was not named before is none of those named, unless nil
differs : (before : List ℕ) (v w : ℕ) → ((v ≡ 0 → ⊥) → among before v ≡ false) → ((w ≡ 0 → ⊥) → among before w ≡ true) → v ≡ w → v ≡ 0
differs before v w f g e = differs_by before v w (eqb v 0) refl f g e

-- what holds of each number below n and of n
extend_by : (P : ℕ → Type 0) (n : ℕ) → ((x : ℕ) → x < n → P x) → P n → (x : ℕ) → x < suc n → (t : Bool) → eqb x n ≡ t → P x
extend_by P n f p x h true q = subst P (sym (eqb-true x n q)) p
extend_by P n f p x h false q = f x (omega (arith, eqb-false x n q))

extend : (P : ℕ → Type 0) (n : ℕ) → ((x : ℕ) → x < n → P x) → P n → (x : ℕ) → x < suc n → P x
extend P n f p x h = extend_by P n f p x h (eqb x n) refl

-- the rules of the first i entries of Phi and the first m entries of the tables
record Flat (c : List ℕ) (ds : List Descriptor) (d : Descriptor) (i m : ℕ) : Type 0 where
  phi_placed : (x : ℕ) → x < i → is_in_place ds d (phi_at c d x) ≡ true
  phi_counted : (x : ℕ) → x < i → table_count d.volume ≤ x → phi_at c d x ≡ 0
  phi_once : (x : ℕ) → x < i → (y : ℕ) → y < x → phi_at c d x ≡ phi_at c d y → phi_at c d x ≡ 0
  apart : (x : ℕ) → x < i → (l : ℕ) → l < m → phi_at c d x ≡ entry_of c d l → phi_at c d x ≡ 0
  placed : (l : ℕ) → l < m → is_in_place ds d (entry_of c d l) ≡ true
  counted : (l : ℕ) → l < m → d.volume ≤ l → entry_of c d l ≡ 0
  once : (l : ℕ) → l < m → (k : ℕ) → k < l → entry_of c d l ≡ entry_of c d k → entry_of c d l ≡ 0
  above : (l : ℕ) → l < m → d.layout ≡ 2 → d.alpha.0 ≤ entry_of c d l → (entry_of c d l ≡ 0 → ⊥) → d.alpha.0 ≤ table_of c d (l / 128)

-- they are named before
record Held (c : List ℕ) (d : Descriptor) (before : List ℕ) (i m : ℕ) : Type 0 where
  phi : (x : ℕ) → x < i → among before (phi_at c d x) ≡ true
  entry : (l : ℕ) → l < m → (entry_of c d l ≡ 0 → ⊥) → among before (entry_of c d l) ≡ true

-- nothing else is
unfoldable Source : List ℕ → Descriptor → ℕ → ℕ → ℕ → Type 0
Source c d i m v = ((x : ℕ) × (x < i) × (phi_at c d x ≡ v)) ⊎ ((l : ℕ) × (l < m) × (entry_of c d l ≡ v))

record Only (c : List ℕ) (d : Descriptor) (before : List ℕ) (i m : ℕ) : Type 0 where
  from : (v : ℕ) → among before v ≡ true → (v ≡ 0 → ⊥) → Source c d i m v

nil_placed : (ds : List Descriptor) (d : Descriptor) (v : ℕ) → v ≡ 0 → is_in_place ds d v ≡ true
unfolding is_in_place
nil_placed ds d v e = rw (eq-eqb v 0 e)

module _ (c : List ℕ) (ds : List Descriptor) (d : Descriptor) where
  abbrev phi_naming : ℕ → Naming
  phi_naming i = record { holder = d.alpha.0; value = phi_at c d i; counted = ltb i (table_count d.volume); phi = true }

  abbrev entry_naming : ℕ → ℕ → ℕ → Naming
  entry_naming h v l = record { holder = h; value = v; counted = ltb l d.volume; phi = false }

  uncounted_by : (v l n : ℕ) → ((v ≡ 0 → ⊥) → ltb l n ≡ true) → n ≤ l → (z : Bool) → eqb v 0 ≡ z → v ≡ 0
  uncounted_by v l n f h true q = eqb-true v 0 q
  uncounted_by v l n f h false q = absurd (omega (arith, ltb-true l n (f (eqb-false v 0 q))))

  -- one entry more
  flat_phi : (before : List ℕ) (i m : ℕ) → Flat c ds d i m → Held c d before i m → Clear ds d before (phi_naming i) → Flat c ds d (suc i) m
  flat_phi before i m f h k =
      record {
        phi_placed = extend (λ (x : ℕ). is_in_place ds d (phi_at c d x) ≡ true) i f.phi_placed k.placed;
        phi_counted = extend (λ (x : ℕ). table_count d.volume ≤ x → phi_at c d x ≡ 0) i f.phi_counted
            (λ l. uncounted_by (phi_at c d i) i (table_count d.volume) k.counted l (eqb (phi_at c d i) 0) refl);
        phi_once = extend (λ (x : ℕ). (y : ℕ) → y < x → phi_at c d x ≡ phi_at c d y → phi_at c d x ≡ 0) i f.phi_once
            (λ y l e. differs before (phi_at c d i) (phi_at c d y) k.new (λ n. h.phi y l) e);
        apart = extend (λ (x : ℕ). (l : ℕ) → l < m → phi_at c d x ≡ entry_of c d l → phi_at c d x ≡ 0) i f.apart
            (λ l q e. differs before (phi_at c d i) (entry_of c d l) k.new (h.entry l q) e);
        placed = f.placed;
        counted = f.counted;
        once = f.once;
        above = f.above;
      }

  held_phi : (before : List ℕ) (i m : ℕ) → Held c d before i m → Held c d (phi_at c d i ∷ before) (suc i) m
  held_phi before i m h =
      record {
        phi = extend (λ (x : ℕ). among (phi_at c d i ∷ before) (phi_at c d x) ≡ true) i (λ x l. among_keep (phi_at c d i) before (phi_at c d x) (h.phi x l)) (among_head (phi_at c d i) before);
        entry = λ l q n. among_keep (phi_at c d i) before (entry_of c d l) (h.entry l q n);
      }

  flat_entry : (before : List ℕ) (i m holder : ℕ) → holder ≡ table_of c d (m / 128) → Flat c ds d i m → Held c d before i m → Clear ds d before (entry_naming holder (entry_of c d m) m) → Flat c ds d i (suc m)
  flat_entry before i m holder is f h k =
      record {
        phi_placed = f.phi_placed;
        phi_counted = f.phi_counted;
        phi_once = f.phi_once;
        apart = λ x q. extend (λ (l : ℕ). phi_at c d x ≡ entry_of c d l → phi_at c d x ≡ 0) m (f.apart x q)
            (λ e. e ∙ differs before (entry_of c d m) (phi_at c d x) k.new (λ n. h.phi x q) (sym e));
        placed = extend (λ (l : ℕ). is_in_place ds d (entry_of c d l) ≡ true) m f.placed k.placed;
        counted = extend (λ (l : ℕ). d.volume ≤ l → entry_of c d l ≡ 0) m f.counted (λ l. uncounted_by (entry_of c d m) m d.volume k.counted l (eqb (entry_of c d m) 0) refl);
        once = extend (λ (l : ℕ). (x : ℕ) → x < l → entry_of c d l ≡ entry_of c d x → entry_of c d l ≡ 0) m f.once
            (λ x q e. differs before (entry_of c d m) (entry_of c d x) k.new (h.entry x q) e);
        above = extend (λ (l : ℕ). d.layout ≡ 2 → d.alpha.0 ≤ entry_of c d l → (entry_of c d l ≡ 0 → ⊥) → d.alpha.0 ≤ table_of c d (l / 128)) m f.above
            (λ two a n. omega (arith, k.old two refl a, is));
      }

  held_entry : (before : List ℕ) (i m : ℕ) → Held c d before i m → Held c d (entry_of c d m ∷ before) i (suc m)
  held_entry before i m h =
      record {
        phi = λ x q. among_keep (entry_of c d m) before (phi_at c d x) (h.phi x q);
        entry = extend (λ (l : ℕ). (entry_of c d l ≡ 0 → ⊥) → among (entry_of c d m ∷ before) (entry_of c d l) ≡ true) m
            (λ l q n. among_keep (entry_of c d m) before (entry_of c d l) (h.entry l q n))
            (λ n. among_head (entry_of c d m) before);
      }

  -- a nil entry that is not walked
  flat_nil : (i m : ℕ) → entry_of c d m ≡ 0 → Flat c ds d i m → Flat c ds d i (suc m)
  flat_nil i m z f =
      record {
        phi_placed = f.phi_placed;
        phi_counted = f.phi_counted;
        phi_once = f.phi_once;
        apart = λ x q. extend (λ (l : ℕ). phi_at c d x ≡ entry_of c d l → phi_at c d x ≡ 0) m (f.apart x q) (λ e. e ∙ z);
        placed = extend (λ (l : ℕ). is_in_place ds d (entry_of c d l) ≡ true) m f.placed (nil_placed ds d (entry_of c d m) z);
        counted = extend (λ (l : ℕ). d.volume ≤ l → entry_of c d l ≡ 0) m f.counted (λ l. z);
        once = extend (λ (l : ℕ). (x : ℕ) → x < l → entry_of c d l ≡ entry_of c d x → entry_of c d l ≡ 0) m f.once (λ x q e. z);
        above = extend (λ (l : ℕ). d.layout ≡ 2 → d.alpha.0 ≤ entry_of c d l → (entry_of c d l ≡ 0 → ⊥) → d.alpha.0 ≤ table_of c d (l / 128)) m f.above (λ two a n. absurd (n z));
      }

  held_nil : (before : List ℕ) (i m : ℕ) → entry_of c d m ≡ 0 → Held c d before i m → Held c d before i (suc m)
  held_nil before i m z h =
      record {
        phi = h.phi;
        entry = extend (λ (l : ℕ). (entry_of c d l ≡ 0 → ⊥) → among before (entry_of c d l) ≡ true) m h.entry (λ n. absurd (n z));
      }

  -- an entry of a table that stands; of one that is nil
  entry_in_lem : (i j : ℕ) → j < 128 → (table_of c d i ≡ 0 → ⊥) → entry_of c d (128 * i + j) ≡ entry_at c (table_of c d i) j
  unfolding entry_of
  entry_in_lem i j h n =
      let q : (128 * i + j) / 128 ≡ i = omega arith in
      let r : (128 * i + j) % 128 ≡ j = omega arith in
      rw (q, r, ne_eqb (table_of c d i) 0 n)

  entry_nil : (i j : ℕ) → j < 128 → table_of c d i ≡ 0 → entry_of c d (128 * i + j) ≡ 0
  unfolding entry_of
  entry_nil i j h e = let q : (128 * i + j) / 128 ≡ i = omega arith in rw (q, eq-eqb (table_of c d i) 0 e)

  table_index : (i j : ℕ) → j < 128 → table_of c d i ≡ table_of c d ((128 * i + j) / 128)
  table_index i j h = let q : (128 * i + j) / 128 ≡ i = omega arith in rw q

  -- From a walk that passes to the rules.

  -- what the walk has come to: the rules so far, all of them named, and the rest passes
  Reached : ℕ → ℕ → List Naming → Type 0
  Reached i m rest = (before : List ℕ) × Flat c ds d i m × Held c d before i m × (first_fault ds d before rest ≡ Passed)

  table_passes : (n i : ℕ) → (table_of c d i ≡ 0 → ⊥) → (rest : List Naming) (k j : ℕ) → k + j ≡ 128 → (before : List ℕ) → Flat c ds d n (128 * i + j) → Held c d before n (128 * i + j)
      → first_fault ds d before (table_namings c d i (table_of c d i) k j ++ rest) ≡ Passed → Reached n (128 * suc i) rest
  unfolding table_namings Reached
  table_passes n i set rest zero j e before f h p =
      let q : 128 * i + j ≡ 128 * suc i = omega arith in
      (before, subst (λ (m : ℕ). Flat c ds d n m) q f, subst (λ (m : ℕ). Held c d before n m) q h, p)
  table_passes n i set rest (suc k) j e before f h p =
      let is = entry_in_lem i j (omega arith) set in
      let g = passed_first ds d before (entry_naming (table_of c d i) (entry_at c (table_of c d i) j) (128 * i + j)) (table_namings c d i (table_of c d i) k (suc j) ++ rest) p in
      let clear : Clear ds d before (entry_naming (table_of c d i) (entry_of c d (128 * i + j)) (128 * i + j)) =
      rw is (fault_clear ds d before (entry_naming (table_of c d i) (entry_at c (table_of c d i) j) (128 * i + j)) g.0) in
      let q : suc (128 * i + j) ≡ 128 * i + suc j = omega arith in
      let f2 = subst (λ (m : ℕ). Flat c ds d n m) q (flat_entry before n (128 * i + j) (table_of c d i) (table_index i j (omega arith)) f h clear) in
      let h2 = subst (λ (m : ℕ). Held c d (entry_of c d (128 * i + j) ∷ before) n m) q (held_entry before n (128 * i + j) h) in
      let p2 : first_fault ds d (entry_of c d (128 * i + j) ∷ before) (table_namings c d i (table_of c d i) k (suc j) ++ rest) ≡ Passed = rw is g.1 in
      table_passes n i set rest k (suc j) (omega arith) (entry_of c d (128 * i + j) ∷ before) f2 h2 p2

  nil_passes : (n i : ℕ) → table_of c d i ≡ 0 → (before : List ℕ) (k j : ℕ) → k + j ≡ 128 → Flat c ds d n (128 * i + j) → Held c d before n (128 * i + j)
      → Flat c ds d n (128 * suc i) × Held c d before n (128 * suc i)
  nil_passes n i z before zero j e f h =
      let q : 128 * i + j ≡ 128 * suc i = omega arith in
      (subst (λ (m : ℕ). Flat c ds d n m) q f, subst (λ (m : ℕ). Held c d before n m) q h)
  nil_passes n i z before (suc k) j e f h =
      let is = entry_nil i j (omega arith) z in
      let q : suc (128 * i + j) ≡ 128 * i + suc j = omega arith in
      nil_passes n i z before k (suc j) (omega arith)
      (subst (λ (m : ℕ). Flat c ds d n m) q (flat_nil n (128 * i + j) is f))
      (subst (λ (m : ℕ). Held c d before n m) q (held_nil before n (128 * i + j) is h))

  -- layout 1
  own_some : d.layout ≡ 1 → (i : ℕ) → table_of c d i ≡ 0 → ⊥
  own_some e i z = omega (arith, table_own c d i (eq-eqb d.layout 1 e), z)

  tables_pass : d.layout ≡ 1 → (k i : ℕ) (before : List ℕ) → Flat c ds d 0 (128 * i) → Held c d before 0 (128 * i) → first_fault ds d before (tables_namings c d k i) ≡ Passed → Flat c ds d 0 (128 * (i + k))
  unfolding tables_namings Reached
  tables_pass one zero i before f h p = let q : 128 * i ≡ 128 * (i + 0) = omega arith in subst (λ (m : ℕ). Flat c ds d 0 m) q f
  tables_pass one (suc k) i before f h p =
      let q : 128 * i ≡ 128 * i + 0 = omega arith in
      let r = table_passes 0 i (own_some one i) (tables_namings c d k (suc i)) 128 0 (omega arith) before (subst (λ (m : ℕ). Flat c ds d 0 m) q f) (subst (λ (m : ℕ). Held c d before 0 m) q h) p in
      let s : 128 * (suc i + k) ≡ 128 * (i + suc k) = omega arith in
      subst (λ (m : ℕ). Flat c ds d 0 m) s (tables_pass one k (suc i) r.0 r.1 r.2 r.3)

  -- layout 2
  abbrev walked_table : ℕ → List Naming
  walked_table i = pick (ltb i (table_count d.volume) && not (eqb (phi_at c d i) 0)) (table_namings c d i (phi_at c d i) 128 0) []

  walked_none : (i : ℕ) → phi_at c d i ≡ 0 → walked_table i ≡ []
  walked_none i e = rw (eq-eqb (phi_at c d i) 0 e, and_false (ltb i (table_count d.volume)))

  walked_all : (i : ℕ) → (phi_at c d i ≡ 0 → ⊥) → ltb i (table_count d.volume) ≡ true → walked_table i ≡ table_namings c d i (phi_at c d i) 128 0
  walked_all i n e = rw (ne_eqb (phi_at c d i) 0 n, e)

  phi_one : d.layout ≡ 2 → (i : ℕ) (rest : List Naming) (before : List ℕ) → Flat c ds d (suc i) (128 * i) → Held c d before (suc i) (128 * i)
      → ((phi_at c d i ≡ 0 → ⊥) → ltb i (table_count d.volume) ≡ true) → first_fault ds d before (walked_table i ++ rest) ≡ Passed
      → (z : Bool) → eqb (phi_at c d i) 0 ≡ z → Reached (suc i) (128 * suc i) rest
  unfolding Reached
  phi_one two i rest before f h counted p true e =
      let q : 128 * i ≡ 128 * i + 0 = omega arith in
      let nil = eqb-true (phi_at c d i) 0 e in
      let r = nil_passes (suc i) i (table_two c d i two ∙ nil) before 128 0 (omega arith) (subst (λ (m : ℕ). Flat c ds d (suc i) m) q f) (subst (λ (m : ℕ). Held c d before (suc i) m) q h) in
      (before, r.0, r.1, sym (ap (λ (es : List Naming). first_fault ds d before (es ++ rest)) (walked_none i nil)) ∙ p)
  phi_one two i rest before f h counted p false e =
      let q : 128 * i ≡ 128 * i + 0 = omega arith in
      let n = eqb-false (phi_at c d i) 0 e in
      let t = walked_all i n (counted n) ∙ ap (λ (m : ℕ). table_namings c d i m 128 0) (sym (table_two c d i two)) in
      table_passes (suc i) i (λ z. n (sym (table_two c d i two) ∙ z)) rest 128 0 (omega arith) before
      (subst (λ (m : ℕ). Flat c ds d (suc i) m) q f)
      (subst (λ (m : ℕ). Held c d before (suc i) m) q h)
      (sym (ap (λ (es : List Naming). first_fault ds d before (es ++ rest)) t) ∙ p)

  phis_pass : d.layout ≡ 2 → (k i : ℕ) (before : List ℕ) → Flat c ds d i (128 * i) → Held c d before i (128 * i) → first_fault ds d before (phi_namings c d k i) ≡ Passed → Flat c ds d (i + k) (128 * (i + k))
  unfolding phi_namings Reached
  phis_pass two zero i before f h p = let q : i ≡ i + 0 = omega arith in subst (λ (m : ℕ). Flat c ds d m (128 * m)) q f
  phis_pass two (suc k) i before f h p =
      let g = passed_first ds d before (phi_naming i) (walked_table i ++ phi_namings c d k (suc i)) p in
      let clear = fault_clear ds d before (phi_naming i) g.0 in
      let r = phi_one two i (phi_namings c d k (suc i)) (phi_at c d i ∷ before) (flat_phi before i (128 * i) f h clear) (held_phi before i (128 * i) h) clear.counted g.1 (eqb (phi_at c d i) 0) refl in
      let s : suc i + k ≡ i + suc k = omega arith in
      subst (λ (m : ℕ). Flat c ds d m (128 * m)) s (phis_pass two k (suc i) r.0 r.1 r.2 r.3)

  -- From the rules to a walk that passes.
  only_phi : (before : List ℕ) (i m : ℕ) → Only c d before i m → Only c d (phi_at c d i ∷ before) (suc i) m
  unfolding Source
  only_phi before i m o = record { from = λ v a n. by v n (among_by (phi_at c d i) before v (eqb (phi_at c d i) v) refl a) }
    where
      wider : (v : ℕ) → Source c d i m v → Source c d (suc i) m v
      wider v (inl x) = inl (x.0, omega (arith, x.1), x.2)
      wider v (inr x) = inr x

      by : (v : ℕ) → (v ≡ 0 → ⊥) → (phi_at c d i ≡ v) ⊎ (among before v ≡ true) → Source c d (suc i) m v
      by v n (inl e) = inl (i, omega arith, e)
      by v n (inr a) = wider v (o.from v a n)

  only_entry : (before : List ℕ) (i m : ℕ) → Only c d before i m → Only c d (entry_of c d m ∷ before) i (suc m)
  unfolding Source
  only_entry before i m o = record { from = λ v a n. by v n (among_by (entry_of c d m) before v (eqb (entry_of c d m) v) refl a) }
    where
      wider : (v : ℕ) → Source c d i m v → Source c d i (suc m) v
      wider v (inl x) = inl x
      wider v (inr x) = inr (x.0, omega (arith, x.1), x.2)

      by : (v : ℕ) → (v ≡ 0 → ⊥) → (entry_of c d m ≡ v) ⊎ (among before v ≡ true) → Source c d i (suc m) v
      by v n (inl e) = inr (m, omega arith, e)
      by v n (inr a) = wider v (o.from v a n)

  only_wider : (before : List ℕ) (i m k : ℕ) → m ≤ k → Only c d before i m → Only c d before i k
  unfolding Source
  only_wider before i m k l o = record { from = λ v a n. wider v (o.from v a n) }
    where
      wider : (v : ℕ) → Source c d i m v → Source c d i k v
      wider v (inl x) = inl x
      wider v (inr x) = inr (x.0, omega (arith, x.1), x.2)

  counted_by : (v l n : ℕ) → (n ≤ l → v ≡ 0) → (v ≡ 0 → ⊥) → (t : Bool) → ltb l n ≡ t → ltb l n ≡ true
  counted_by v l n f s true q = q
  counted_by v l n f s false q = absurd (s (f (ltb-false l n q)))

  new_by : (before : List ℕ) (i m v : ℕ) → Only c d before i m → (v ≡ 0 → ⊥) → (Source c d i m v → ⊥) → (t : Bool) → among before v ≡ t → among before v ≡ false
  new_by before i m v o n s true q = absurd (s (o.from v q n))
  new_by before i m v o n s false q = q

  phi_source : (i m big more : ℕ) → Flat c ds d big more → i < big → m ≤ more → (phi_at c d i ≡ 0 → ⊥) → Source c d i m (phi_at c d i) → ⊥
  unfolding Source
  phi_source i m big more f l k n (inl x) = n (f.phi_once i l x.0 x.1 (sym x.2))
  phi_source i m big more f l k n (inr x) = n (f.apart i l x.0 (omega (arith, x.1)) (sym x.2))

  entry_source : (i m big more : ℕ) → Flat c ds d big more → i ≤ big → m < more → (entry_of c d m ≡ 0 → ⊥) → Source c d i m (entry_of c d m) → ⊥
  unfolding Source
  entry_source i m big more f l k n (inl x) = n (sym x.2 ∙ f.apart x.0 (omega (arith, x.1)) m k x.2)
  entry_source i m big more f l k n (inr x) = n (f.once m k x.0 x.1 (sym x.2))

  clear_phi : (before : List ℕ) (i m big more : ℕ) → Flat c ds d big more → i < big → m ≤ more → Only c d before i m → Clear ds d before (phi_naming i)
  clear_phi before i m big more f l k o =
      record {
        placed = f.phi_placed i l;
        counted = λ n. counted_by (phi_at c d i) i (table_count d.volume) (f.phi_counted i l) n (ltb i (table_count d.volume)) refl;
        new = λ n. new_by before i m (phi_at c d i) o n (phi_source i m big more f l k n) (among before (phi_at c d i)) refl;
        old = λ two p a. no (sym p);
      }

  above_by : (v a h : ℕ) → ((v ≡ 0 → ⊥) → a ≤ h) → a ≤ v → (z : Bool) → eqb v 0 ≡ z → a ≤ h
  above_by v a h f l true q = omega (arith, eqb-true v 0 q)
  above_by v a h f l false q = f (eqb-false v 0 q)

  clear_entry : (before : List ℕ) (i m big more holder : ℕ) → holder ≡ table_of c d (m / 128) → Flat c ds d big more → i ≤ big → m < more → Only c d before i m → Clear ds d before (entry_naming holder (entry_of c d m) m)
  clear_entry before i m big more holder is f l k o =
      record {
        placed = f.placed m k;
        counted = λ n. counted_by (entry_of c d m) m d.volume (f.counted m k) n (ltb m d.volume) refl;
        new = λ n. new_by before i m (entry_of c d m) o n (entry_source i m big more f l k n) (among before (entry_of c d m)) refl;
        old = λ two p a. above_by (entry_of c d m) d.alpha.0 holder (λ n. omega (arith, f.above m k two a n, is)) a (eqb (entry_of c d m) 0) refl;
      }

  -- the walk over a table, then over the rest
  table_kept : (big more n i : ℕ) → Flat c ds d big more → n ≤ big → 128 * suc i ≤ more → (table_of c d i ≡ 0 → ⊥) → (rest : List Naming)
      → ((before : List ℕ) → Only c d before n (128 * suc i) → first_fault ds d before rest ≡ Passed)
      → (k j : ℕ) → k + j ≡ 128 → (before : List ℕ) → Only c d before n (128 * i + j) → first_fault ds d before (table_namings c d i (table_of c d i) k j ++ rest) ≡ Passed
  unfolding table_namings
  table_kept big more n i f l b set rest later zero j e before o = let q : 128 * i + j ≡ 128 * suc i = omega arith in later before (subst (λ (m : ℕ). Only c d before n m) q o)
  table_kept big more n i f l b set rest later (suc k) j e before o =
      let is = entry_in_lem i j (omega arith) set in
      let q : suc (128 * i + j) ≡ 128 * i + suc j = omega arith in
      let clear = clear_entry before n (128 * i + j) big more (table_of c d i) (table_index i j (omega arith)) f l (omega arith) o in
      let o2 = subst (λ (m : ℕ). Only c d (entry_of c d (128 * i + j) ∷ before) n m) q (only_entry before n (128 * i + j) o) in
      let p = table_kept big more n i f l b set rest later k (suc j) (omega arith) (entry_of c d (128 * i + j) ∷ before) o2 in
      first_passed ds d before (entry_naming (table_of c d i) (entry_at c (table_of c d i) j) (128 * i + j)) (table_namings c d i (table_of c d i) k (suc j) ++ rest) (rw is at clear) (rw is at p)

  tables_kept : d.layout ≡ 1 → (more : ℕ) → Flat c ds d 0 more → (k i : ℕ) → 128 * (i + k) ≤ more → (before : List ℕ) → Only c d before 0 (128 * i) → first_fault ds d before (tables_namings c d k i) ≡ Passed
  unfolding tables_namings first_fault
  tables_kept one more f zero i b before o = refl
  tables_kept one more f (suc k) i b before o =
      let q : 128 * i ≡ 128 * i + 0 = omega arith in
      table_kept 0 more 0 i f (omega arith) (omega arith) (own_some one i) (tables_namings c d k (suc i)) (λ before2 o2. tables_kept one more f k (suc i) (omega arith) before2 o2) 128 0 (omega arith) before
      (subst (λ (m : ℕ). Only c d before 0 m) q o)

  kept_one : d.layout ≡ 2 → (big i : ℕ) → Flat c ds d big (128 * big) → i < big → (rest : List Naming)
      → ((before : List ℕ) → Only c d before (suc i) (128 * suc i) → first_fault ds d before rest ≡ Passed)
      → (before : List ℕ) → Only c d before (suc i) (128 * i) → (z : Bool) → eqb (phi_at c d i) 0 ≡ z → first_fault ds d before (walked_table i ++ rest) ≡ Passed
  kept_one two big i f l rest later before o true e =
      ap (λ (es : List Naming). first_fault ds d before (es ++ rest)) (walked_none i (eqb-true (phi_at c d i) 0 e)) ∙ later before (only_wider before (suc i) (128 * i) (128 * suc i) (omega arith) o)
  kept_one two big i f l rest later before o false e =
      let q : 128 * i ≡ 128 * i + 0 = omega arith in
      let n = eqb-false (phi_at c d i) 0 e in
      let counted = counted_by (phi_at c d i) i (table_count d.volume) (f.phi_counted i l) n (ltb i (table_count d.volume)) refl in
      let t = walked_all i n counted ∙ ap (λ (m : ℕ). table_namings c d i m 128 0) (sym (table_two c d i two)) in
      ap (λ (es : List Naming). first_fault ds d before (es ++ rest)) t
      ∙ table_kept big (128 * big) (suc i) i f (omega arith) (omega arith) (λ z. n (sym (table_two c d i two) ∙ z)) rest later 128 0 (omega arith) before (subst (λ (m : ℕ). Only c d before (suc i) m) q o)

  phis_kept : d.layout ≡ 2 → (big : ℕ) → Flat c ds d big (128 * big) → (k i : ℕ) → i + k ≤ big → (before : List ℕ) → Only c d before i (128 * i) → first_fault ds d before (phi_namings c d k i) ≡ Passed
  unfolding phi_namings first_fault
  phis_kept two big f zero i b before o = refl
  phis_kept two big f (suc k) i b before o =
      first_passed ds d before (phi_naming i) (walked_table i ++ phi_namings c d k (suc i)) (clear_phi before i (128 * i) big (128 * big) f (omega arith) (omega arith) o)
      (kept_one two big i f (omega arith) (phi_namings c d k (suc i)) (λ before2 o2. phis_kept two big f k (suc i) (omega arith) before2 o2) (phi_at c d i ∷ before) (only_phi before i (128 * i) o) (eqb (phi_at c d i) 0) refl)

-- the start of the walk
start_flat : (c : List ℕ) (ds : List Descriptor) (d : Descriptor) → Flat c ds d 0 0
start_flat c ds d =
    record {
      phi_placed = λ x h. absurd (omega arith);
      phi_counted = λ x h. absurd (omega arith);
      phi_once = λ x h. absurd (omega arith);
      apart = λ x h. absurd (omega arith);
      placed = λ l h. absurd (omega arith);
      counted = λ l h. absurd (omega arith);
      once = λ l h. absurd (omega arith);
      above = λ l h. absurd (omega arith);
    }

start_held : (c : List ℕ) (d : Descriptor) → Held c d [] 0 0
start_held c d = record { phi = λ x h. absurd (omega arith); entry = λ l h. absurd (omega arith) }

start_only : (c : List ℕ) (d : Descriptor) → Only c d [] 0 0
start_only c d = record { from = λ v a n. no (sym (among_none v) ∙ a) }

unless_by : (v : ℕ) → ((v ≡ 0 → ⊥) → ⊥) → (z : Bool) → eqb v 0 ≡ z → v ≡ 0
unless_by v f true q = eqb-true v 0 q
unless_by v f false q = absurd (f (eqb-false v 0 q))

unless : (v : ℕ) → ((v ≡ 0 → ⊥) → ⊥) → v ≡ 0
unless v f = unless_by v f (eqb v 0) refl

-- the rules, with no two entries the same, by the order of two indices
same_by : (f : ℕ → ℕ) (l k : ℕ) → (k < l → f l ≡ f k → f l ≡ 0) → (l < k → f k ≡ f l → f k ≡ 0) → f l ≡ f k → (f l ≡ 0 → ⊥) → (s t : Bool) → ltb k l ≡ s → ltb l k ≡ t → l ≡ k
same_by f l k down up e n true t p q = absurd (n (down (ltb-true k l p) e))
same_by f l k down up e n false true p q = absurd (n (e ∙ up (ltb-true l k q) (sym e)))
same_by f l k down up e n false false p q = omega (arith, ltb-false k l p, ltb-false l k q)

module _ (c : List ℕ) (ds : List Descriptor) (d : Descriptor) where
  volume_tables : d.volume ≤ 128 * table_count d.volume
  unfolding table_count
  volume_tables = omega arith

  flat_tables : (i m : ℕ) → Flat c ds d i m → 128 * table_count d.volume ≤ m → TableRules c ds d
  flat_tables i m f b =
      record {
        in_place = λ l h. f.placed l (omega (arith, volume_tables));
        past_volume = λ l h k. f.counted l (omega arith) h;
        once = λ l k hl hk e n.
            same_by (entry_of c d) l k (λ q. f.once l (omega (arith, volume_tables)) k q) (λ q. f.once k (omega (arith, volume_tables)) l q) e n (ltb k l) (ltb l k) refl refl;
      }

  flat_phis : (m : ℕ) → Flat c ds d 112 m → 128 * table_count d.volume ≤ m → table_count d.volume ≤ 112 → d.layout ≡ 2 → PhiRules c ds d
  flat_phis m f b few two =
      record {
        in_place = λ i h. f.phi_placed i (omega arith);
        past_n = λ i h k. f.phi_counted i k h;
        once = λ i k hi hk e n. same_by (phi_at c d) i k (λ q. f.phi_once i (omega arith) k q) (λ q. f.phi_once k (omega arith) i q) e n (ltb k i) (ltb i k) refl refl;
        tables_and_entries = λ i l hi hl e. f.apart i (omega arith) l (omega (arith, volume_tables)) e;
        table_above = λ l h a n. f.above l (omega (arith, volume_tables)) two a n;
      }

  table_nil_entry : (l : ℕ) → table_of c d (l / 128) ≡ 0 → entry_of c d l ≡ 0
  unfolding entry_of
  table_nil_entry l e = rw (eq-eqb (table_of c d (l / 128)) 0 e)

  below_by : (v l n : ℕ) → (n ≤ l → v ≡ 0) → (v ≡ 0 → ⊥) → (t : Bool) → ltb l n ≡ t → l < n
  below_by v l n f s true q = ltb-true l n q
  below_by v l n f s false q = absurd (s (f (ltb-false l n q)))

  placed_by : (v l n : ℕ) → (l < n → is_in_place ds d v ≡ true) → (n ≤ l → v ≡ 0) → (t : Bool) → ltb l n ≡ t → is_in_place ds d v ≡ true
  placed_by v l n f g true q = f (ltb-true l n q)
  placed_by v l n f g false q = nil_placed ds d v (g (ltb-false l n q))

  module _ (i m : ℕ) (tables : TableRules c ds d) (nil : (l : ℕ) → l < m → d.volume ≤ l → entry_of c d l ≡ 0) (few : i ≤ 112) (phis : 0 < i → PhiRules c ds d) (two_phis : d.layout ≡ 2 → PhiRules c ds d) where
    entry_below : (l : ℕ) → l < m → (entry_of c d l ≡ 0 → ⊥) → l < d.volume
    entry_below l h n = below_by (entry_of c d l) l d.volume (nil l h) n (ltb l d.volume) refl

    phi_nil : (x : ℕ) → x < i → table_count d.volume ≤ x → phi_at c d x ≡ 0
    phi_nil x h l = (phis (omega arith)).past_n x l (omega arith)

    phi_below : (x : ℕ) → x < i → (phi_at c d x ≡ 0 → ⊥) → x < table_count d.volume
    phi_below x h n = below_by (phi_at c d x) x (table_count d.volume) (phi_nil x h) n (ltb x (table_count d.volume)) refl

    rules_flat : Flat c ds d i m
    rules_flat =
        record {
          phi_placed = λ x h. placed_by (phi_at c d x) x (table_count d.volume) ((phis (omega arith)).in_place x) (phi_nil x h) (ltb x (table_count d.volume)) refl;
          phi_counted = phi_nil;
          phi_once = λ x h y q e.
              unless (phi_at c d x)
              (λ n. let same : x ≡ y = (phis (omega arith)).once x y (phi_below x h n) (omega (arith, phi_below x h n)) e n in omega arith);
          apart = λ x h l q e.
              unless (phi_at c d x)
              (λ n. n ((phis (omega arith)).tables_and_entries x l (phi_below x h n) (entry_below l q (λ z. n (e ∙ z))) e));
          placed = λ l h. placed_by (entry_of c d l) l d.volume (tables.in_place l) (nil l h) (ltb l d.volume) refl;
          counted = nil;
          once = λ l h k q e.
              unless (entry_of c d l)
              (λ n. let same : l ≡ k = tables.once l k (entry_below l h n) (omega (arith, entry_below l h n)) e n in omega arith);
          above = λ l h two a n. (two_phis two).table_above l (entry_below l h n) a n;
        }

  -- one descriptor, of either layout
  module _ (layout : (eqb d.layout 1 || eqb d.layout 2) ≡ true) (most : d.volume ≤ 14336) where
    two_nil : d.layout ≡ 2 → Rules c ds d → (l : ℕ) → l < 14336 → d.volume ≤ l → (t : Bool) → ltb l (128 * table_count d.volume) ≡ t → entry_of c d l ≡ 0
    two_nil two r l h k true q = r.tables.past_volume l k (ltb-true l (128 * table_count d.volume) q)
    two_nil two r l h k false q =
        let b = ltb-false l (128 * table_count d.volume) q in
        table_nil_entry l (table_two c d (l / 128) two ∙ (r.phi two).past_n (l / 128) (omega arith) (omega arith))

    passed_rules : (o : Bool) → eqb d.layout 1 ≡ o → first_fault ds d [] (pick o (tables_namings c d (table_count d.volume) 0) (phi_namings c d 112 0)) ≡ Passed → Rules c ds d
    passed_rules true e p =
        let one = eqb-true d.layout 1 e in
        let f = tables_pass c ds d one (table_count d.volume) 0 [] (start_flat c ds d) (start_held c d) p in
        record { phi = λ two. absurd (omega (arith, one, two)); tables = flat_tables 0 (128 * (0 + table_count d.volume)) f (omega arith) }
    passed_rules false e p =
        let two = layout_two d.layout layout e in
        let f = phis_pass c ds d two 112 0 [] (start_flat c ds d) (start_held c d) p in
        record { phi = λ q. flat_phis (128 * (0 + 112)) f (omega (arith, few_tables d.volume most)) (few_tables d.volume most) q; tables = flat_tables 112 (128 * (0 + 112)) f (omega (arith, few_tables d.volume most)) }

    rules_passed : (o : Bool) → eqb d.layout 1 ≡ o → Rules c ds d → first_fault ds d [] (pick o (tables_namings c d (table_count d.volume) 0) (phi_namings c d 112 0)) ≡ Passed
    rules_passed true e r =
        let one = eqb-true d.layout 1 e in
        tables_kept c ds d one (128 * table_count d.volume)
        (rules_flat 0 (128 * table_count d.volume) r.tables (λ l h k. r.tables.past_volume l k h) (omega arith) (λ h. absurd (omega arith)) r.phi)
        (table_count d.volume) 0 (omega arith) [] (start_only c d)
    rules_passed false e r =
        let two = layout_two d.layout layout e in
        phis_kept c ds d two 112
        (rules_flat 112 14336 r.tables (λ l h k. two_nil two r l h k (ltb l (128 * table_count d.volume)) refl) (omega arith) (λ h. r.phi two) r.phi)
        112 0 (omega arith) [] (start_only c d)

    one_passed : check_one c ds d ≡ Passed → Rules c ds d
    unfolding check_one namings
    one_passed p = passed_rules (eqb d.layout 1) refl p

    one_kept : Rules c ds d → check_one c ds d ≡ Passed
    unfolding check_one namings
    one_kept r = rules_passed (eqb d.layout 1) refl r

-- all descriptors of a chain
both_passed : (v later : Verdict) → or_else v later ≡ Passed → (v ≡ Passed) × (later ≡ Passed)
unfolding or_else is_fault
both_passed Passed later e = (refl, e)
both_passed (Fault h) later e = no (sym (ap is_fault e))

all_passed : (c : List ℕ) (ds rest : List Descriptor) → check_all c ds rest ≡ Passed → (k : ℕ) → k < length rest → check_one c ds (get_or rest k no_descriptor) ≡ Passed
unfolding check_all
all_passed c ds [] p k h = absurd (omega arith)
all_passed c ds (d ∷ rest) p zero h = (both_passed (check_one c ds d) (check_all c ds rest) p).0
all_passed c ds (d ∷ rest) p (suc k) h = all_passed c ds rest (both_passed (check_one c ds d) (check_all c ds rest) p).1 k (omega arith)

all_kept : (c : List ℕ) (ds rest : List Descriptor) → ((k : ℕ) → k < length rest → check_one c ds (get_or rest k no_descriptor) ≡ Passed) → check_all c ds rest ≡ Passed
unfolding check_all or_else
all_kept c ds [] f = refl
all_kept c ds (d ∷ rest) f = rw (f 0 (omega arith)) (all_kept c ds rest (λ k h. f (suc k) (omega arith)))

no_fault : (v : Verdict) → is_fault v ≡ false → v ≡ Passed
unfolding is_fault
no_fault Passed e = refl
no_fault (Fault h) e = no (sym e)

passed_fault : (v : Verdict) → v ≡ Passed → is_fault v ≡ false
unfolding is_fault
passed_fault v e = rw e

-- a card with a sound chain
module _ (c : List ℕ) (sound : chain_sound (chain c) ≡ true) where
  region_rules : (k : ℕ) → k < length (descriptors_of c)
      → ((eqb (get_or (descriptors_of c) k no_descriptor).layout 1 || eqb (get_or (descriptors_of c) k no_descriptor).layout 2) ≡ true) × ((get_or (descriptors_of c) k no_descriptor).volume ≤ 14336)
  region_rules k h =
      let r = linked_at (chain_linked c (descriptors_of c) (chain_is (chain c) sound)) k h in
      (form_layout c _ (get_or (descriptors_of c) k no_descriptor) r.form, form_most c _ (get_or (descriptors_of c) k no_descriptor) r.form)

  check_rules : (k : ℕ) → k < length (descriptors_of c) → check_one c (descriptors_of c) (get_or (descriptors_of c) k no_descriptor) ≡ Passed → Rules c (descriptors_of c) (get_or (descriptors_of c) k no_descriptor)
  check_rules k h p = one_passed c (descriptors_of c) (get_or (descriptors_of c) k no_descriptor) (region_rules k h).0 (region_rules k h).1 p

  rules_check : (k : ℕ) → k < length (descriptors_of c) → Rules c (descriptors_of c) (get_or (descriptors_of c) k no_descriptor) → check_one c (descriptors_of c) (get_or (descriptors_of c) k no_descriptor) ≡ Passed
  rules_check k h r = one_kept c (descriptors_of c) (get_or (descriptors_of c) k no_descriptor) (region_rules k h).0 (region_rules k h).1 r

-- the rows of check
accepted_rows : (c : List ℕ) → answer_of Check c ≡ accepted → (area_bad c ≡ false) × (chain_sound (chain c) ≡ true) × (is_fault (check_card c) ≡ false)
accepted_rows c e = let h = check_passed c (ap is_accepted e) in (h.area, h.sound, h.faultless)

rows_accepted : (c : List ℕ) → area_bad c ≡ false → not (chain_sound (chain c)) ≡ false → is_fault (check_card c) ≡ false → answer_of Check c ≡ accepted
unfolding answer_of rows_of admission check_rows first_row
rows_accepted c a s f = rw (a, s, f)

accepted_passes : (c : List ℕ) → answer_of Check c ≡ accepted → Passes c
unfolding check_card
accepted_passes c e =
    let r = accepted_rows c e in
    let sound = r.1 in
    record {
      area = r.0;
      sound = sound;
      rules = λ k h. check_rules c sound k h (all_passed c (descriptors_of c) (descriptors_of c) (no_fault (check_card c) r.2) k h);
    }

passes_accepted : (c : List ℕ) → Passes c → answer_of Check c ≡ accepted
unfolding check_card
passes_accepted c p =
    rows_accepted c p.area (ap not p.sound)
    (passed_fault (check_card c) (all_kept c (descriptors_of c) (descriptors_of c) (λ k h. rules_check c p.sound k h (p.rules k h))))

-- the same by the verdict alone, and what it gives a span write
pub faultless_passes : (c : List ℕ) → area_bad c ≡ false → chain_sound (chain c) ≡ true → is_fault (check_card c) ≡ false → Passes c
faultless_passes c a s f = accepted_passes c (rows_accepted c a (ap not s) f)

pub passes_faultless : (c : List ℕ) → Passes c → is_fault (check_card c) ≡ false
passes_faultless c p = (accepted_rows c (passes_accepted c p)).2

pub span_allowed : (c : List ℕ) (o : ℕ) (bytes : List ℕ) → is_accepted (answer_of (SpanWrite o bytes) c) ≡ true → SpanPassed c o bytes
span_allowed c o bytes e =
    let h = span_write_passed c o bytes e in
    record { passes = faultless_passes c h.area h.sound h.faultless; upto = h.upto; room = h.room }

-- check answers 0 exactly on the cards that pass
pub check_claim : CheckClaim
unfolding CheckClaim
check_claim c = (accepted_passes c, passes_accepted c)

-- The first fault.

-- the naming at which a walk stops
record StopsAt (ds : List Descriptor) (d : Descriptor) (before : List ℕ) (es : List Naming) (place n : ℕ) : Type 0 where
  walked : n < length es
  before_it : (j : ℕ) → j < n → at_fault ds d (values_of before (take j es)) (get_or es j no_naming) ≡ false
  here : at_fault ds d (values_of before (take n es)) (get_or es n no_naming) ≡ true
  holder : (get_or es n no_naming).holder ≡ place

module _ (ds : List Descriptor) (d : Descriptor) where
  stop_here : (before : List ℕ) (e : Naming) (es : List Naming) (place : ℕ) → at_fault ds d before e ≡ true → e.holder ≡ place → StopsAt ds d before (e ∷ es) place 0
  unfolding values_of
  stop_here before e es place q h = record { walked = omega arith; before_it = λ j l. absurd (omega arith); here = q; holder = h }

  stop_later : (before : List ℕ) (e : Naming) (es : List Naming) (place n : ℕ) → at_fault ds d before e ≡ false → StopsAt ds d (e.value ∷ before) es place n → StopsAt ds d before (e ∷ es) place (suc n)
  unfolding values_of
  stop_later before e es place n q s = record { walked = omega (arith, s.walked); before_it = earlier; here = s.here; holder = s.holder }
    where
      earlier : (j : ℕ) → j < suc n → at_fault ds d (values_of before (take j (e ∷ es))) (get_or (e ∷ es) j no_naming) ≡ false
      earlier zero l = q
      earlier (suc j) l = s.before_it j (omega arith)

  fault_place : (x y : Physical) → Fault x ≡ Fault y → x.0 ≡ y.0
  unfolding fault_holder
  fault_place x y e = ap fault_holder e

  fault_stops : (es : List Naming) (before : List ℕ) (h : Physical) → first_fault ds d before es ≡ Fault h → (n : ℕ) × StopsAt ds d before es h.0 n
  unfolding first_fault is_fault
  fault_stops [] before h p = no (ap is_fault p)
  fault_stops (e ∷ es) before h p = by (at_fault ds d before e) refl (fault_stops es (e.value ∷ before) h)
    where
      by : (f : Bool) → at_fault ds d before e ≡ f → (first_fault ds d (e.value ∷ before) es ≡ Fault h → (n : ℕ) × StopsAt ds d (e.value ∷ before) es h.0 n) → (n : ℕ) × StopsAt ds d before (e ∷ es) h.0 n
      by true q later = (0, stop_here before e es h.0 q (fault_place (physical e.holder) h (sym (fault_here ds d before e es q) ∙ p)))
      by false q later = let r = later (sym (fault_later ds d before e es q) ∙ p) in (suc r.0, stop_later before e es h.0 r.0 q r.1)

  stops_fault : (es : List Naming) (before : List ℕ) (place n : ℕ) → StopsAt ds d before es place n → first_fault ds d before es ≡ Fault (physical place)
  unfolding values_of
  stops_fault [] before place n s = absurd (omega (arith, s.walked))
  stops_fault (e ∷ es) before place zero s = fault_here ds d before e es s.here ∙ ap (λ (x : ℕ). Fault (physical x)) s.holder
  stops_fault (e ∷ es) before place (suc n) s =
      fault_later ds d before e es (s.before_it 0 (omega arith))
      ∙ stops_fault es (e.value ∷ before) place n
      (record { walked = omega (arith, s.walked); before_it = λ j l. s.before_it (suc j) (omega arith); here = s.here; holder = s.holder })

-- the descriptor at which check stops
record FaultAt (c : List ℕ) (ds rest : List Descriptor) (h : Physical) (k : ℕ) : Type 0 where
  inside : k < length rest
  earlier : (j : ℕ) → j < k → check_one c ds (get_or rest j no_descriptor) ≡ Passed
  here : check_one c ds (get_or rest k no_descriptor) ≡ Fault h

module _ (c : List ℕ) (ds : List Descriptor) (h : Physical) where
  fault_after : (d : Descriptor) (rest : List Descriptor) (k : ℕ) → check_one c ds d ≡ Passed → FaultAt c ds rest h k → FaultAt c ds (d ∷ rest) h (suc k)
  fault_after d rest k p f = record { inside = omega (arith, f.inside); earlier = before; here = f.here }
    where
      before : (j : ℕ) → j < suc k → check_one c ds (get_or (d ∷ rest) j no_descriptor) ≡ Passed
      before zero l = p
      before (suc j) l = f.earlier j (omega arith)

  fault_by : (d : Descriptor) (rest : List Descriptor) → (check_all c ds rest ≡ Fault h → (k : ℕ) × FaultAt c ds rest h k)
      → (v : Verdict) → check_one c ds d ≡ v → or_else v (check_all c ds rest) ≡ Fault h → (k : ℕ) × FaultAt c ds (d ∷ rest) h k
  unfolding or_else
  fault_by d rest later Passed q p = let r = later p in (suc r.0, fault_after d rest r.0 q r.1)
  fault_by d rest later (Fault x) q p = (0, record { inside = omega arith; earlier = λ j l. absurd (omega arith); here = q ∙ p })

  all_fault : (rest : List Descriptor) → check_all c ds rest ≡ Fault h → (k : ℕ) × FaultAt c ds rest h k
  unfolding check_all is_fault
  all_fault [] p = no (ap is_fault p)
  all_fault (d ∷ rest) p = fault_by d rest (all_fault rest) (check_one c ds d) refl p

  fault_all : (rest : List Descriptor) (k : ℕ) → FaultAt c ds rest h k → check_all c ds rest ≡ Fault h
  unfolding check_all or_else
  fault_all [] k f = absurd (omega (arith, f.inside))
  fault_all (d ∷ rest) zero f = rw f.here
  fault_all (d ∷ rest) (suc k) f =
      rw (f.earlier 0 (omega arith))
      (fault_all rest k (record { inside = omega (arith, f.inside); earlier = λ j l. f.earlier (suc j) (omega arith); here = f.here }))

-- the answer of check on a card with a sound chain, by its verdict
verdict_answer : (c : List ℕ) → area_bad c ≡ false → not (chain_sound (chain c)) ≡ false → answer_of Check c ≡ pick (is_fault (check_card c)) (answer 10 (fault_holder (check_card c))) accepted
unfolding answer_of rows_of admission check_rows first_row
verdict_answer c a s = rw (a, s)

answer_fault : (v : Verdict) (place : ℕ) → pick (is_fault v) (answer 10 (fault_holder v)) accepted ≡ answer 10 place → (h : Physical) × (v ≡ Fault h) × (h.0 ≡ place)
unfolding is_fault fault_holder
answer_fault Passed place e = let z : ◌≡◌ {A = ℕ} 0 10 = ap (λ (a : Answer). a.number) e in absurd (omega arith)
answer_fault (Fault h) place e = (h, refl, ap (λ (a : Answer). a.place) e)

fault_answer : (v : Verdict) (place : ℕ) → v ≡ Fault (physical place) → pick (is_fault v) (answer 10 (fault_holder v)) accepted ≡ answer 10 place
unfolding is_fault fault_holder
fault_answer v place e = rw e

module _ (c : List ℕ) (place : ℕ) (area : area_bad c ≡ false) (sound : chain_sound (chain c) ≡ true) where
  answer_first : answer_of Check c ≡ answer 10 place → FirstFault c place
  unfolding check_card check_one
  answer_first e =
      let v = answer_fault (check_card c) place (sym (verdict_answer c area (ap not sound)) ∙ e) in
      let f = all_fault c (descriptors_of c) v.0 (descriptors_of c) v.1 in
      let d = get_or (descriptors_of c) f.0 no_descriptor in
      let s = fault_stops (descriptors_of c) d (namings c d) [] v.0 f.1.here in
      record {
        index = f.0;
        inside = f.1.inside;
        earlier = λ k l. check_rules c sound k (omega (arith, f.1.inside)) (f.1.earlier k l);
        naming = s.0;
        walked = s.1.walked;
        before = s.1.before_it;
        here = s.1.here;
        holder = s.1.holder ∙ v.2;
      }

  first_answer : FirstFault c place → answer_of Check c ≡ answer 10 place
  unfolding check_card check_one
  first_answer f =
      let d = get_or (descriptors_of c) f.index no_descriptor in
      let stop = stops_fault (descriptors_of c) d (namings c d) [] place f.naming (record { walked = f.walked; before_it = f.before; here = f.here; holder = f.holder }) in
      let all = fault_all c (descriptors_of c) (physical place) (descriptors_of c) f.index
      (record { inside = f.inside; earlier = λ k l. rules_check c sound k (omega (arith, f.inside)) (f.earlier k l); here = stop }) in
      verdict_answer c area (ap not sound) ∙ fault_answer (check_card c) place all

-- check answers 10 with the block that holds the first entry at fault
pub fault_claim : FaultClaim
unfolding FaultClaim
fault_claim c place area sound = (answer_first c place area sound, first_answer c place area sound)
