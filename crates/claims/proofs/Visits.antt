-- The region that contains a block and what a visit gives, on one card: document 02, W2.
use mathlib.Core.Path.{◌≡◌, refl, sym, ◌∙◌, subst}
use mathlib.Core.Logic.{◌↔◌}
use mathlib.Core.Bool.{Bool, true, false, not, ◌&&◌, ◌||◌}
use mathlib.Core.List.{List, [], ◌∷◌, ◌++◌}
use Prim.Native.Nat.{ℕ, zero, suc, ◌+◌, ◌≤◌, ◌<◌}
use native.Mathlib.Omega.{arith}
use lib.ListN.{length, get_or}
use lib.Dec.{eqb, ltb, leb}
use borrow.Author.Tests.{eq-eqb, ne_eqb, lt-ltb, le-ltb, le-leb, eqb-true, eqb-false, leb-true, leb-false}
use Rattle.blocks.specs.Pick.{pick, same, all_zero}
use Rattle.blocks.specs.Bytes.{store_all}
use Rattle.blocks.specs.Name.{name_byte, name_length, is_name, no_name}
use Rattle.blocks.specs.Descriptor.{physical, no_descriptor, table_count}
use Rattle.blocks.specs.declared.numbers.Physical.{Physical}
use Rattle.blocks.specs.declared.descriptor.Descriptor.{Descriptor}
use Rattle.blocks.proofs.BoolLaws.{no}
use Rattle.blocks.proofs.ListLaws.{same_equal}
use Rattle.blocks.proofs.DescriptorLaws.{cost_least}
use Rattle.chains.specs.Chain.{chain, chain_sound, active_of}
use Rattle.links.proofs.LinkedLaws.{Linked, chain_linked, linked_at, region_start, at_long, at_alpha}
use Rattle.links.proofs.StoredLaws.{form_name}
use Rattle.entries.specs.InPlace.{owner_index, owner_of, is_in_place}
use Rattle.entries.specs.Entry.{phi_at, table_of, find, found_block, located_in, locate}
use Rattle.entries.specs.Naming.{Naming, table_namings, tables_namings, phi_namings, namings, among, at_fault, first_fault, check_one}
use Rattle.entries.specs.Found.{Found, Misplaced, Entry, Fault}
use Rattle.entries.proofs.EntryLaws.{find_placed, placed_below}
use Rattle.entries.proofs.TableLaws.{table_own, own_inside}
use Rattle.entries.proofs.OwnerLaws.{contains_is, is_contained, owner_inside, owner_contains, owner_only, below_end, owner_upto, owner_own, in_place_owner, need_active}
use Rattle.calls.specs.Call.{Target, Call, Read, Visit, Given, NoneGiven, NameGiven}
use Rattle.calls.specs.Parts.{descriptors_of, target_of, found_through}
use Rattle.calls.specs.Ladder.{first_row, admission, read_rows, visit_rows}
use Rattle.calls.specs.Effect.{given_at, visit_given, given_bytes}
use Rattle.calls.specs.Meaning.{rows_of, answer_of, stores_of, filled_of, lent_of, given_of}
use Rattle.calls.specs.Step.{step, done, is_accepted}
use Rattle.calls.proofs.Passed.{visit_passed}
use Rattle.calls.proofs.RowLaws.{fresh, fresh_never}
use Rattle.calls.proofs.CardLaws.{chain_is}
use Rattle.calls.proofs.ActiveLaws.{chain_some, target_member}
use Rattle.claims.specs.Visits.{InRegion, OneRegion, OwnerClaim, at_fault_by, first_fault_by, ByOwnerClaim, given_in, VisitClaim}

-- entries that check walks: each is held by a block below beta, as long as those before it are in place
data Walked (ds : List Descriptor) (d : Descriptor) : List Naming → Type 0 where
  none : Walked ds d []
  then : {e : Naming} {es : List Naming} → e.holder < d.beta.0 → (is_in_place ds d e.value ≡ true → Walked ds d es) → Walked ds d (e ∷ es)

module _ (c : List ℕ) (ds : List Descriptor) (d : Descriptor) where
  table_walked : (i m : ℕ) → m < d.beta.0 → (k j : ℕ) (rest : List Naming) → Walked ds d rest → Walked ds d (table_namings c d i m k j ++ rest)
  unfolding table_namings
  table_walked i m h zero j rest w = w
  table_walked i m h (suc k) j rest w = then h (λ placed. table_walked i m h k (suc j) rest w)

  -- layout 1: the table blocks stand after the descriptor
  tables_walked : ((i : ℕ) → i < table_count d.volume → table_of c d i < d.beta.0) → (k i : ℕ) → i + k ≤ table_count d.volume → Walked ds d (tables_namings c d k i)
  unfolding tables_namings
  tables_walked own zero i h = none
  tables_walked own (suc k) i h = table_walked i (table_of c d i) (own i (omega arith)) 128 0 (tables_namings c d k (suc i)) (tables_walked own k (suc i) (omega arith))

  -- layout 2: a table block that Phi names in place is below beta
  named_walked : (i : ℕ) (rest : List Naming) (b z : Bool) → eqb (phi_at c d i) 0 ≡ z → Walked ds d rest → is_in_place ds d (phi_at c d i) ≡ true
      → Walked ds d (pick (b && not z) (table_namings c d i (phi_at c d i) 128 0) [] ++ rest)
  named_walked i rest true false e w placed = table_walked i (phi_at c d i) (placed_below ds d (phi_at c d i) placed (eqb-false (phi_at c d i) 0 e)) 128 0 rest w
  named_walked i rest true true e w placed = w
  named_walked i rest false z e w placed = w

  phi_walked : d.alpha.0 < d.beta.0 → (k i : ℕ) → Walked ds d (phi_namings c d k i)
  unfolding phi_namings
  phi_walked h zero i = none
  phi_walked h (suc k) i =
      then h (λ placed. named_walked i (phi_namings c d k (suc i)) (ltb i (table_count d.volume)) (eqb (phi_at c d i) 0) refl (phi_walked h k (suc i)) placed)

  namings_walked : d.alpha.0 < d.beta.0 → (d.layout ≡ 1 → d.alpha.0 + table_count d.volume < d.beta.0) → Walked ds d (namings c d)
  unfolding namings
  namings_walked h own = by (eqb d.layout 1) refl
    where
      by : (o : Bool) → eqb d.layout 1 ≡ o → Walked ds d (pick o (tables_namings c d (table_count d.volume) 0) (phi_namings c d 112 0))
      by true e = tables_walked (λ i b. omega (arith, table_own c d i e, own (eqb-true d.layout 1 e))) (table_count d.volume) 0 (omega arith)
      by false e = phi_walked h 112 0

-- a card with a sound chain
module _ (c : List ℕ) (sound : chain_sound (chain c) ≡ true) where
  abbrev ds : List Descriptor
  ds = descriptors_of c

  linked : Linked c [] 0 ds
  linked = chain_linked c ds (chain_is (chain c) sound)

  -- the owner of a block that was found
  owner_given : (d : Descriptor) (l : ℕ) (m p : Physical) → find c ds d l ≡ Entry m p → (p.0 ≡ 0 → ⊥) → (locate c ds d l).owner ≡ owner_index ds p.0
  unfolding locate located_in found_block
  owner_given d l m p found set = rw (found, ne_eqb p.0 0 set)

  module _ (k : ℕ) (counted : k < length ds) where
    abbrev d : Descriptor
    d = get_or ds k no_descriptor

    one_region : (p : ℕ) → is_in_place ds d p ≡ true → (p ≡ 0 → ⊥) → OneRegion c k p
    one_region p placed set =
        let below = placed_below ds d p placed set in
        let end = below_end c ds linked k counted p below in
        record {
          upto = owner_upto c ds linked k counted p below;
          region = contains_is (owner_of ds p) p (owner_contains c ds linked p end);
          only = λ j h r. sym (owner_only c ds linked p end j h (is_contained (get_or ds j no_descriptor) p r.0 r.1));
        }

    -- what 01 says by alpha, by the owner
    own_both : (p : ℕ) → p < d.beta.0 → (d.alpha.0 ≤ p) ↔ (owner_index ds p ≡ k)
    own_both p h =
        let e = owner_own c ds linked k counted p h in (
          λ a. eqb-true (owner_index ds p) k (e ∙ le-leb d.alpha.0 p a),
          λ q. leb-true d.alpha.0 p (sym e ∙ eq-eqb (owner_index ds p) k q),
        )

    above : (h : ℕ) (z : Bool) → leb d.alpha.0 h ≡ z → ltb h d.alpha.0 ≡ not z
    above h true e = le-ltb h d.alpha.0 (leb-true d.alpha.0 h e)
    above h false e = lt-ltb h d.alpha.0 (leb-false d.alpha.0 h e)

    old_table : (v h : ℕ) → v < d.beta.0 → h < d.beta.0 → (x : Bool) → (x && leb d.alpha.0 v && ltb h d.alpha.0) ≡ (x && eqb (owner_index ds v) k && not (eqb (owner_index ds h) k))
    old_table v h a b x = rw (owner_own c ds linked k counted v a, owner_own c ds linked k counted h b, above h (leb d.alpha.0 h) refl)

    opens : d.alpha.0 < d.beta.0
    opens = let r = linked_at linked k counted in omega (arith, at_long c _ _ d r, at_alpha c _ _ d r, r.beta, cost_least d.layout d.volume)

    value_below : (v : ℕ) → is_in_place ds d v ≡ true → v < d.beta.0
    value_below v placed = by (eqb v 0) refl
      where
        by : (z : Bool) → eqb v 0 ≡ z → v < d.beta.0
        by true e = omega (arith, eqb-true v 0 e, opens)
        by false e = placed_below ds d v placed (eqb-false v 0 e)

    fault_by : (b x y z : Bool) → (b ≡ true → y ≡ z) → (not b || x || y) ≡ (not b || x || z)
    fault_by true x y z h = rw (h refl)
    fault_by false x y z h = refl

    fault_both : (before : List ℕ) (e : Naming) → e.holder < d.beta.0 → at_fault ds d before e ≡ at_fault_by ds k before e
    unfolding at_fault at_fault_by
    fault_both before e h =
        rw (← (in_place_owner c ds linked k counted e.value))
        (fault_by (is_in_place ds d e.value) (not (eqb e.value 0) && (not e.counted || among before e.value)) _ _
        (λ placed. old_table e.value e.holder (value_below e.value placed) h (eqb d.layout 2 && not e.phi)))

    -- an entry that is not at fault is in place
    no_fault : (b x y : Bool) → (not b || x || y) ≡ false → b ≡ true
    no_fault true x y e = refl
    no_fault false x y e = no (sym e)

    placed_of : (before : List ℕ) (e : Naming) → at_fault ds d before e ≡ false → is_in_place ds d e.value ≡ true
    unfolding at_fault
    placed_of before e t = no_fault (is_in_place ds d e.value) _ _ t

    -- the two verdicts on such entries are one
    verdict_by : (before : List ℕ) (e : Naming) (es : List Naming) → e.holder < d.beta.0 → (t : Bool) → at_fault ds d before e ≡ t
        → (is_in_place ds d e.value ≡ true → first_fault ds d (e.value ∷ before) es ≡ first_fault_by ds k (e.value ∷ before) es)
        → pick (at_fault ds d before e) (Fault (physical e.holder)) (first_fault ds d (e.value ∷ before) es) ≡ pick (at_fault_by ds k before e) (Fault (physical e.holder)) (first_fault_by ds k (e.value ∷ before) es)
    verdict_by before e es h true t later = rw (← (fault_both before e h), t)
    verdict_by before e es h false t later = rw (← (fault_both before e h), t) (later (placed_of before e t))

    same_verdict : {es : List Naming} (before : List ℕ) → Walked ds d es → first_fault ds d before es ≡ first_fault_by ds k before es
    unfolding first_fault first_fault_by
    same_verdict before none = refl
    same_verdict before (then {e = e} {es = es} h later) = verdict_by before e es h (at_fault ds d before e) refl (λ placed. same_verdict (e.value ∷ before) (later placed))

    check_both : check_one c ds d ≡ first_fault_by ds k [] (namings c d)
    unfolding check_one
    check_both =
        let r = linked_at linked k counted in
        same_verdict [] (namings_walked c ds d opens (λ one. omega (arith, own_inside d d.alpha.0 d.beta.0 one (omega (arith, at_long c _ _ d r, at_alpha c _ _ d r, r.beta)))))

pub owner_claim : OwnerClaim
unfolding OwnerClaim
owner_claim c sound k counted = (
  one_region c sound k counted,
  λ l m p found set. (
    owner_given c sound (get_or (descriptors_of c) k no_descriptor) l m p found set,
    one_region c sound k counted p.0 (find_placed c (descriptors_of c) (get_or (descriptors_of c) k no_descriptor) l m p found) set,
  ),
)

pub by_owner_claim : ByOwnerClaim
unfolding ByOwnerClaim
by_owner_claim c sound = (
  λ k h. record { in_place = in_place_owner c (descriptors_of c) (linked c sound) k h; own = own_both c sound k h; check = check_both c sound k h },
  λ l. need_active c (descriptors_of c) (linked c sound) (length (descriptors_of c)) refl (active_of (descriptors_of c)) refl l (locate c (descriptors_of c) (active_of (descriptors_of c)) l) refl,
)

-- what a call gives
step_given : (k : Call) (c : List ℕ) → (step k c).outcome.given ≡ pick (is_accepted (answer_of k c)) (given_of k c) NoneGiven
unfolding step
step_given k c = by (is_accepted (answer_of k c))
  where
    by : (t : Bool) → (pick t (record { outcome = record { answer = answer_of k c; lent = filled_of k c; given = given_of k c }; card = store_all c (stores_of k c) }) (done (answer_of k c) (lent_of k) c)).outcome.given ≡ pick t (given_of k c) NoneGiven
    by true = refl
    by false = refl

-- no sixteen zeros are a name
zeros_none : is_name no_name ≡ false
unfolding is_name name_length name_byte all_zero
zeros_none = refl

none_named : {n : List ℕ} → NoneGiven ≡ NameGiven n → ⊥
none_named e = let z : ◌≡◌ {A = ℕ} 0 1 = cc in absurd (omega arith)

module _ (c : List ℕ) (target : Target) (name : List ℕ) (l : ℕ) where
  abbrev call : Call
  call = Visit target name l

  abbrev all : List Descriptor
  all = descriptors_of c

  abbrev through : Descriptor
  through = target_of all target name

  same_answer : (block : List ℕ) → length block ≡ 512 → answer_of call c ≡ answer_of (Read target name l block) c
  unfolding answer_of rows_of admission read_rows visit_rows first_row
  same_answer block h = rw (eq-eqb (length block) 512 h)

  not_nine : (answer_of call c).number ≡ 9 → ⊥
  unfolding answer_of rows_of admission visit_rows fresh
  not_nine e = fresh_never (rows_of call c) 9 refl (omega arith) e

  module _ (ok : is_accepted (answer_of call c) ≡ true) where
    pub given_is : (step call c).outcome.given ≡ given_at all (located_in all (find c all through l))
    unfolding given_of visit_given locate
    given_is = step_given call c ∙ rw ok

    whole : chain_sound (chain c) ≡ true
    whole = (visit_passed c target name l ok).sound

    abbrev b : ℕ
    b = found_block (found_through c through l)

    given_by : (z : Bool) → eqb b 0 ≡ z → given_at all (located_in all (find c all through l)) ≡ pick z NoneGiven (NameGiven (owner_of all b).name)
    unfolding given_at located_in
    given_by true e = rw e
    given_by false e = rw e

    given_whole : (step call c).outcome.given ≡ pick (eqb b 0) NoneGiven (NameGiven (owner_of all b).name)
    given_whole = given_is ∙ given_by (eqb b 0) refl

    -- the block that is found is in place through the target, and so in a region of the chain
    below_by : (f : Found) → found_through c through l ≡ f → (found_block f ≡ 0 → ⊥) → (k : ℕ) × (k < length all) × (found_block f < (get_or all k no_descriptor).beta.0)
    unfolding found_block
    below_by (Misplaced h) e set = absurd (set refl)
    below_by (Entry m p) e set =
        let t = target_member all (chain_some c all (chain_is (chain c) whole)) target name (visit_passed c target name l ok).there in
        let found_at = subst (λ (d : Descriptor). find c all d l ≡ Entry m p) t.2 e in
        (t.0, t.1, placed_below all (get_or all t.0 no_descriptor) p.0 (find_placed c all (get_or all t.0 no_descriptor) l m p found_at) set)

    end : (b ≡ 0 → ⊥) → b < region_start 0 all (length all)
    end set = let t = below_by (found_through c through l) refl set in below_end c all (linked c whole) t.0 t.1 b t.2

    in_region : (b ≡ 0 → ⊥) → InRegion (owner_of all b) b
    in_region set = contains_is (owner_of all b) b (owner_contains c all (linked c whole) b (end set))

    owner_name : (b ≡ 0 → ⊥) → is_name (owner_of all b).name ≡ true
    owner_name set = form_name c _ (owner_of all b) (linked_at (linked c whole) (owner_index all b) (owner_inside c all (linked c whole) b (end set))).form

    name_by : (z : Bool) → eqb b 0 ≡ z → (n : List ℕ) → pick z NoneGiven (NameGiven (owner_of all b).name) ≡ NameGiven n → is_name n ≡ true
    name_by true z n g = absurd (none_named g)
    name_by false z n g = let is : (owner_of all b).name ≡ n = cc in subst (λ (x : List ℕ). is_name x ≡ true) is (owner_name (eqb-false b 0 z))

  given_name : (n : List ℕ) → (step call c).outcome.given ≡ NameGiven n → is_name n ≡ true
  given_name n g = by (is_accepted (answer_of call c)) refl
    where
      by : (t : Bool) → is_accepted (answer_of call c) ≡ t → is_name n ≡ true
      by true e = name_by e (eqb (found_block (found_through c through l)) 0) refl n (sym (given_whole e) ∙ g)
      by false e = absurd (none_named (sym (step_given call c ∙ rw e) ∙ g))

  -- the sixteen bytes say what was given
  bytes_by : (g : Given) → ((n : List ℕ) → g ≡ NameGiven n → is_name n ≡ true) → given_in (given_bytes g) ≡ g
  unfolding given_in given_bytes same
  bytes_by NoneGiven h = refl
  bytes_by (NameGiven n) h = by (same n no_name) refl
    where
      by : (t : Bool) → same n no_name ≡ t → pick t NoneGiven (NameGiven n) ≡ NameGiven n
      by true e = no (sym zeros_none ∙ subst (λ (x : List ℕ). is_name x ≡ true) (same_equal n no_name e) (h n refl))
      by false e = refl

pub visit_claim : VisitClaim
unfolding VisitClaim
visit_claim c target name l =
    record {
      answer = same_answer c target name l;
      never_9 = not_nine c target name l;
      given = λ ok. (given_whole c target name l ok, in_region c target name l ok);
      a_name = given_name c target name l;
      bytes = bytes_by c target name l (step (Visit target name l) c).outcome.given (given_name c target name l);
    }
