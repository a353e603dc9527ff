-- The region that contains a block: on a sound chain it is one and exists; it is the one that the search over the starts finds; and 'in place', need and check's rule on
-- old tables by the owner say what document 01 says by beta and alpha.
use mathlib.Core.Path.{◌≡◌, refl, sym, ap, ◌∙◌, subst}
use mathlib.Core.Bool.{Bool, true, false, not, ◌&&◌, ◌||◌}
use mathlib.Core.List.{List, [], ◌∷◌}
use Prim.Native.Nat.{ℕ, suc, ◌+◌, ◌*◌, ◌-◌, ◌/◌, ◌%◌, ◌≤◌, ◌<◌}
use native.Mathlib.Omega.{arith}
use lib.ListN.{length, get_or}
use lib.Dec.{eqb, ltb, leb}
use Rattle.std.specs.Prelude.{Option, None, Some, IfSome, unwrap_or, ok_or, Result, Ok, Err}
use borrow.Author.Tests.{eq-eqb, ne_eqb, lt-ltb, le-ltb, le-leb, eqb-false, ltb-true, ltb-false, leb-true, leb-false}
use Rattle.blocks.specs.Pick.{pick}
use Rattle.blocks.specs.Descriptor.{physical, cost_of, no_descriptor, descriptor_at}
use Rattle.blocks.specs.declared.numbers.Physical.{Physical}
use Rattle.blocks.specs.declared.descriptor.Descriptor.{Descriptor}
use Rattle.blocks.proofs.Tests.{and_left, and_right}
use Rattle.blocks.proofs.BoolLaws.{no}
use Rattle.chains.specs.Chain.{chain, descriptors, active_of, ends, starts_of}
use Rattle.links.proofs.LinkedLaws.{Linked, last, more, sound_alpha, sound_next, region_start, region_start_zero, region_start_suc, linked_rise, linked_at, linked_some, at_alpha, at_cost, active_at, found_inside, RegionAt}
use Rattle.entries.specs.InPlace.{is_descriptor, is_table, contains, owner_index, owner_of, is_in_place, region_of, in_place_at, owner_at}
use Rattle.entries.specs.Entry.{entry_at, table_of, entry_found, find, table_is_new, need, need_by, found_block, located_in, locate}
use Rattle.entries.specs.Through.{Through}
use Rattle.entries.specs.Found.{Found, Misplaced, Entry, Located}
use Rattle.entries.specs.declared.find.Misplaced.{Misplaced as MisplacedEntry}
use Rattle.entries.proofs.RegionLaws.{start_of, outside, through_linked, through_count, through_starts, through_start, through_rising, through_at, in_place_region}
use Rattle.entries.proofs.EntryLaws.{through_end, find_placed, placed_below}

not_not : (b : Bool) → not (not b) ≡ b
not_not true = refl
not_not false = refl

-- a region contains the blocks from alpha up to beta
pub contains_is : (d : Descriptor) (q : ℕ) → contains d q ≡ true → (d.alpha.0 ≤ q) × (q < d.beta.0)
unfolding contains
contains_is d q h = (leb-true d.alpha.0 q (and_left (leb d.alpha.0 q) (ltb q d.beta.0) h), ltb-true q d.beta.0 (and_right (leb d.alpha.0 q) (ltb q d.beta.0) h))

pub is_contained : (d : Descriptor) (q : ℕ) → d.alpha.0 ≤ q → q < d.beta.0 → contains d q ≡ true
unfolding contains
is_contained d q h l = rw (le-leb d.alpha.0 q h, lt-ltb q d.beta.0 l)

contains_from : (d : Descriptor) (q : ℕ) → d.alpha.0 ≤ q → contains d q ≡ ltb q d.beta.0
unfolding contains
contains_from d q h = rw (le-leb d.alpha.0 q h)

-- the owner, by the first descriptor
owner_here : (d : Descriptor) (ds : List Descriptor) (q : ℕ) → d.alpha.0 ≤ q → q < d.beta.0 → owner_index (d ∷ ds) q ≡ 0
unfolding owner_index
owner_here d ds q h l = rw (is_contained d q h l)

owner_later : (d : Descriptor) (ds : List Descriptor) (q : ℕ) → d.alpha.0 ≤ q → d.beta.0 ≤ q → owner_index (d ∷ ds) q ≡ suc (owner_index ds q)
unfolding owner_index
owner_later d ds q h l = rw (contains_from d q h, le-ltb q d.beta.0 l)

region_here : (s t : ℕ) (starts : List ℕ) (q : ℕ) → q < t → region_of (s ∷ t ∷ starts) q ≡ 0
unfolding region_of
region_here s t starts q h = rw (lt-ltb q t h)

region_later : (s t : ℕ) (starts : List ℕ) (q : ℕ) → t ≤ q → region_of (s ∷ t ∷ starts) q ≡ suc (region_of (t ∷ starts) q)
unfolding region_of
region_later s t starts q h = rw (le-ltb q t h)

-- by where the first region ends
owner_by : (d : Descriptor) (ds : List Descriptor) (p q : ℕ) (zs : List ℕ) (t : Bool) → ltb q d.beta.0 ≡ t → d.alpha.0 ≡ p → p ≤ q
    → (d.beta.0 ≤ q → owner_index ds q ≡ region_of (d.beta.0 ∷ zs) q) → owner_index (d ∷ ds) q ≡ region_of (p ∷ d.beta.0 ∷ zs) q
owner_by d ds p q zs true e a h later =
    let b = ltb-true q d.beta.0 e in
    owner_here d ds q (omega arith) b ∙ sym (region_here p d.beta.0 zs q b)
owner_by d ds p q zs false e a h later =
    let b = ltb-false q d.beta.0 e in
    owner_later d ds q (omega arith) b ∙ ap suc (later b) ∙ sym (region_later p d.beta.0 zs q b)

owner_at_lem : (d : Descriptor) (ds : List Descriptor) (q : ℕ) (t : Bool) → ltb q d.beta.0 ≡ t → d.alpha.0 ≤ q
    → (d.beta.0 ≤ q → (owner_index ds q < length ds) × (contains (owner_of ds q) q ≡ true)) → (owner_index (d ∷ ds) q < length (d ∷ ds)) × (contains (owner_of (d ∷ ds) q) q ≡ true)
owner_at_lem d ds q true e h later =
    let b = ltb-true q d.beta.0 e in
    rw (owner_here d ds q h b) (omega arith, is_contained d q h b)
owner_at_lem d ds q false e h later =
    let b = ltb-false q d.beta.0 e in
    let r = later b in
    rw (owner_later d ds q h b) (omega (arith, r.0), r.1)

module _ {c : List ℕ} where
  -- the search over the starts finds the owner; what stands after the regions does not matter
  owner_regions : {es : List Descriptor} {p : ℕ} {ds : List Descriptor} (q : ℕ) → Linked c es p ds → p ≤ q → q < region_start p ds (length ds) → owner_index ds q ≡ region_of (p ∷ ends ds) q
  unfolding ends
  owner_regions q (last {es = es} {p = p} {d = d} is ok z) h l =
      let b : q < d.beta.0 = rw (region_start_suc p d [] 0, region_start_zero d.beta.0 []) at l in
      let a = sound_alpha c es p d is ok in
      owner_here d [] q (omega arith) b ∙ sym (region_here p d.beta.0 [] q b)
  owner_regions q (more {es = es} {p = p} {d = d} {ds = ds} is ok z rest) h l =
      let n = sound_next c es p d is ok z in
      let m : q < region_start d.next.0 ds (length ds) = rw (region_start_suc p d ds (length ds), ← n) at l in
      owner_by d ds p q (ends ds) (ltb q d.beta.0) refl (sound_alpha c es p d is ok) h
      (λ k. subst (λ (b : ℕ). owner_index ds q ≡ region_of (b ∷ ends ds) q) n (owner_regions q rest (omega arith) m))

  -- it is a descriptor of the chain, and its region contains the block
  linked_owner : {es : List Descriptor} {p : ℕ} {ds : List Descriptor} (q : ℕ) → Linked c es p ds → p ≤ q → q < region_start p ds (length ds)
      → (owner_index ds q < length ds) × (contains (owner_of ds q) q ≡ true)
  linked_owner q (last {es = es} {p = p} {d = d} is ok z) h l =
      let b : q < d.beta.0 = rw (region_start_suc p d [] 0, region_start_zero d.beta.0 []) at l in
      let a = sound_alpha c es p d is ok in
      owner_at_lem d [] q (ltb q d.beta.0) refl (omega arith) (λ k. absurd (omega arith))
  linked_owner q (more {es = es} {p = p} {d = d} {ds = ds} is ok z rest) h l =
      let n = sound_next c es p d is ok z in
      let m : q < region_start d.next.0 ds (length ds) = rw (region_start_suc p d ds (length ds), ← n) at l in
      let a = sound_alpha c es p d is ok in
      owner_at_lem d ds q (ltb q d.beta.0) refl (omega arith) (λ k. linked_owner q rest (omega arith) m)

-- the chain of a card, by its descriptors
module _ (c : List ℕ) (ds : List Descriptor) (linked : Linked c [] 0 ds) where
  abbrev at : (k : ℕ) → k < length ds → RegionAt c (region_start 0 ds k) (region_start 0 ds (suc k)) (get_or ds k no_descriptor)
  at k h = linked_at linked k h

  -- one region: an index whose region contains the block is the owner's
  apart : (i k q : ℕ) → i < k → k < length ds → contains (get_or ds i no_descriptor) q ≡ true → contains (get_or ds k no_descriptor) q ≡ true → ⊥
  apart i k q l h a b =
      let x = contains_is (get_or ds i no_descriptor) q a in
      let y = contains_is (get_or ds k no_descriptor) q b in
      omega (arith, x.1, y.0, (at i (omega arith)).beta, at_alpha c _ _ (get_or ds k no_descriptor) (at k h), linked_rise linked (suc i) k (omega arith) (omega arith))

  pub one_owner : (i k q : ℕ) → i < length ds → k < length ds → contains (get_or ds i no_descriptor) q ≡ true → contains (get_or ds k no_descriptor) q ≡ true → i ≡ k
  one_owner i k q h l a b = by (ltb i k) (ltb k i) refl refl
    where
      by : (s t : Bool) → ltb i k ≡ s → ltb k i ≡ t → i ≡ k
      by true t e f = absurd (apart i k q (ltb-true i k e) l a b)
      by false true e f = absurd (apart k i q (ltb-true k i f) h b a)
      by false false e f = omega (arith, ltb-false i k e, ltb-false k i f)

  module _ (q : ℕ) (below : q < region_start 0 ds (length ds)) where
    pub owner_inside : owner_index ds q < length ds
    owner_inside = (linked_owner q linked (omega arith) below).0

    pub owner_contains : contains (owner_of ds q) q ≡ true
    owner_contains = (linked_owner q linked (omega arith) below).1

    pub owner_only : (k : ℕ) → k < length ds → contains (get_or ds k no_descriptor) q ≡ true → owner_index ds q ≡ k
    owner_only k h e = one_owner (owner_index ds q) k q owner_inside h owner_contains e

    -- its region starts at or below the block, and is one of the first k + 1 exactly where that of number k + 1 starts above the block
    pub owner_start : ((owner_of ds q).alpha.0 ≡ region_start 0 ds (owner_index ds q)) × ((owner_of ds q).beta.0 ≡ region_start 0 ds (suc (owner_index ds q)))
    owner_start = let r = at (owner_index ds q) owner_inside in (at_alpha c _ _ (owner_of ds q) r, r.beta)

  -- through descriptor k: the blocks below its beta are below the end of the chain
  module _ (k : ℕ) (counted : k < length ds) where
    abbrev d : Descriptor
    d = get_or ds k no_descriptor

    pub below_end : (q : ℕ) → q < d.beta.0 → q < region_start 0 ds (length ds)
    below_end q h = omega (arith, (at k counted).beta, linked_rise linked (suc k) (length ds) (omega arith) (omega arith))

    -- the owner is no later than k
    pub owner_upto : (q : ℕ) → q < d.beta.0 → owner_index ds q ≤ k
    owner_upto q h = by (leb (owner_index ds q) k) refl
      where
        by : (z : Bool) → leb (owner_index ds q) k ≡ z → owner_index ds q ≤ k
        by true e = leb-true (owner_index ds q) k e
        by false e =
            absurd (omega (
              arith,
              leb-false (owner_index ds q) k e,
              (contains_is (owner_of ds q) q (owner_contains q (below_end q h))).0,
              (owner_start q (below_end q h)).0,
              (at k counted).beta,
              linked_rise linked (suc k) (owner_index ds q) (omega (arith, leb-false (owner_index ds q) k e)) (omega (arith, owner_inside q (below_end q h))),
            ))

    -- it is k exactly where the block is at or above alpha
    pub owner_own : (q : ℕ) → q < d.beta.0 → eqb (owner_index ds q) k ≡ leb d.alpha.0 q
    owner_own q h = by (leb d.alpha.0 q) refl
      where
        by : (z : Bool) → leb d.alpha.0 q ≡ z → eqb (owner_index ds q) k ≡ z
        by true e = eq-eqb (owner_index ds q) k (owner_only q (below_end q h) k counted (is_contained d q (leb-true d.alpha.0 q e) h))
        by false e =
            ne_eqb (owner_index ds q) k
            (λ z. omega (arith, leb-false d.alpha.0 q e, (contains_is d q (subst (λ (j : ℕ). contains (get_or ds j no_descriptor) q ≡ true) z (owner_contains q (below_end q h)))).0))

    -- 'in place' in 01's words, by the owner: nil, or below beta and outside the opening of the region that contains the block
    outside_owner : (q : ℕ) → q < d.beta.0 → not (is_descriptor ds q || is_table ds q) ≡ leb ((owner_of ds q).alpha.0 + cost_of d) q
    unfolding start_of region_start
    outside_owner q h =
        let e = below_end q h in
        outside q linked (omega arith) e ∙ rw (← (owner_regions q linked (omega arith) e), ← (owner_start q e).0, at_cost c _ _ d (at k counted))

    place_by : (z t x y : Bool) → (t ≡ true → x ≡ y) → (z || (t && x)) ≡ (z || (t && y))
    place_by true t x y f = refl
    place_by false true x y f = f refl
    place_by false false x y f = refl

    pub in_place_owner : (q : ℕ) → is_in_place ds d q ≡ (eqb q 0 || (ltb q d.beta.0 && leb ((owner_of ds q).alpha.0 + cost_of d) q))
    unfolding is_in_place
    in_place_owner q = place_by (eqb q 0) (ltb q d.beta.0) _ _ (λ t. outside_owner q (ltb-true q d.beta.0 t))

    -- need by the owner is need by alpha
    module _ (l : ℕ) where
      need_of : (f : Found) → ((m p : Physical) → f ≡ Entry m p → (p.0 ≡ 0 → ⊥) → p.0 < d.beta.0)
          → need_by k d.alpha.0 f (pick (eqb (found_block f) 0) 0 (owner_index ds (found_block f))) ≡ need d.alpha.0 f
      unfolding need_by need found_block
      need_of (Misplaced h) below = refl
      need_of (Entry m p) below = by (eqb p.0 0) refl
        where
          by : (z : Bool) → eqb p.0 0 ≡ z
              → ◌≡◌ {A = ℕ} (pick (not z && eqb (pick z 0 (owner_index ds p.0)) k) 0 (pick (table_is_new d.alpha.0 m.0) 2 1))
              (pick (not z && leb d.alpha.0 p.0) 0 (pick (table_is_new d.alpha.0 m.0) 2 1))
          by true e = refl
          by false e = rw (owner_own p.0 (below m p refl (eqb-false p.0 0 e)))

      pub need_owner : need_by k d.alpha.0 (locate c ds d l).found (locate c ds d l).owner ≡ need d.alpha.0 (find c ds d l)
      unfolding locate located_in
      need_owner = need_of (find c ds d l) (λ m p f n. placed_below ds d p.0 (find_placed c ds d l m p f) n)

-- what finding gives beside the owner is what is found
pub located_found : (c : List ℕ) (ds : List Descriptor) (d : Descriptor) (l : ℕ) (at : Located) → at ≡ locate c ds d l → at.found ≡ find c ds d l
unfolding locate located_in
located_found c ds d l at e = ap (λ (x : Located). x.found) e

-- through a descriptor of the chain
module _ (c starts : List ℕ) (count : ℕ) (d : Descriptor) (t : Through c starts count d) where
  abbrev ds : List Descriptor
  ds = descriptors (chain c)

  abbrev linked : Linked c [] 0 ds
  linked = through_linked c starts count d t

  under_end : (q : ℕ) → q < d.beta.0 → q < region_start 0 ds (length ds)
  under_end q h = omega (arith, (through_rising c starts count d t).upto, through_start c starts count d t count (omega arith), ap (region_start 0 ds) (through_count c starts count d t))

  -- the region that the code finds is the owner
  pub owner_region : (q : ℕ) → q < d.beta.0 → region_of starts q ≡ owner_index ds q
  unfolding starts_of
  owner_region q h =
      ap (λ (l : List ℕ). region_of l q) (through_starts c starts count d t) ∙ sym (owner_regions q linked (omega arith) (under_end q h))

  pub owner_counted : (q : ℕ) → q < d.beta.0 → owner_index ds q < count
  owner_counted q h = omega (arith, owner_inside c ds linked q (under_end q h), through_count c starts count d t)

  -- what the code that looks a block up gives: count where it is not in place, else its region, 0 where it is nil
  module _ (p : Physical) (k : ℕ) (told : k ≡ owner_at starts (cost_of d) d.beta.0 count p.0) where
    placed_by : (b z : Bool) → in_place_at starts (cost_of d) d.beta.0 p.0 ≡ b → eqb p.0 0 ≡ z → (b ≡ true → z ≡ false → p.0 < d.beta.0) → pick b (pick z 0 (region_of starts p.0)) count ≡ k
        → (eqb k count ≡ not b) × (b ≡ true → k ≡ pick z 0 (owner_index ds p.0))
    placed_by true true e f h r = (ne_eqb k count (omega (arith, r, t.inside)), λ q. sym r)
    placed_by true false e f h r =
        let below = h refl refl in
        let o = owner_region p.0 below in
        (ne_eqb k count (omega (arith, r, o, owner_counted p.0 below)), λ q. sym r ∙ o)
    placed_by false z e f h r = (eq-eqb k count (sym r), λ q. no q)

    below_beta : in_place_at starts (cost_of d) d.beta.0 p.0 ≡ true → eqb p.0 0 ≡ false → p.0 < d.beta.0
    below_beta b z = placed_below ds d p.0 (sym (in_place_region c starts count d t p.0) ∙ b) (eqb-false p.0 0 z)

    told_both : (eqb k count ≡ not (in_place_at starts (cost_of d) d.beta.0 p.0)) × (in_place_at starts (cost_of d) d.beta.0 p.0 ≡ true → k ≡ pick (eqb p.0 0) 0 (owner_index ds p.0))
    unfolding owner_at
    told_both = placed_by (in_place_at starts (cost_of d) d.beta.0 p.0) (eqb p.0 0) refl refl below_beta (sym told)

    placed_is : is_in_place ds d p.0 ≡ not (eqb k count)
    placed_is = sym (in_place_region c starts count d t p.0) ∙ sym (ap not told_both.0 ∙ not_not (in_place_at starts (cost_of d) d.beta.0 p.0))

    pub told_misplaced : k ≡ count → is_in_place ds d p.0 ≡ false
    told_misplaced e = placed_is ∙ ap not (eq-eqb k count e)

    pub told_placed : (k ≡ count → ⊥) → is_in_place ds d p.0 ≡ true
    told_placed n = placed_is ∙ ap not (ne_eqb k count n)

    pub told_owner : (k ≡ count → ⊥) → k ≡ pick (eqb p.0 0) 0 (owner_index ds p.0)
    told_owner n = told_both.1 (in_place_region c starts count d t p.0 ∙ told_placed n)

  -- the same as an option, and what the code makes of none
  module _ (p : Physical) (o : Option ℕ) (told : unwrap_or o count ≡ owner_at starts (cost_of d) d.beta.0 count p.0) (holder : Physical) (r : Result ℕ MisplacedEntry) (tested : r ≡ ok_or o (record { 0 = holder })) where
    found_none : (e : MisplacedEntry) → r ≡ Err e → (is_in_place ds d p.0 ≡ false) × (e.0 ≡ holder)
    found_none e f =
        let none : o ≡ None = grind arith in
        (told_misplaced p count (subst (λ x. unwrap_or x count ≡ owner_at starts (cost_of d) d.beta.0 count p.0) none told) refl, grind arith)

    module _ (bound : IfSome o (λ k. k < count)) (k : ℕ) (is : r ≡ Ok k) where
      some : o ≡ Some k
      some = grind arith

      some_told : k ≡ owner_at starts (cost_of d) d.beta.0 count p.0
      some_told = subst (λ x. unwrap_or x count ≡ owner_at starts (cost_of d) d.beta.0 count p.0) some told

      some_below : k ≡ count → ⊥
      some_below = omega (arith, subst (λ x. IfSome x (λ j. j < count)) some bound)

      found_some : (is_in_place ds d p.0 ≡ true) × (k ≡ pick (eqb p.0 0) 0 (owner_index ds p.0))
      found_some = (told_placed p k some_told some_below, told_owner p k some_told some_below)

  -- an entry of a table block, by the tests of the code
  module _ (m : Physical) (j : ℕ) (p : Physical) (is : p ≡ physical (entry_at c m.0 j)) (o : Option ℕ) (told : unwrap_or o count ≡ owner_at starts (cost_of d) d.beta.0 count p.0) (r : Result ℕ MisplacedEntry) (tested : r ≡ ok_or o (record { 0 = m })) where
    value : entry_at c m.0 j ≡ p.0
    value = sym (ap (λ (y : Physical). y.0) is)

    pub entry_misplaced : (e : MisplacedEntry) → r ≡ Err e → ◌≡◌ {A = Located} (record { found = Misplaced e.0; owner = 0 }) (located_in ds (entry_found ds d m.0 (entry_at c m.0 j)))
    unfolding entry_found located_in found_block
    entry_misplaced e f = let g = found_none p o told m r tested e f in rw (value, g.0, g.1)

    pub entry_placed : IfSome o (λ k. k < count) → (k : ℕ) → r ≡ Ok k → ◌≡◌ {A = Located} (record { found = Entry m p; owner = k }) (located_in ds (entry_found ds d m.0 (entry_at c m.0 j)))
    unfolding entry_found located_in found_block
    entry_placed bound k e = let f = found_some p o told m r tested bound k e in rw (value, f.0) (ap (λ (x : ℕ). record { found = Entry m p; owner = x }) f.1)

  -- finding, by the tests of the code
  module _ (l : ℕ) (m : Physical) (is : m ≡ physical (table_of c d (l / 128))) where
    abbrev in_table : Found
    in_table = entry_found ds d m.0 (entry_at c m.0 (l % 128))

    number : table_of c d (l / 128) ≡ m.0
    number = sym (ap (λ (x : Physical). x.0) is)

    pub locate_layout_1 : d.layout ≡ 1 → (r : Located) → r ≡ located_in ds in_table → r ≡ locate c ds d l
    unfolding locate find
    locate_layout_1 e r f = f ∙ rw (eq-eqb d.layout 1 e, number)

    module _ (other : d.layout ≡ 1 → ⊥) (o : Option ℕ) (told : unwrap_or o count ≡ owner_at starts (cost_of d) d.beta.0 count m.0) (r : Result ℕ MisplacedEntry) (tested : r ≡ ok_or o (record { 0 = d.alpha })) where
      pub locate_misplaced : (e : MisplacedEntry) → r ≡ Err e → ◌≡◌ {A = Located} (record { found = Misplaced e.0; owner = 0 }) (locate c ds d l)
      unfolding locate find located_in found_block
      locate_misplaced e f = let g = found_none m o told d.alpha r tested e f in rw (ne_eqb d.layout 1 other, number, g.0, g.1)

      module _ (bound : IfSome o (λ k. k < count)) (k : ℕ) (some : r ≡ Ok k) where
        placed : is_in_place ds d m.0 ≡ true
        placed = (found_some m o told d.alpha r tested bound k some).0

        pub table_on_card : (m.0 ≡ 0 → ⊥) → 512 * m.0 + 512 ≤ length c
        table_on_card z = omega (arith, placed_below ds d m.0 placed z, through_end c starts count d t)

        pub locate_nil : m.0 ≡ 0 → ◌≡◌ {A = Located} (record { found = Entry (physical 0) (physical 0); owner = 0 }) (locate c ds d l)
        unfolding locate find located_in found_block
        locate_nil z = rw (ne_eqb d.layout 1 other, number, placed, eq-eqb m.0 0 z)

        pub locate_layout_2 : (m.0 ≡ 0 → ⊥) → (s : Located) → s ≡ located_in ds in_table → s ≡ locate c ds d l
        unfolding locate find
        locate_layout_2 z s f = f ∙ rw (ne_eqb d.layout 1 other, number, placed, ne_eqb m.0 0 z)

  -- the owner of a block that was found, where the code looks its name up
  module _ (l : ℕ) (at : Located) (is : at ≡ locate c ds d l) (m p : Physical) (entry : at.found ≡ Entry m p) (set : p.0 ≡ 0 → ⊥) where
    owner_found : (o : ℕ) (f : Found) → f ≡ Entry m p → o ≡ pick (eqb (found_block f) 0) 0 (owner_index ds (found_block f)) → o ≡ owner_index ds p.0
    unfolding found_block
    owner_found o f e h = h ∙ rw (e, ne_eqb p.0 0 set)

    pub located_owner : at.owner ≡ owner_index ds p.0
    unfolding locate located_in
    located_owner = owner_found at.owner (find c ds d l) (sym (located_found c ds d l at is) ∙ entry) (ap (λ (x : Located). x.owner) is)

    pub located_counted : at.owner < count
    located_counted = omega (arith, located_owner, owner_counted p.0 (placed_below ds d p.0 (find_placed c ds d l m p (sym (located_found c ds d l at is) ∙ entry)) set))

    inside : (at.owner + 1 < length starts) × (512 * get_or starts at.owner 0 + 512 ≤ length c)
    inside = found_inside c t.active count starts t.regions at.owner located_counted

    pub located_index : at.owner < length starts
    located_index = omega (arith, inside.0)

    pub located_block : 512 * get_or starts at.owner 0 + 512 ≤ length c
    located_block = inside.1

    pub located_name : (name : List ℕ) → name ≡ (descriptor_at c (get_or starts at.owner 0)).name → name ≡ (get_or ds at.owner no_descriptor).name
    located_name name e = e ∙ ap (λ (x : Descriptor). x.name) (sym (through_at c starts count d t at.owner located_counted).is)

-- need by the owner is need by alpha through the active descriptor, the last of the chain
pub need_active : (c : List ℕ) (ds : List Descriptor) → Linked c [] 0 ds → (n : ℕ) → n ≡ length ds → (d : Descriptor) → d ≡ active_of ds → (l : ℕ) (at : Located) → at ≡ locate c ds d l
    → need_by (n - 1) d.alpha.0 at.found at.owner ≡ need d.alpha.0 (find c ds d l)
need_active c ds linked n counted d active l at e =
    let some = linked_some linked in
    let is : d ≡ get_or ds (n - 1) no_descriptor = active ∙ active_at ds some ∙ ap (λ (m : ℕ). get_or ds (m - 1) no_descriptor) (sym counted) in
    rw (e, is) (need_owner c ds linked (n - 1) (omega arith) l)
