-- 'In place' in 01's words is the same as: nil, or below beta and outside the opening of the region that contains it.
use mathlib.Core.Path.{◌≡◌, refl, sym, ap, ◌∙◌, subst}
use mathlib.Core.Bool.{Bool, true, false, not, ◌&&◌, ◌||◌}
use mathlib.Core.List.{List, [], ◌∷◌}
use Prim.Native.Nat.{ℕ, suc, ◌+◌, ◌≤◌, ◌<◌}
use native.Mathlib.Omega.{arith}
use lib.ListN.{length, get_or}
use lib.Dec.{eqb, ltb, leb}
use borrow.Author.Tests.{ne_eqb, lt-ltb, le-ltb, le-leb, lt-leb, eqb-true, eqb-false, ltb-true, ltb-false, leb-true, leb-false}
use Rattle.blocks.specs.Pick.{pick}
use Rattle.blocks.specs.Descriptor.{table_count, cost, cost_of, no_descriptor, descriptor_at}
use Rattle.chains.specs.Chain.{Sound, chain, descriptors, ends, starts_of}
use Rattle.blocks.specs.declared.descriptor.Descriptor.{Descriptor}
use Rattle.blocks.proofs.BoolLaws.{or_nil, and_false_mid}
use Rattle.links.proofs.LinkedLaws.{Linked, last, more, chain_linked, sound_alpha, sound_cost, sound_long, sound_next, region_start, region_start_zero, region_start_suc, region_start_listed, linked_rise, RegionAt, linked_at, at_cost, starts_long, regions_sound}
use Rattle.entries.specs.InPlace.{is_descriptor, is_table, is_in_place, region_of, in_place_at}
use Rattle.entries.specs.Through.{RisingRegions, Through}

-- one descriptor's opening, for a block q at or above alpha
module _ (a n q : ℕ) (above : a ≤ q) where
  layout_1 : (e l : Bool) → eqb q a ≡ e → leb q (a + n) ≡ l → not (e || (ltb a q && l)) ≡ leb (a + (1 + n)) q
  layout_1 true l he hl = rw (lt-leb (a + (1 + n)) q (omega (arith, eqb-true q a he)))
  layout_1 false true he hl = rw (lt-ltb a q (omega (arith, eqb-false q a he)), lt-leb (a + (1 + n)) q (omega (arith, leb-true q (a + n) hl)))
  layout_1 false false he hl = rw (lt-ltb a q (omega (arith, eqb-false q a he)), le-leb (a + (1 + n)) q (omega (arith, leb-false q (a + n) hl)))

  layout_2 : (e : Bool) → eqb q a ≡ e → not e ≡ leb (a + 1) q
  layout_2 true he = rw (lt-leb (a + 1) q (omega (arith, eqb-true q a he)))
  layout_2 false he = rw (le-leb (a + 1) q (omega (arith, eqb-false q a he)))

opening_by : (t : Bool) (a n q : ℕ) → a ≤ q → not ((eqb q a || false) || ((t && ltb a q && leb q (a + n)) || false)) ≡ leb (a + pick t (1 + n) 1) q
opening_by true a n q h = rw (or_nil (eqb q a), or_nil (ltb a q && leb q (a + n))) (layout_1 a n q h (eqb q a) (leb q (a + n)) refl refl)
opening_by false a n q h = rw (or_nil (eqb q a), or_nil (eqb q a)) (layout_2 a n q h (eqb q a) refl)

-- alone, a descriptor's opening is the c blocks from alpha on
pub opening_alone : (d : Descriptor) (q : ℕ) → d.alpha.0 ≤ q
    → not ((eqb q d.alpha.0 || false) || ((eqb d.layout 1 && ltb d.alpha.0 q && leb q (d.alpha.0 + table_count d.volume)) || false)) ≡ leb (d.alpha.0 + cost_of d) q
unfolding cost
opening_alone d q h = opening_by (eqb d.layout 1) d.alpha.0 (table_count d.volume) q h

missed_by : (t : Bool) (a n q : ℕ) → a + pick t (1 + n) 1 ≤ q → (eqb q a ≡ false) × ((t && ltb a q && leb q (a + n)) ≡ false)
missed_by true a n q h = (ne_eqb q a (omega arith), rw (lt-ltb a q (omega arith), lt-leb q (a + n) (omega arith)))
missed_by false a n q h = (ne_eqb q a (omega arith), refl)

-- a block past the opening of d is none of its blocks
opening_missed : (d : Descriptor) (q : ℕ) → d.alpha.0 + cost_of d ≤ q
    → (eqb q d.alpha.0 ≡ false) × ((eqb d.layout 1 && ltb d.alpha.0 q && leb q (d.alpha.0 + table_count d.volume)) ≡ false)
unfolding cost
opening_missed d q h = missed_by (eqb d.layout 1) d.alpha.0 (table_count d.volume) q h

-- the start of the region that contains q, in a list of starts
unfoldable pub start_of : List ℕ → ℕ → ℕ
start_of starts q = get_or starts (region_of starts q) 0

start_here : (s t : ℕ) (starts : List ℕ) (q : ℕ) → q < t → start_of (s ∷ t ∷ starts) q ≡ s
unfolding start_of region_of
start_here s t starts q h = rw (lt-ltb q t h)

start_later : (s t : ℕ) (starts : List ℕ) (q : ℕ) → t ≤ q → start_of (s ∷ t ∷ starts) q ≡ start_of (t ∷ starts) q
unfolding start_of region_of
start_later s t starts q h = rw (le-ltb q t h)

-- a region before others, of whose openings q is in none if D and T are false
module _ (d : Descriptor) (p k : ℕ) (starts : List ℕ) (q : ℕ) (D T : Bool) (a : d.alpha.0 ≡ p) (same_cost : cost_of d ≡ k) (long : p + k ≤ d.beta.0) (above : p ≤ q) where
  abbrev tables : Bool
  tables = eqb d.layout 1 && ltb d.alpha.0 q && leb q (d.alpha.0 + table_count d.volume)

  outside_here : q < d.beta.0 → D ≡ false → T ≡ false → not ((eqb q d.alpha.0 || D) || (tables || T)) ≡ leb (start_of (p ∷ d.beta.0 ∷ starts) q + k) q
  outside_here h e f = rw (start_here p d.beta.0 starts q h, e, f, ← same_cost, ← a) (opening_alone d q (omega arith))

  outside_later : d.beta.0 ≤ q → not (D || T) ≡ leb (start_of (d.beta.0 ∷ starts) q + k) q → not ((eqb q d.alpha.0 || D) || (tables || T)) ≡ leb (start_of (p ∷ d.beta.0 ∷ starts) q + k) q
  outside_later h e =
      let m = opening_missed d q (omega arith) in
      rw (start_later p d.beta.0 starts q h, m.0, m.1) e

  outside_by : (t : Bool) → ltb q d.beta.0 ≡ t → (q < d.beta.0 → (D ≡ false) × (T ≡ false)) → (d.beta.0 ≤ q → not (D || T) ≡ leb (start_of (d.beta.0 ∷ starts) q + k) q)
      → not ((eqb q d.alpha.0 || D) || (tables || T)) ≡ leb (start_of (p ∷ d.beta.0 ∷ starts) q + k) q
  outside_by true e below later = let h = ltb-true q d.beta.0 e in outside_here h (below h).0 (below h).1
  outside_by false e below later = let h = ltb-false q d.beta.0 e in outside_later h (later h)

module _ {c : List ℕ} where
  -- a block below the first of some regions is in none of their openings
  none_below : {es : List Descriptor} {p : ℕ} {ds : List Descriptor} (q : ℕ) → Linked c es p ds → q < p → (is_descriptor ds q ≡ false) × (is_table ds q ≡ false)
  unfolding is_descriptor is_table
  none_below q (last {es = es} {p = p} {d = d} is ok z) h =
      let a = sound_alpha c es p d is ok in
      (rw (ne_eqb q d.alpha.0 (omega arith)), rw (le-ltb d.alpha.0 q (omega arith), and_false_mid (eqb d.layout 1)))
  none_below q (more {es = es} {p = p} {d = d} {ds = ds} is ok z rest) h =
      let a = sound_alpha c es p d is ok in
      let r = none_below q rest (omega (arith, sound_next c es p d is ok z, sound_long c es p d is ok)) in
      (rw (ne_eqb q d.alpha.0 (omega arith)) r.0, rw (le-ltb d.alpha.0 q (omega arith), and_false_mid (eqb d.layout 1)) r.1)

  -- outside every opening, in 01's words, is outside the opening of the region that contains q
  pub outside : {es : List Descriptor} {p : ℕ} {ds : List Descriptor} (q : ℕ) → Linked c es p ds → p ≤ q → q < region_start p ds (length ds)
      → not (is_descriptor ds q || is_table ds q) ≡ leb (start_of (p ∷ ends ds) q + cost_of (descriptor_at c 0)) q
  unfolding is_descriptor is_table ends
  outside q (last {es = es} {p = p} {d = d} is ok z) h l =
      let b : q < d.beta.0 = rw (region_start_suc p d [] 0, region_start_zero d.beta.0 []) at l in
      outside_here d p (cost_of (descriptor_at c 0)) [] q false false (sound_alpha c es p d is ok) (sound_cost c es p d is ok) (sound_long c es p d is ok) h b refl refl
  outside q (more {es = es} {p = p} {d = d} {ds = ds} is ok z rest) h l =
      let n = sound_next c es p d is ok z in
      let m : q < region_start d.next.0 ds (length ds) = rw (region_start_suc p d ds (length ds), ← n) at l in
      outside_by d p (cost_of (descriptor_at c 0)) (ends ds) q (is_descriptor ds q) (is_table ds q) (sound_alpha c es p d is ok) (sound_cost c es p d is ok) (sound_long c es p d is ok) h
      (ltb q d.beta.0) refl
      (λ k. none_below q rest (omega arith))
      (λ k. subst (λ (b : ℕ). not (is_descriptor ds q || is_table ds q) ≡ leb (start_of (b ∷ ends ds) q + cost_of (descriptor_at c 0)) q) n (outside q rest (omega arith) m))

-- what Through says of the chain, of its regions and of the descriptor
module _ (c starts : List ℕ) (count : ℕ) (d : Descriptor) (t : Through c starts count d) where
  abbrev ds : List Descriptor
  ds = descriptors (chain c)

  pub through_chain : chain c ≡ Sound ds
  through_chain = (regions_sound (chain c) t.active count starts t.regions).0

  pub through_count : count ≡ length ds
  through_count = (regions_sound (chain c) t.active count starts t.regions).1

  pub through_starts : starts ≡ starts_of ds
  through_starts = (regions_sound (chain c) t.active count starts t.regions).2

  pub through_linked : Linked c [] 0 ds
  through_linked = chain_linked c ds through_chain

  -- the k-th start, and the region of the k-th descriptor
  pub through_start : (k : ℕ) → k ≤ count → get_or starts k 0 ≡ region_start 0 ds k
  through_start k h = rw through_starts (region_start_listed ds k)

  pub through_at : (k : ℕ) → k < count → RegionAt c (get_or starts k 0) (get_or starts (suc k) 0) (get_or ds k no_descriptor)
  through_at k h = rw (through_start k (omega arith), through_start (suc k) (omega arith)) (linked_at through_linked k (omega (arith, through_count)))

  -- the descriptor is one of the chain's
  pub through_member : d ≡ get_or ds t.index no_descriptor
  through_member = t.is ∙ sym (through_at t.index t.inside).is

  pub through_region : RegionAt c (get_or starts t.index 0) (get_or starts (suc t.index) 0) d
  through_region = rw through_member (through_at t.index t.inside)

  pub through_rising : RisingRegions starts count d.beta.0
  through_rising =
      record {
        some = omega (arith, t.inside);
        long = rw (through_count, through_starts) (starts_long ds);
        from = through_start 0 (omega arith) ∙ region_start_zero 0 ds;
        rise = λ i j h l. rw (through_start i (omega arith), through_start j l) (linked_rise through_linked i j h (omega (arith, through_count)));
        upto = rw (through_region.beta, through_start (suc t.index) (omega (arith, t.inside)), through_start count (omega arith)) (linked_rise through_linked (suc t.index) count (omega (arith, t.inside)) (omega (arith, through_count)));
      }

  -- the law: 'in place' in 01's words is nil, or below beta and outside the opening of the region that contains the block
  place_by : (e t : Bool) (x y : Bool) → (t ≡ true → x ≡ y) → (e || (t && x)) ≡ (e || (t && y))
  place_by true t x y f = refl
  place_by false true x y f = f refl
  place_by false false x y f = refl

  starts_outside : (q : ℕ) → q < d.beta.0 → leb (start_of (starts_of ds) q + cost_of d) q ≡ not (is_descriptor ds q || is_table ds q)
  unfolding starts_of
  starts_outside q h =
      rw (at_cost c _ _ d through_region)
      (sym (outside q through_linked (omega arith) (omega (arith, through_rising.upto, through_start count (omega arith), ap (region_start 0 ds) through_count))))

  pub in_place_region : (q : ℕ) → in_place_at starts (cost_of d) d.beta.0 q ≡ is_in_place ds d q
  unfolding in_place_at is_in_place start_of
  in_place_region q =
      place_by (eqb q 0) (ltb q d.beta.0) (leb (get_or starts (region_of starts q) 0 + cost_of d) q) (not (is_descriptor ds q || is_table ds q))
      (λ h. ap (λ (l : List ℕ). leb (get_or l (region_of l q) 0 + cost_of d) q) through_starts ∙ starts_outside q (ltb-true q d.beta.0 h))
