-- What a sound chain is: descriptors, each sound after those before it and each where the one before it ends.
use mathlib.Core.Path.{◌≡◌, refl, sym, ap, ◌∙◌, subst}
use mathlib.Core.Bool.{Bool, true, false, not, ◌&&◌}
use mathlib.Core.List.{List, [], ◌∷◌, ◌++◌}
use Prim.Native.Nat.{ℕ, zero, suc, ◌+◌, ◌*◌, ◌-◌, ◌/◌, ◌≤◌, ◌<◌}
use native.Mathlib.Numerals.{add-one}
use native.Mathlib.Omega.{arith}
use lib.ListN.{length, take, get_or, length-append}
use lib.Seq.{append_snoc}
use lib.Dec.{eqb}
use borrow.Author.Tests.{eq-eqb, ne_eqb, eqb-true, eqb-false}
use Rattle.blocks.specs.Pick.{pick}
use Rattle.blocks.specs.Bytes.{block_count}
use Rattle.blocks.specs.Descriptor.{physical, cost_of, no_descriptor, descriptor_at}
use Rattle.chains.specs.Chain.{active_of, form_ok, region_ok, named, sound, Chain, Unsound, Sound, descriptors_at, chain_from, chain, descriptors, ends, starts_of, Regions, regions_of, walk_of}
use Rattle.blocks.specs.declared.numbers.Physical.{Physical}
use Rattle.blocks.specs.declared.descriptor.Descriptor.{Descriptor}
use Rattle.chains.specs.Chain.{Walk}
use Rattle.blocks.proofs.Tests.{and_left, and_right}
use Rattle.links.proofs.ChainLaws.{region_layout, region_volume, region_alpha, region_long, region_end, region_next, length_ends}
use Rattle.blocks.proofs.DescriptorLaws.{cost_least}

-- the descriptors from block p on, after the earlier ones
pub data Linked (c : List ℕ) : List Descriptor → ℕ → List Descriptor → Type 0 where
  last : {es : List Descriptor} {p : ℕ} {d : Descriptor} → d ≡ descriptor_at c p → sound c es p ≡ true → d.next.0 ≡ 0 → Linked c es p (d ∷ [])
  more : {es : List Descriptor} {p : ℕ} {d : Descriptor} {ds : List Descriptor} → d ≡ descriptor_at c p → sound c es p ≡ true → (d.next.0 ≡ 0 → ⊥)
      → Linked c (es ++ (d ∷ [])) d.next.0 ds → Linked c es p (d ∷ ds)

-- a walk that finds no fault has gone along such descriptors
module _ (c : List ℕ) where
  walk_by : (f : ℕ) (es : List Descriptor) (p : ℕ) (ds : List Descriptor) (s z : Bool) → sound c es p ≡ s → eqb (descriptor_at c p).next.0 0 ≡ z
      → ((es' : List Descriptor) (q : ℕ) → chain_from c f es' q ≡ Sound ds → (rest : List Descriptor) × (ds ≡ es' ++ rest) × Linked c es' q rest)
      → pick s (pick z (Sound (es ++ (descriptor_at c p ∷ []))) (chain_from c f (es ++ (descriptor_at c p ∷ [])) (descriptor_at c p).next.0)) (Unsound p) ≡ Sound ds
      → (rest : List Descriptor) × (ds ≡ es ++ rest) × Linked c es p rest
  walk_by f es p ds true true hs hz more_of e = (descriptor_at c p ∷ [], cc, last refl hs (eqb-true _ _ hz))
  walk_by f es p ds true false hs hz more_of e =
      let r = more_of (es ++ (descriptor_at c p ∷ [])) (descriptor_at c p).next.0 e in
      (descriptor_at c p ∷ r.0, r.1 ∙ append_snoc es (descriptor_at c p) r.0, more refl hs (eqb-false _ _ hz) r.2)
  walk_by f es p ds false z hs hz more_of e = let y : ◌≡◌ {A = ℕ} 0 1 = cc in absurd (omega arith)

  pub walk_linked : (fuel : ℕ) (es : List Descriptor) (p : ℕ) (ds : List Descriptor) → chain_from c fuel es p ≡ Sound ds
      → (rest : List Descriptor) × (ds ≡ es ++ rest) × Linked c es p rest
  unfolding chain_from
  walk_linked zero es p ds e = let y : ◌≡◌ {A = ℕ} 0 1 = cc in absurd (omega arith)
  walk_linked (suc f) es p ds e =
      walk_by f es p ds (sound c es p) (eqb (descriptor_at c p).next.0 0) refl refl (λ es' q h. walk_linked f es' q ds h) e

  pub chain_linked : (ds : List Descriptor) → chain c ≡ Sound ds → Linked c [] 0 ds
  unfolding chain
  chain_linked ds e = let r = walk_linked 256 [] 0 ds e in rw r.1 r.2

-- what soundness gives of each
module _ (c : List ℕ) (es : List Descriptor) (p : ℕ) (d : Descriptor) (is : d ≡ descriptor_at c p) (ok : sound c es p ≡ true) where
  abbrev first : Descriptor
  first = descriptor_at c 0

  abbrev formed : Bool
  formed = form_ok c p (descriptor_at c p)

  abbrev placed : Bool
  placed = region_ok first (block_count c) p (descriptor_at c p)

  pub sound_form : form_ok c p d ≡ true
  unfolding sound
  sound_form = rw is (and_left formed placed (and_left (formed && placed) (not (named es (descriptor_at c p).name)) ok))

  pub sound_region : region_ok first (block_count c) p d ≡ true
  unfolding sound
  sound_region = rw is (and_right formed placed (and_left (formed && placed) (not (named es (descriptor_at c p).name)) ok))

  pub sound_alpha : d.alpha.0 ≡ p
  sound_alpha = region_alpha first (block_count c) p d sound_region

  pub sound_cost : cost_of d ≡ cost_of first
  sound_cost = rw (region_layout first (block_count c) p d sound_region, region_volume first (block_count c) p d sound_region)

  pub sound_long : p + cost_of first ≤ d.beta.0
  sound_long = omega (arith, region_long first (block_count c) p d sound_region, sound_alpha, sound_cost)

  pub sound_next : (d.next.0 ≡ 0 → ⊥) → d.next.0 ≡ d.beta.0
  sound_next z = (region_next first (block_count c) p d sound_region z).0

-- where region k starts, the first region starting at block p; at the number of regions, where the last one ends
unfoldable pub region_start : ℕ → List Descriptor → ℕ → ℕ
region_start p ds k = get_or (p ∷ ends ds) k 0

pub region_start_zero : (p : ℕ) (ds : List Descriptor) → region_start p ds 0 ≡ p
unfolding region_start
region_start_zero p ds = refl

pub region_start_suc : (p : ℕ) (d : Descriptor) (ds : List Descriptor) (k : ℕ) → region_start p (d ∷ ds) (suc k) ≡ region_start d.beta.0 ds k
unfolding region_start ends
region_start_suc p d ds k = refl

pub region_start_listed : (ds : List Descriptor) (k : ℕ) → get_or (starts_of ds) k 0 ≡ region_start 0 ds k
unfolding starts_of region_start
region_start_listed ds k = refl

pub starts_long : (ds : List Descriptor) → length ds < length (starts_of ds)
unfolding starts_of
starts_long ds = omega (arith, length_ends ds)

-- the block after a region is where the next one starts
module _ {c : List ℕ} where
  -- the last region ends on the card
  pub linked_end : {es : List Descriptor} {p : ℕ} {ds : List Descriptor} → Linked c es p ds → region_start p ds (length ds) ≤ block_count c
  linked_end (last {es = es} {p = p} {d = d} is ok z) =
      rw (region_start_suc p d [] 0, region_start_zero d.beta.0 []) (region_end (descriptor_at c 0) (block_count c) p d (sound_region c es p d is ok))
  linked_end (more {es = es} {p = p} {d = d} {ds = ds} is ok z rest) =
      rw (region_start_suc p d ds (length ds), ← (sound_next c es p d is ok z)) (linked_end rest)

  -- the regions rise
  pub linked_low : {es : List Descriptor} {p : ℕ} {ds : List Descriptor} → Linked c es p ds → (j : ℕ) → j ≤ length ds → p ≤ region_start p ds j
  linked_low {p = p} {ds = ds} h zero l = rw (region_start_zero p ds) (omega arith)
  linked_low (last {es = es} {p = p} {d = d} is ok z) (suc j) l =
      let e : j ≡ 0 = omega arith in
      rw (e, region_start_suc p d [] 0, region_start_zero d.beta.0 []) (omega (arith, sound_long c es p d is ok))
  linked_low (more {es = es} {p = p} {d = d} {ds = ds} is ok z rest) (suc j) l =
      rw (region_start_suc p d ds j, ← (sound_next c es p d is ok z)) (omega (arith, linked_low rest j (omega arith), sound_long c es p d is ok, sound_next c es p d is ok z))

  pub linked_rise : {es : List Descriptor} {p : ℕ} {ds : List Descriptor} → Linked c es p ds → (i j : ℕ) → i ≤ j → j ≤ length ds → region_start p ds i ≤ region_start p ds j
  linked_rise {p = p} {ds = ds} h zero j m l = rw (region_start_zero p ds) (linked_low h j l)
  linked_rise h (suc i) zero m l = absurd (omega arith)
  linked_rise (last {p = p} {d = d} is ok z) (suc i) (suc j) m l = let e : suc i ≡ suc j = omega arith in rw e (omega arith)
  linked_rise (more {es = es} {p = p} {d = d} {ds = ds} is ok z rest) (suc i) (suc j) m l =
      rw (region_start_suc p d ds i, region_start_suc p d ds j, ← (sound_next c es p d is ok z)) (linked_rise rest i j (omega arith) (omega arith))

-- a descriptor in block p whose region ends at block end
pub record RegionAt (c : List ℕ) (p end : ℕ) (d : Descriptor) : Type 0 where
  pub is : d ≡ descriptor_at c p
  pub form : form_ok c p d ≡ true
  pub region : region_ok (descriptor_at c 0) (block_count c) p d ≡ true
  pub beta : d.beta.0 ≡ end

module _ (c : List ℕ) (p end : ℕ) (d : Descriptor) (r : RegionAt c p end d) where
  pub at_alpha : d.alpha.0 ≡ p
  at_alpha = region_alpha (descriptor_at c 0) (block_count c) p d r.region

  pub at_cost : cost_of d ≡ cost_of (descriptor_at c 0)
  at_cost = rw (region_layout (descriptor_at c 0) (block_count c) p d r.region, region_volume (descriptor_at c 0) (block_count c) p d r.region)

  pub at_long : p + cost_of d ≤ end
  at_long = omega (arith, region_long (descriptor_at c 0) (block_count c) p d r.region, at_alpha, r.beta)

  pub at_end : end ≤ block_count c
  at_end = omega (arith, region_end (descriptor_at c 0) (block_count c) p d r.region, r.beta)

module _ {c : List ℕ} where
  region_at : (es : List Descriptor) (p : ℕ) (d : Descriptor) (ds : List Descriptor) → d ≡ descriptor_at c p → sound c es p ≡ true
      → RegionAt c (region_start p (d ∷ ds) 0) (region_start p (d ∷ ds) 1) d
  region_at es p d ds is ok =
      rw (region_start_zero p (d ∷ ds), region_start_suc p d ds 0, region_start_zero d.beta.0 ds)
      record { is = is; form = sound_form c es p d is ok; region = sound_region c es p d is ok; beta = refl }

  -- the k-th descriptor stands where region k starts
  pub linked_at : {es : List Descriptor} {p : ℕ} {ds : List Descriptor} → Linked c es p ds → (k : ℕ) → k < length ds
      → RegionAt c (region_start p ds k) (region_start p ds (suc k)) (get_or ds k no_descriptor)
  linked_at (last {es = es} {p = p} {d = d} is ok z) zero l = region_at es p d [] is ok
  linked_at (last {es = es} {p = p} {d = d} is ok z) (suc k) l = absurd (omega arith)
  linked_at (more {es = es} {p = p} {d = d} {ds = ds} is ok z rest) zero l = region_at es p d ds is ok
  linked_at (more {es = es} {p = p} {d = d} {ds = ds} is ok z rest) (suc k) l =
      rw (region_start_suc p d ds k, region_start_suc p d ds (suc k), ← (sound_next c es p d is ok z)) (linked_at rest k (omega arith))

-- the regions of a chain without fault are those of its descriptors
pub regions_sound : (ch : Chain) (active : Descriptor) (n : ℕ) (starts : List ℕ) → regions_of ch ≡ record { sound = true; place = physical 0; active = active; count = n; starts = starts }
    → (ch ≡ Sound (descriptors ch)) × (n ≡ length (descriptors ch)) × (starts ≡ starts_of (descriptors ch)) × (active ≡ active_of (descriptors ch))
unfolding regions_of descriptors
regions_sound (Unsound p) active n starts e = let f : false ≡ true = ap (λ (r : Regions). r.sound) e in let y : ◌≡◌ {A = ℕ} 0 1 = cc in absurd (omega arith)
regions_sound (Sound ds) active n starts e =
    (refl, ap (λ (r : Regions). r.count) (sym e), ap (λ (r : Regions). r.starts) (sym e), ap (λ (r : Regions). r.active) (sym e))

-- by what the walk in code gives where the chain has no fault
pub walk_regions : (ch : Chain) (r : Walk) → r ≡ walk_of ch → r.sound ≡ true → (starts : List ℕ) → starts ≡ starts_of (descriptors ch)
    → regions_of ch ≡ record { sound = true; place = physical 0; active = active_of (descriptors ch); count = r.count; starts = starts }
unfolding walk_of regions_of descriptors
walk_regions (Unsound p) r e h starts is = let f : false ≡ true = sym (ap (λ (x : Walk). x.sound) e) ∙ h in let y : ◌≡◌ {A = ℕ} 0 1 = cc in absurd (omega arith)
walk_regions (Sound ds) r e h starts is = rw (e, is)

-- the descriptors in the first blocks of the regions are the first of the chain
module _ {c : List ℕ} where
  pub linked_take : {es : List Descriptor} {p : ℕ} {ds : List Descriptor} → Linked c es p ds → (n : ℕ) → n ≤ length ds → descriptors_at c (take n (p ∷ ends ds)) ≡ take n ds
  unfolding descriptors_at ends
  linked_take h zero l = refl
  linked_take (last {p = p} {d = d} is ok z) (suc n) l = let e : n ≡ 0 = omega arith in rw (e, is)
  linked_take (more {es = es} {p = p} {d = d} {ds = ds} is ok z rest) (suc n) l =
      rw (← is) (ap (λ (xs : List Descriptor). d ∷ xs) (subst (λ (b : ℕ). descriptors_at c (take n (b ∷ ends ds)) ≡ take n ds) (sound_next c es p d is ok z) (linked_take rest n (omega arith))))

  pub starts_take : {ds : List Descriptor} → Linked c [] 0 ds → (n : ℕ) → n ≤ length ds → descriptors_at c (take n (starts_of ds)) ≡ take n ds
  unfolding starts_of
  starts_take {ds = ds} h n l = linked_take h n l

  pub linked_some : {es : List Descriptor} {p : ℕ} {ds : List Descriptor} → Linked c es p ds → 0 < length ds
  linked_some (last is ok z) = omega arith
  linked_some (more is ok z rest) = omega arith

-- the last of a list
pub active_last : (d : Descriptor) (ds : List Descriptor) → active_of (d ∷ ds) ≡ get_or (d ∷ ds) (length ds) no_descriptor
unfolding active_of
active_last d [] = refl
active_last d (e ∷ ds) = active_last e ds

pub active_at : (ds : List Descriptor) → 0 < length ds → active_of ds ≡ get_or ds (length ds - 1) no_descriptor
active_at [] h = absurd (omega arith)
active_at (d ∷ ds) h = let e : suc (length ds) - 1 ≡ length ds = omega arith in active_last d ds ∙ rw e

-- the next of the k-th descriptor: nil for the last, else where the next region starts
next_by : (d : Descriptor) (p : ℕ) (ds : List Descriptor) (k x : ℕ) (t : Bool) → eqb (suc k) (length ds) ≡ t → x ≡ pick t 0 (region_start d.beta.0 ds (suc k))
    → x ≡ pick (eqb (suc (suc k)) (length (d ∷ ds))) 0 (region_start p (d ∷ ds) (suc (suc k)))
next_by d p ds k x true e h = let q = eqb-true (suc k) (length ds) e in rw (eq-eqb (suc (suc k)) (suc (length ds)) (omega arith)) h
next_by d p ds k x false e h = let q = eqb-false (suc k) (length ds) e in rw (ne_eqb (suc (suc k)) (suc (length ds)) (λ z. q (omega arith)), region_start_suc p d ds (suc k)) h

module _ {c : List ℕ} where
  pub linked_next : {es : List Descriptor} {p : ℕ} {ds : List Descriptor} → Linked c es p ds → (k : ℕ) → k < length ds
      → (get_or ds k no_descriptor).next.0 ≡ pick (eqb (suc k) (length ds)) 0 (region_start p ds (suc k))
  linked_next (last is ok z) zero l = z
  linked_next (last is ok z) (suc k) l = absurd (omega arith)
  linked_next (more {es = es} {p = p} {d = d} {ds = ds} is ok z rest) zero l =
      rw (ne_eqb 1 (suc (length ds)) (omega (arith, linked_some rest)), region_start_suc p d ds 0, region_start_zero d.beta.0 ds) (sound_next c es p d is ok z)
  linked_next (more {es = es} {p = p} {d = d} {ds = ds} is ok z rest) (suc k) l =
      next_by d p ds k (get_or ds k no_descriptor).next.0 (eqb (suc k) (length ds)) refl
      (subst (λ (b : ℕ). (get_or ds k no_descriptor).next.0 ≡ pick (eqb (suc k) (length ds)) 0 (region_start b ds (suc k))) (sound_next c es p d is ok z) (linked_next rest k (omega arith)))

-- a descriptor of a sound chain, by what the walk found
descriptor_equal : (d : Descriptor) (layout volume : ℕ) (alpha beta next : Physical) → d.layout ≡ layout → d.volume ≡ volume → d.alpha ≡ alpha → d.beta ≡ beta → d.next ≡ next
    → (name : List ℕ) → d.name ≡ name → d ≡ record { layout = layout; volume = volume; alpha = alpha; beta = beta; next = next; name = name }
descriptor_equal d layout volume alpha beta next p q r s t name u = rw (← p, ← q, ← r, ← s, ← t, ← u) refl

module _ (c : List ℕ) (active : Descriptor) (n : ℕ) (starts : List ℕ) (whole : regions_of (chain c) ≡ record { sound = true; place = physical 0; active = active; count = n; starts = starts }) where
  abbrev ds : List Descriptor
  ds = descriptors (chain c)

  regions_are : (chain c ≡ Sound ds) × (n ≡ length ds) × (starts ≡ starts_of ds) × (active ≡ active_of ds)
  regions_are = regions_sound (chain c) active n starts whole

  linked : Linked c [] 0 ds
  linked = chain_linked c ds regions_are.0

  start_at : (k : ℕ) → k ≤ n → get_or starts k 0 ≡ region_start 0 ds k
  start_at k h = rw regions_are.2 (region_start_listed ds k)

  pub region_of_lem : (k : ℕ) → k < n → RegionAt c (get_or starts k 0) (get_or starts (suc k) 0) (get_or ds k no_descriptor)
  region_of_lem k h = rw (start_at k (omega arith), start_at (suc k) (omega arith)) (linked_at linked k (omega (arith, regions_are.1)))

  active_region : RegionAt c (get_or starts (length ds - 1) 0) (get_or starts (suc (length ds - 1)) 0) active
  active_region = subst (λ (d : Descriptor). RegionAt c (get_or starts (length ds - 1) 0) (get_or starts (suc (length ds - 1)) 0) d) (sym (active_at ds (linked_some linked)) ∙ sym regions_are.3) (region_of_lem (length ds - 1) (omega (arith, linked_some linked, regions_are.1)))

  pub found_inside : (k : ℕ) → k < n → (k + 1 < length starts) × (512 * get_or starts k 0 + 512 ≤ length c)
  unfolding block_count
  found_inside k h =
      let r = region_of_lem k h in
      let e : get_or starts (suc k) 0 ≤ length c / 512 = at_end c _ _ (get_or ds k no_descriptor) r in
      (omega (arith, regions_are.1, starts_long ds, ap length regions_are.2), omega (arith, at_long c _ _ (get_or ds k no_descriptor) r, cost_least (get_or ds k no_descriptor).layout (get_or ds k no_descriptor).volume))

  pub found_descriptor : (k : ℕ) → k < n → (name : List ℕ) → name ≡ (descriptor_at c (get_or starts k 0)).name → (next : Physical) → next ≡ physical (pick (eqb (k + 1) n) 0 (get_or starts (k + 1) 0))
      → record { layout = active.layout; volume = active.volume; alpha = physical (get_or starts k 0); beta = physical (get_or starts (k + 1) 0); next = next; name = name } ≡ descriptor_at c (get_or starts k 0)
  found_descriptor k h name named next links =
      let d = get_or ds k no_descriptor in
      let r = region_of_lem k h in
      let a = active_region in
      let first = descriptor_at c 0 in
      let k_next : d.next.0 ≡ pick (eqb (k + 1) n) 0 (get_or starts (k + 1) 0) = linked_next linked k (omega (arith, regions_are.1)) ∙ rw (add-one, regions_are.1, start_at (suc k) (omega arith)) in
      sym (descriptor_equal d _ _ _ _ _
      (region_layout first (block_count c) _ d r.region ∙ sym (region_layout first (block_count c) _ active a.region))
      (region_volume first (block_count c) _ d r.region ∙ sym (region_volume first (block_count c) _ active a.region))
      (ap physical (at_alpha c _ _ d r))
      (ap physical (rw add-one r.beta))
      (ap physical k_next ∙ sym links)
      name
      (ap (λ (x : Descriptor). x.name) r.is ∙ sym named))
      ∙ r.is

-- a sound chain has at most 256 descriptors
few_by : (c : List ℕ) (f : ℕ) (es ds : List Descriptor) (d : Descriptor) (p : ℕ) (s z : Bool) (rest : Chain) → (rest ≡ Sound ds → length ds ≤ length (es ++ (d ∷ [])) + f)
    → pick s (pick z (Sound (es ++ (d ∷ []))) rest) (Unsound p) ≡ Sound ds → length ds ≤ length es + suc f
few_by c f es ds d p true true rest more_of e = let q : es ++ (d ∷ []) ≡ ds = cc in omega (arith, length-append es (d ∷ []), ap length q)
few_by c f es ds d p true false rest more_of e = omega (arith, more_of e, length-append es (d ∷ []))
few_by c f es ds d p false z rest more_of e = let y : ◌≡◌ {A = ℕ} 0 1 = cc in absurd (omega arith)

walk_few : (c : List ℕ) (fuel : ℕ) (es : List Descriptor) (p : ℕ) (ds : List Descriptor) → chain_from c fuel es p ≡ Sound ds → length ds ≤ length es + fuel
unfolding chain_from
walk_few c zero es p ds e = let y : ◌≡◌ {A = ℕ} 0 1 = cc in absurd (omega arith)
walk_few c (suc f) es p ds e =
    few_by c f es ds (descriptor_at c p) p (sound c es p) (eqb (descriptor_at c p).next.0 0) (chain_from c f (es ++ (descriptor_at c p ∷ [])) (descriptor_at c p).next.0)
    (walk_few c f (es ++ (descriptor_at c p ∷ [])) (descriptor_at c p).next.0 ds) e

pub chain_few : (c : List ℕ) (ds : List Descriptor) → chain c ≡ Sound ds → length ds ≤ 256
unfolding chain
chain_few c ds e = walk_few c 256 [] 0 ds e

-- the last region ends at the active beta
pub end_from : (p : ℕ) (d : Descriptor) (ds : List Descriptor) → region_start p (d ∷ ds) (length (d ∷ ds)) ≡ (active_of (d ∷ ds)).beta.0
unfolding active_of
end_from p d [] = region_start_suc p d [] 0 ∙ region_start_zero d.beta.0 []
end_from p d (e ∷ ds) = region_start_suc p d (e ∷ ds) (length (e ∷ ds)) ∙ end_from d.beta.0 e ds

pub end_active : (ds : List Descriptor) → 0 < length ds → region_start 0 ds (length ds) ≡ (active_of ds).beta.0
end_active [] h = absurd (omega arith)
end_active (d ∷ ds) h = end_from 0 d ds

-- the active descriptor of a list in two parts is that of the second
pub active_append : (xs : List Descriptor) (v : Descriptor) (ys : List Descriptor) → active_of (xs ++ (v ∷ ys)) ≡ active_of (v ∷ ys)
unfolding active_of
active_append [] v ys = refl
active_append (x ∷ []) v ys = refl
active_append (x ∷ y ∷ xs) v ys = active_append (y ∷ xs) v ys
