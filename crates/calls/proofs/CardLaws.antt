-- What a call knows of a card once the walk along its chain has found no fault, and of one with a fault.
use mathlib.Core.Path.{◌≡◌, refl, sym, ap, ◌∙◌}
use mathlib.Core.Bool.{Bool, true, false, not, ◌||◌}
use mathlib.Core.List.{List, [], ◌∷◌, ◌++◌, append_assoc}
use Prim.Native.Nat.{ℕ, suc, ◌+◌, ◌*◌, ◌-◌, ◌%◌, ◌≤◌, ◌<◌}
use native.Mathlib.Omega.{arith}
use lib.ListN.{length, take, get_or, length-take}
use lib.Seq.{length-take-le, get_or-take, take-length}
use lib.Dec.{eqb, ltb}
use borrow.Author.Tests.{eqb-true, ltb-false, not-false}
use Rattle.blocks.specs.Bytes.{block_count}
use Rattle.blocks.specs.Descriptor.{physical, no_descriptor, descriptor_at}
use Rattle.chains.specs.Chain.{Chain, Unsound, Sound, chain, chain_sound, chain_place, descriptors, descriptors_at, starts_of, Regions, regions_of, walk_of, active_of}
use Rattle.blocks.specs.declared.descriptor.Descriptor.{Descriptor}
use Rattle.chains.specs.Chain.{Walk}
use Rattle.links.proofs.LinkedLaws.{Linked, chain_linked, regions_sound, walk_regions, starts_take, linked_some, chain_few, at_alpha, active_at}
use Rattle.entries.specs.Through.{Through}
use Rattle.entries.proofs.RegionLaws.{through_at, through_rising}
use Rattle.entries.proofs.EntryLaws.{through_alpha}
use Rattle.calls.specs.Parts.{area_bad, snapshots_of, SoundCard}
use Rattle.chains.specs.Walk.{Enough, ends_within}
use Rattle.links.proofs.ChainLaws.{active_snoc, length_ends, suffice_all, suffice_few}

-- all but the last of a list
pub snapshots_take : (d : Descriptor) (ds : List Descriptor) → snapshots_of (d ∷ ds) ≡ take (length ds) (d ∷ ds)
unfolding snapshots_of
snapshots_take d [] = refl
snapshots_take d (e ∷ ds) = ap (λ (xs : List Descriptor). d ∷ xs) (snapshots_take e ds)

pub snapshots_at : (ds : List Descriptor) → 0 < length ds → snapshots_of ds ≡ take (length ds - 1) ds
snapshots_at [] h = absurd (omega arith)
snapshots_at (d ∷ ds) h = let e : suc (length ds) - 1 ≡ length ds = omega arith in snapshots_take d ds ∙ rw e

-- a fault on the chain
walk_fault : (ch : Chain) (r : Walk) → r ≡ walk_of ch → r.sound ≡ false → (chain_sound ch ≡ false) × (chain_place ch ≡ r.place.0)
unfolding walk_of regions_of chain_sound chain_place
walk_fault (Unsound p) r e h = (refl, sym (ap (λ (x : Walk). x.place.0) e))
walk_fault (Sound ds) r e h =
    let f : false ≡ true = sym h ∙ ap (λ (x : Walk). x.sound) e in
    let z : ◌≡◌ {A = ℕ} 0 1 = cc in
    absurd (omega arith)

pub walk_whole : (ch : Chain) (r : Walk) → r ≡ walk_of ch → r.sound ≡ true → (chain_sound ch ≡ true) × (r.count ≡ length (descriptors ch))
unfolding walk_of regions_of chain_sound descriptors
walk_whole (Sound ds) r e h = (refl, ap (λ (x : Walk). x.count) e)
walk_whole (Unsound p) r e h =
    let f : false ≡ true = sym (ap (λ (x : Walk). x.sound) e) ∙ h in
    let z : ◌≡◌ {A = ℕ} 0 1 = cc in
    absurd (omega arith)

few_by : (c : List ℕ) (ch : Chain) (w : Walk) → w ≡ walk_of ch → ((ds : List Descriptor) → ch ≡ Sound ds → length ds ≤ 256) → w.count ≤ 256
unfolding walk_of regions_of
few_by c (Unsound p) w e few = omega (arith, ap (λ (x : Walk). x.count) e)
few_by c (Sound ds) w e few = omega (arith, ap (λ (x : Walk). x.count) e, few ds refl)

pub walk_few : (c : List ℕ) (w : Walk) → w ≡ walk_of (chain c) → w.count ≤ 256
walk_few c w walked = few_by c (chain c) w walked (chain_few c)

walk_long : (ch : Chain) (w : Walk) → w ≡ walk_of ch → not w.sound ≡ false → (starts : List ℕ) → starts ≡ starts_of (descriptors ch) → w.count + 1 ≡ length starts
unfolding starts_of
walk_long ch w walked h starts e = omega (arith, ap length e, length_ends (descriptors ch), (walk_whole ch w walked (not-false w.sound h)).1)

pub walk_accords : (ch : Chain) (r : Walk) → r ≡ walk_of ch → chain_sound ch ≡ true → r.sound ≡ true
unfolding walk_of regions_of chain_sound
walk_accords (Sound ds) r e h = ap (λ (x : Walk). x.sound) e
walk_accords (Unsound p) r e h = ap (λ (x : Walk). x.sound) e ∙ h

pub regions_whole : (ch : Chain) (r : Regions) → r ≡ regions_of ch → r.sound ≡ true
    → (chain_sound ch ≡ true) × (regions_of ch ≡ record { sound = true; place = physical 0; active = r.active; count = r.count; starts = r.starts })
unfolding regions_of chain_sound
regions_whole (Sound ds) r e h = (refl, rw e)
regions_whole (Unsound p) r e h =
    let f : false ≡ true = sym (ap (λ (x : Regions). x.sound) e) ∙ h in
    let z : ◌≡◌ {A = ℕ} 0 1 = cc in
    absurd (omega arith)

-- an area that is a card
area_by : (e s l : Bool) → (not e || s || l) ≡ false → (e ≡ true) × (s ≡ false) × (l ≡ false)
area_by true false false h = (refl, refl, refl)
area_by true false true h = let z : ◌≡◌ {A = ℕ} 0 1 = cc in absurd (omega arith)
area_by true true l h = let z : ◌≡◌ {A = ℕ} 0 1 = cc in absurd (omega arith)
area_by false s l h = let z : ◌≡◌ {A = ℕ} 0 1 = cc in absurd (omega arith)

module _ (c : List ℕ) (area : area_bad c ≡ false) where
  area_parts : (eqb (length c % 512) 0 ≡ true) × (ltb (block_count c) 2 ≡ false) × (ltb 65536 (block_count c) ≡ false)
  unfolding area_bad
  area_parts = area_by (eqb (length c % 512) 0) (ltb (block_count c) 2) (ltb 65536 (block_count c)) area

  pub card_even : length c ≡ 512 * block_count c
  unfolding block_count
  card_even = omega (arith, eqb-true (length c % 512) 0 area_parts.0)

  pub card_least : 2 ≤ block_count c
  card_least = ltb-false (block_count c) 2 area_parts.1

  pub card_most : block_count c ≤ 65536
  card_most = ltb-false 65536 (block_count c) area_parts.2

  pub card_small : length c ≤ 33554432
  card_small = omega (arith, card_even, card_most)

pub card_fault : (c : List ℕ) (w : Walk) → w ≡ walk_of (chain c) → w.sound ≡ false → (chain_sound (chain c) ≡ false) × (chain_place (chain c) ≡ w.place.0)
card_fault c w walked h = walk_fault (chain c) w walked h

-- what the code of a call knows past the walk
walked_card : (c : List ℕ) → area_bad c ≡ false → (w : Walk) → w ≡ walk_of (chain c) → not w.sound ≡ false → (starts : List ℕ) → starts ≡ starts_of (descriptors (chain c)) → SoundCard c w.count starts
walked_card c area w walked h starts e = record { area = area; regions = walk_regions (chain c) w walked (not-false w.sound h) starts e }

module _ (c : List ℕ) (r : Regions) (is : r ≡ regions_of (chain c)) where
  pub card_sound : r.sound ≡ true → chain_sound (chain c) ≡ true
  card_sound h = (regions_whole (chain c) r is h).0

  module _ (area : area_bad c ≡ false) (ok : r.sound ≡ true) where
    abbrev ds : List Descriptor
    ds = descriptors (chain c)

    regions_are : (chain c ≡ Sound ds) × (r.count ≡ length ds) × (r.starts ≡ starts_of ds) × (r.active ≡ active_of ds)
    regions_are = regions_sound (chain c) r.active r.count r.starts (regions_whole (chain c) r is ok).1

    linked : Linked c [] 0 ds
    linked = chain_linked c ds regions_are.0

    pub card_count : r.count ≡ length ds
    card_count = regions_are.1

    pub card_few : r.count ≤ 256
    card_few = omega (arith, chain_few c ds regions_are.0, card_count)

    pub card_some : 0 < r.count
    card_some = omega (arith, linked_some linked, card_count)

    -- the descriptor of region k, and where its blocks stand
    pub card_through : (k : ℕ) → k < r.count → (d : Descriptor) → d ≡ descriptor_at c (get_or r.starts k 0) → Through c r.starts r.count d
    card_through k h d e = record { small = card_small c area; active = r.active; regions = (regions_whole (chain c) r is ok).1; index = k; inside = h; is = e }

    pub card_at : (k : ℕ) → k < r.count → get_or ds k no_descriptor ≡ descriptor_at c (get_or r.starts k 0)
    card_at k h = (through_at c r.starts r.count _ (card_through k h (descriptor_at c (get_or r.starts k 0)) refl) k h).is

    pub card_alpha : (k : ℕ) → k < r.count → (get_or ds k no_descriptor).alpha.0 ≡ get_or r.starts k 0
    card_alpha k h = at_alpha c _ _ (get_or ds k no_descriptor) (through_at c r.starts r.count _ (card_through k h (descriptor_at c (get_or r.starts k 0)) refl) k h)

    pub card_inside : (k : ℕ) → k < r.count → 512 * get_or r.starts k 0 + 512 ≤ length c
    card_inside k h =
        let d = descriptor_at c (get_or r.starts k 0) in
        let e : d.alpha.0 ≡ get_or r.starts k 0 = ap (λ (x : Descriptor). x.alpha.0) (sym (card_at k h)) ∙ card_alpha k h in
        omega (arith, through_alpha c r.starts r.count d (card_through k h d refl))

    pub card_long : r.count ≤ length r.starts
    card_long = let d = descriptor_at c (get_or r.starts 0 0) in omega (arith, (through_rising c r.starts r.count d (card_through 0 card_some d refl)).long)

    -- the active descriptor is the last, the snapshots are those before it
    pub card_found : r.active ≡ active_of ds
    card_found = regions_are.3

    pub card_active : r.active ≡ descriptor_at c (get_or r.starts (r.count - 1) 0)
    card_active =
        card_found ∙ active_at ds (linked_some linked)
        ∙ ap (λ (n : ℕ). get_or ds (n - 1) no_descriptor) (sym card_count)
        ∙ card_at (r.count - 1) (omega (arith, card_some))

    pub card_active_through : Through c r.starts r.count r.active
    card_active_through = card_through (r.count - 1) (omega (arith, card_some)) r.active card_active

    pub card_snapshots : descriptors_at c (take (r.count - 1) r.starts) ≡ snapshots_of ds
    card_snapshots =
        rw (regions_are.2, card_count)
        (starts_take linked (length ds - 1) (omega arith) ∙ sym (snapshots_at ds (linked_some linked)))

    pub card_all : descriptors_at c (take r.count r.starts) ≡ ds
    card_all = rw (regions_are.2, card_count) (starts_take linked (length ds) (omega arith) ∙ take-length ds)

    pub card_snapshot_count : length (snapshots_of ds) ≡ r.count - 1
    card_snapshot_count = ap length (snapshots_at ds (linked_some linked)) ∙ rw card_count (length-take-le (length ds - 1) ds (omega arith))

    pub card_snapshot : (k : ℕ) → k < r.count - 1 → get_or (snapshots_of ds) k no_descriptor ≡ descriptor_at c (get_or r.starts k 0)
    card_snapshot k h =
        ap (λ (xs : List Descriptor). get_or xs k no_descriptor) (snapshots_at ds (linked_some linked))
        ∙ get_or-take (length ds - 1) ds k no_descriptor (omega (arith, card_count))
        ∙ card_at k (omega arith)

-- what is asked to look up an index in the chain
pub card_ready : (c : List ℕ) (count : ℕ) (starts : List ℕ) → SoundCard c count starts → (0 < count) × (count ≤ length starts) × ((j : ℕ) → j < count → 512 * get_or starts j 0 + 512 ≤ length c)
card_ready c count starts s = let w = sym s.regions in (card_some c _ w s.area refl, card_long c _ w s.area refl, λ j h. card_inside c _ w s.area refl j h)

-- and of some of them, from the first on
pub card_first : (c : List ℕ) (count : ℕ) (starts : List ℕ) → SoundCard c count starts → (k : ℕ) → k ≤ count → (j : ℕ) → j < length (take k starts) → 512 * get_or (take k starts) j 0 + 512 ≤ length c
card_first c count starts s k h j l =
    let below : j < k = omega (arith, l, length-take k starts) in
    rw (get_or-take k starts j 0 below) ((card_ready c count starts s).2 j (omega arith))

-- places for the most descriptors are enough for a walk, and few where the links end within few descriptors
pub enough_all : (c places : List ℕ) → length places ≡ 257 → Enough c places
enough_all c places e = (omega (arith, e), omega (arith, e), suffice_all c (length places) e)

pub enough_few : (c places : List ℕ) (b : Bool) → b ≡ ends_within c 8 0 → not b ≡ false → length places ≡ 9 → Enough c places
enough_few c places b short h e = (omega (arith, e), omega (arith, e), suffice_few c (sym short ∙ not-false b h) (length places) e)

-- the places past the walk: as many as there are descriptors and one more, and the card with them
module _ (c : List ℕ) (w : Walk) (walked : w ≡ walk_of (chain c)) (whole : not w.sound ≡ false) (starts : List ℕ) (are : w.sound ≡ true → starts ≡ starts_of (descriptors (chain c))) where
  pub places_long : w.count + 1 ≡ length starts
  places_long = walk_long (chain c) w walked whole starts (are (not-false w.sound whole))

  pub places_card : area_bad c ≡ false → SoundCard c w.count starts
  places_card area = walked_card c area w walked whole starts (are (not-false w.sound whole))

-- a sound chain is its descriptors
pub chain_is : (ch : Chain) → chain_sound ch ≡ true → ch ≡ Sound (descriptors ch)
unfolding chain_sound descriptors
chain_is (Sound ds) e = refl
chain_is (Unsound p) e = let z : ◌≡◌ {A = ℕ} 0 1 = cc in absurd (omega arith)

-- a chain is its snapshots, then the active descriptor
active_from : (d : Descriptor) (ds : List Descriptor) → d ∷ ds ≡ snapshots_of (d ∷ ds) ++ (active_of (d ∷ ds) ∷ [])
unfolding snapshots_of active_of
active_from d [] = refl
active_from d (e ∷ ds) = ap (λ (xs : List Descriptor). d ∷ xs) (active_from e ds)

pub active_split : (ds : List Descriptor) → 0 < length ds → ds ≡ snapshots_of ds ++ (active_of ds ∷ [])
active_split [] h = absurd (omega arith)
active_split (d ∷ ds) h = active_from d ds

pub snapshots_snoc : (xs : List Descriptor) (e : Descriptor) → snapshots_of (xs ++ (e ∷ [])) ≡ xs
unfolding snapshots_of
snapshots_snoc [] e = refl
snapshots_snoc (x ∷ []) e = refl
snapshots_snoc (x ∷ y ∷ xs) e = ap (λ (zs : List Descriptor). x ∷ zs) (snapshots_snoc (y ∷ xs) e)

-- the parts of a chain with v before its last descriptor
module _ (xs : List Descriptor) (v : Descriptor) (rest : List Descriptor) (some : 0 < length rest) where
  rest_is : rest ≡ snapshots_of rest ++ (active_of rest ∷ [])
  rest_is = active_split rest some

  whole_is : xs ++ (v ∷ rest) ≡ (xs ++ (v ∷ snapshots_of rest)) ++ (active_of rest ∷ [])
  whole_is = ap (λ (zs : List Descriptor). xs ++ (v ∷ zs)) rest_is ∙ sym (append_assoc xs (v ∷ snapshots_of rest) (active_of rest ∷ []))

  pub snapshots_are : snapshots_of (xs ++ (v ∷ rest)) ≡ xs ++ (v ∷ snapshots_of rest)
  snapshots_are = ap snapshots_of whole_is ∙ snapshots_snoc (xs ++ (v ∷ snapshots_of rest)) (active_of rest)

  pub active_is : active_of (xs ++ (v ∷ rest)) ≡ active_of rest
  active_is = ap active_of whole_is ∙ active_snoc (xs ++ (v ∷ snapshots_of rest)) (active_of rest)

-- areas of one length are both cards or neither
pub area_kept : (s t : List ℕ) → length s ≡ length t → area_bad s ≡ area_bad t
unfolding area_bad block_count
area_kept s t e = rw e
