-- Laws of the walk along the chain, as the code asks them, and of regions.
use mathlib.Core.Path.{◌≡◌, refl, sym, ap, ◌∙◌}
use mathlib.Core.Bool.{Bool, true, false, not, ◌&&◌, ◌||◌}
use Rattle.std.specs.Prelude.{Result, Ok, Err, IfOk}
use mathlib.Core.List.{List, [], ◌∷◌, ◌++◌}
use Prim.Native.Nat.{ℕ, zero, suc, ◌+◌, ◌*◌, ◌-◌, ◌/◌, ◌≤◌, ◌<◌}
use native.Mathlib.Numerals.{add-one}
use native.Mathlib.Omega.{arith}
use lib.ListN.{length, take, get_or, set, length-append, length-take, length-set}
use lib.Seq.{length-take-le, get_or-take, take-suc, take-set-le, get_or-set_same, get_or-set_other}
use lib.Dec.{eqb, ltb, leb}
use borrow.Author.Tests.{not-true, eqb-true, eqb-false, ltb-true, ltb-false, leb-true}
use Rattle.blocks.specs.Pick.{pick, same}
use Rattle.blocks.specs.Bytes.{block_size, block_count}
use Rattle.blocks.specs.Descriptor.{physical, cost_of, descriptor_at}
use Rattle.blocks.specs.Name.{hash_of}
use Rattle.chains.specs.Chain.{active_of, form_ok, region_ok, named, index_of, sound, Unsound, Sound, descriptors_at, chain_from, chain, ends, starts_of, regions_of, walk_of, walk_as, chain_sound, descriptors, Chain}
use Rattle.chains.specs.Walk.{has_flag, with_flag, Hashed, Suffice, Enough, ends_within, places_from, places_left}
use Rattle.blocks.specs.declared.descriptor.Descriptor.{Descriptor}
use Rattle.chains.specs.declared.chain.UnsoundChain.{UnsoundChain}
use Rattle.blocks.proofs.Tests.{and_left, and_right}
use Rattle.blocks.proofs.BoolLaws.{and_false_mid}
use Rattle.blocks.proofs.ListLaws.{same_equal}
use Rattle.chains.proofs.NamedLaws.{not_named, length_descriptors}
use Rattle.blocks.proofs.DescriptorLaws.{cost_least}
use Rattle.links.proofs.FlagLaws.{flag_set, flag_kept}

-- names passed: where the hash of a name has no flag, none of them is that name
hash_apart : (words a name : List ℕ) → has_flag words (hash_of a) ≡ true → has_flag words (hash_of name) ≡ false → (b : Bool) → same a name ≡ b → b ≡ false
hash_apart words a name f g true e =
    let q = same_equal a name e in
    sym f ∙ ap (λ (n : List ℕ). has_flag words (hash_of n)) q ∙ g
hash_apart words a name f g false e = refl

pub hash_unnamed : (c starts words name : List ℕ) → Hashed c starts (length starts) words → has_flag words (hash_of name) ≡ false → named (descriptors_at c starts) name ≡ false
hash_unnamed c starts words name hashed g = not_named c starts name (λ j h. hash_apart words (descriptor_at c (get_or starts j 0)).name name (hashed.each j h) g _ refl)

module _ (c starts : List ℕ) (k : ℕ) (words : List ℕ) (hashed : Hashed c starts k words) (long : k ≤ length starts) (name : List ℕ) where
  first_hashes : Hashed c (take k starts) (length (take k starts)) words
  first_hashes = record { long = hashed.long; each = λ j l. let m : j < k = omega (arith, length-take-le k starts long) in rw (get_or-take k starts j 0 m) (hashed.each j m) }

  pub hash_fresh : (hash : ℕ) → hash ≡ hash_of name → (b : Bool) → b ≡ has_flag words hash → not b ≡ true → false ≡ named (descriptors_at c (take k starts)) name
  hash_fresh hash e b is h =
      let g : has_flag words (hash_of name) ≡ false = ap (has_flag words) (sym e) ∙ sym is ∙ not-true b h in
      sym (hash_unnamed c (take k starts) words name first_hashes g)

-- descriptors of one more block
descriptors_snoc : (c : List ℕ) (ps : List ℕ) (p : ℕ) → descriptors_at c (ps ++ (p ∷ [])) ≡ descriptors_at c ps ++ (descriptor_at c p ∷ [])
unfolding descriptors_at
descriptors_snoc c [] p = refl
descriptors_snoc c (q ∷ ps) p = rw (descriptors_snoc c ps p)

-- one more region
ends_snoc : (ds : List Descriptor) (d : Descriptor) → ends (ds ++ (d ∷ [])) ≡ ends ds ++ (d.beta.0 ∷ [])
unfolding ends
ends_snoc [] d = refl
ends_snoc (e ∷ ds) d = rw (ends_snoc ds d)

pub length_ends : (ds : List Descriptor) → length (ends ds) ≡ length ds
unfolding ends
length_ends [] = refl
length_ends (d ∷ ds) = ap suc (length_ends ds)

starts_snoc : (starts : List ℕ) (ds : List Descriptor) (d : Descriptor) (k : ℕ) → k + 1 < length starts → take (suc k) starts ≡ starts_of ds
    → take (k + 1 + 1) (set starts (k + 1) d.beta.0) ≡ starts_of (ds ++ (d ∷ []))
unfolding starts_of
starts_snoc starts ds d k h so_far =
    let starts' = set starts (k + 1) d.beta.0 in
    let one : k + 1 ≡ suc k = omega arith in
    let two : k + 1 + 1 ≡ suc (k + 1) = omega arith in
    ap (λ (n : ℕ). take n starts') two
    ∙ take-suc starts' (k + 1) 0 (omega (arith, length-set starts (k + 1) d.beta.0))
    ∙ rw (take-set-le (k + 1) starts (k + 1) d.beta.0 (omega arith), get_or-set_same starts (k + 1) d.beta.0 0 h, ends_snoc)
    (ap (λ (l : List ℕ). l ++ (d.beta.0 ∷ [])) (ap (λ (n : ℕ). take n starts) one ∙ so_far))

-- what a region test gives: its length, its end and its link
module _ (first : Descriptor) (n p : ℕ) (d : Descriptor) (ok : region_ok first n p d ≡ true) where
  abbrev link : Bool
  link = eqb d.next.0 0 || (eqb d.next.0 d.beta.0 && ltb d.beta.0 n)

  abbrev test : ℕ → Bool
  test zero = eqb d.layout first.layout
  test (suc zero) = eqb d.volume first.volume
  test (suc (suc zero)) = eqb d.alpha.0 p
  test (suc (suc (suc zero))) = leb (d.alpha.0 + cost_of d) d.beta.0
  test (suc (suc (suc (suc k)))) = leb d.beta.0 n

  parts : ((test 0 && test 1 && test 2 && test 3 && test 4) ≡ true) × (link ≡ true)
  unfolding region_ok
  parts = (and_left (test 0 && test 1 && test 2 && test 3 && test 4) link ok, and_right (test 0 && test 1 && test 2 && test 3 && test 4) link ok)

  parts₄ : ((test 0 && test 1 && test 2 && test 3) ≡ true) × (test 4 ≡ true)
  parts₄ = (and_left (test 0 && test 1 && test 2 && test 3) (test 4) parts.0, and_right (test 0 && test 1 && test 2 && test 3) (test 4) parts.0)

  parts₃ : ((test 0 && test 1 && test 2) ≡ true) × (test 3 ≡ true)
  parts₃ = (and_left (test 0 && test 1 && test 2) (test 3) parts₄.0, and_right (test 0 && test 1 && test 2) (test 3) parts₄.0)

  parts₂ : ((test 0 && test 1) ≡ true) × (test 2 ≡ true)
  parts₂ = (and_left (test 0 && test 1) (test 2) parts₃.0, and_right (test 0 && test 1) (test 2) parts₃.0)

  pub region_layout : d.layout ≡ first.layout
  region_layout = eqb-true _ _ (and_left (test 0) (test 1) parts₂.0)

  pub region_volume : d.volume ≡ first.volume
  region_volume = eqb-true _ _ (and_right (test 0) (test 1) parts₂.0)

  pub region_alpha : d.alpha.0 ≡ p
  region_alpha = eqb-true _ _ parts₂.1

  pub region_long : d.alpha.0 + cost_of d ≤ d.beta.0
  region_long = leb-true _ _ parts₃.1

  pub region_end : d.beta.0 ≤ n
  region_end = leb-true _ _ parts₄.1

  link_by : (t : Bool) → eqb d.next.0 0 ≡ t → (d.next.0 ≡ 0 → ⊥) → (d.next.0 ≡ d.beta.0) × (d.beta.0 < n)
  link_by true e z = absurd (z (eqb-true d.next.0 0 e))
  link_by false e z =
      let q : (eqb d.next.0 d.beta.0 && ltb d.beta.0 n) ≡ true = rw e at parts.1 in
      (eqb-true _ _ (and_left (eqb d.next.0 d.beta.0) (ltb d.beta.0 n) q), ltb-true _ _ (and_right (eqb d.next.0 d.beta.0) (ltb d.beta.0 n) q))

  pub region_next : (d.next.0 ≡ 0 → ⊥) → (d.next.0 ≡ d.beta.0) × (d.beta.0 < n)
  region_next z = link_by (eqb d.next.0 0) refl z

-- an area with no whole block has no sound descriptor
region_none : (first d : Descriptor) (p : ℕ) (t : Bool) → region_ok first 0 p d ≡ t → t ≡ false
region_none first d p true e = absurd (omega (arith, region_long first 0 p d e, region_end first 0 p d e, cost_least d.layout d.volume))
region_none first d p false e = refl

-- where a walk finds its chain sound, the first of the places are the starts of its regions
unsound_never : (p : ℕ) (ds : List Descriptor) → Unsound p ≡ Sound ds → ⊥
unfolding chain_sound
unsound_never p ds e = let f : false ≡ true = ap chain_sound e in let z : ◌≡◌ {A = ℕ} 0 1 = cc in absurd (omega arith)

places_last : (places : List ℕ) (earlier : List Descriptor) (d : Descriptor) → take (length earlier + 1) places ≡ starts_of earlier → length earlier + 1 < length places
    → (ds : List Descriptor) → Sound (earlier ++ (d ∷ [])) ≡ Sound ds → take (length ds + 1) (set places (length earlier + 1) d.beta.0) ≡ starts_of ds
unfolding descriptors
places_last places earlier d so_far room ds e =
    let es : earlier ++ (d ∷ []) ≡ ds = ap descriptors e in
    let one : suc (length earlier) ≡ length earlier + 1 = omega arith in
    rw (← es, length-append) (starts_snoc places earlier d (length earlier) room (ap (λ (n : ℕ). take n places) one ∙ so_far))

module _ (c : List ℕ) (fuel : ℕ) (earlier : List Descriptor) (p : ℕ) (places : List ℕ) (ds : List Descriptor) (so_far : take (length earlier + 1) places ≡ starts_of earlier) (room : length earlier + suc fuel < length places) where
  abbrev d' : Descriptor
  d' = descriptor_at c p

  abbrev more' : List ℕ
  more' = set places (length earlier + 1) d'.beta.0

  more_so_far : take (length (earlier ++ (d' ∷ [])) + 1) more' ≡ starts_of (earlier ++ (d' ∷ []))
  more_so_far = places_last places earlier d' so_far (omega (arith, room)) (earlier ++ (d' ∷ [])) refl

  places_step : (chain_from c fuel (earlier ++ (d' ∷ [])) d'.next.0 ≡ Sound ds → take (length ds + 1) (places_from c fuel (earlier ++ (d' ∷ [])) d'.next.0 more') ≡ starts_of ds)
      → (s t : Bool) → sound c earlier p ≡ s → eqb d'.next.0 0 ≡ t → chain_from c (suc fuel) earlier p ≡ Sound ds → take (length ds + 1) (places_from c (suc fuel) earlier p places) ≡ starts_of ds
  unfolding chain_from places_from
  places_step on false t s_is t_is e = absurd (unsound_never p ds (rw s_is at e))
  places_step on true true s_is t_is e = rw (s_is, t_is) (places_last places earlier d' so_far (omega (arith, room)) ds (rw (s_is, t_is) at e))
  places_step on true false s_is t_is e = rw (s_is, t_is) (on (rw (s_is, t_is) at e))

places_from_lem : (c : List ℕ) (fuel : ℕ) (earlier : List Descriptor) (p : ℕ) (places : List ℕ) (ds : List Descriptor) → take (length earlier + 1) places ≡ starts_of earlier → length earlier + fuel < length places
    → chain_from c fuel earlier p ≡ Sound ds → take (length ds + 1) (places_from c fuel earlier p places) ≡ starts_of ds
unfolding chain_from
places_from_lem c zero earlier p places ds so_far room e = absurd (unsound_never p ds e)
places_from_lem c (suc fuel) earlier p places ds so_far room e =
    let d = descriptor_at c p in
    places_step c fuel earlier p places ds so_far room
    (λ on. places_from_lem c fuel (earlier ++ (d ∷ [])) d.next.0 (set places (length earlier + 1) d.beta.0) ds (more_so_far c fuel earlier p places ds so_far room)
    (omega (arith, room, length-append earlier (d ∷ []), length-set places (length earlier + 1) d.beta.0)) on)
    (sound c earlier p) (eqb d.next.0 0) refl refl e

pub places_starts : (c places : List ℕ) → 0 < length places → Suffice c (length places) → (ds : List Descriptor) → chain c ≡ Sound ds → take (length ds + 1) (places_left c places) ≡ starts_of ds
unfolding places_left starts_of ends
places_starts c places some enough ds e =
    places_from_lem c (length places - 1) [] 0 (set places 0 0) ds (take-suc (set places 0 0) 0 0 (omega (arith, some, length-set places 0 0)) ∙ rw (get_or-set_same places 0 0 0 some)) (omega (arith, some, length-set places 0 0)) (enough ∙ e)

-- a walk leaves as many places as it finds
length_step : (c : List ℕ) (fuel : ℕ) (earlier : List Descriptor) (p : ℕ) (places : List ℕ)
    → length (places_from c fuel (earlier ++ (descriptor_at c p ∷ [])) (descriptor_at c p).next.0 (set places (length earlier + 1) (descriptor_at c p).beta.0)) ≡ length places
    → (s t : Bool) → sound c earlier p ≡ s → eqb (descriptor_at c p).next.0 0 ≡ t → length (places_from c (suc fuel) earlier p places) ≡ length places
unfolding places_from
length_step c fuel earlier p places on false t s_is t_is = rw s_is
length_step c fuel earlier p places on true true s_is t_is = rw (s_is, t_is) (length-set places (length earlier + 1) (descriptor_at c p).beta.0)
length_step c fuel earlier p places on true false s_is t_is = rw (s_is, t_is) on

length_from : (c : List ℕ) (fuel : ℕ) (earlier : List Descriptor) (p : ℕ) (places : List ℕ) → length (places_from c fuel earlier p places) ≡ length places
unfolding places_from
length_from c zero earlier p places = refl
length_from c (suc fuel) earlier p places =
    let d = descriptor_at c p in
    let more = set places (length earlier + 1) d.beta.0 in
    length_step c fuel earlier p places (length_from c fuel (earlier ++ (d ∷ [])) d.next.0 more ∙ length-set places (length earlier + 1) d.beta.0) (sound c earlier p) (eqb d.next.0 0) refl refl

pub length_places : (c places : List ℕ) → length (places_left c places) ≡ length places
unfolding places_left
length_places c places = length_from c (length places - 1) [] 0 (set places 0 0) ∙ length-set places 0 0

-- what the walk in code gives of a card and the places lent to it, by the names of its clauses
abbrev pub Gives : List ℕ → List ℕ → Result ℕ UnsoundChain → List ℕ → Type 0
Gives c lent r starts = record {
  value : walk_as r ≡ walk_of (chain c);
  starts_after : IfOk r (λ n. take (n + 1) starts ≡ starts_of (descriptors (chain c)));
  starts_after_2 : starts ≡ places_left c lent;
  count_in_bounds : IfOk r (λ n. n < length lent);
}

pub gives_fault : (c lent starts : List ℕ) (p : ℕ) → chain c ≡ Unsound p → places_left c lent ≡ starts → Gives c lent (Err (record { 0 = physical p })) starts
unfolding walk_of regions_of
gives_fault c lent starts p found left = record { value = rw found; starts_after = tt; starts_after_2 = sym left; count_in_bounds = tt }

gives_sound : (c lent starts : List ℕ) (ds : List Descriptor) (n : ℕ) → Suffice c (length lent) → n ≡ length ds → n < length lent → chain c ≡ Sound ds → places_left c lent ≡ starts → Gives c lent (Ok n) starts
unfolding walk_of regions_of descriptors
gives_sound c lent starts ds n enough count few found left = record {
  value = rw (found, count);
  starts_after = rw (found, ← left, count) (places_starts c lent (omega (arith, few)) enough ds found);
  starts_after_2 = sym left;
  count_in_bounds = few;
}

-- places for the most descriptors are enough; and fewer, where the links end before
pub suffice_all : (c : List ℕ) (n : ℕ) → n ≡ 257 → Suffice c n
unfolding chain
suffice_all c n e = rw e

short_step : (c : List ℕ) (n p more : ℕ) (earlier : List Descriptor) → (eqb (descriptor_at c p).next.0 0 || ends_within c n (descriptor_at c p).next.0) ≡ true
    → (ends_within c n (descriptor_at c p).next.0 ≡ true → chain_from c (n + more) (earlier ++ (descriptor_at c p ∷ [])) (descriptor_at c p).next.0 ≡ chain_from c n (earlier ++ (descriptor_at c p ∷ [])) (descriptor_at c p).next.0)
    → (t : Bool) → eqb (descriptor_at c p).next.0 0 ≡ t → chain_from c (suc (n + more)) earlier p ≡ chain_from c (suc n) earlier p
unfolding chain_from
short_step c n p more earlier e rest true t = rw t
short_step c n p more earlier e rest false t = rw (t, rest (rw t at e))

short_from : (c : List ℕ) (n p : ℕ) → ends_within c n p ≡ true → (more : ℕ) (earlier : List Descriptor) → chain_from c (n + more) earlier p ≡ chain_from c n earlier p
unfolding ends_within
short_from c zero p h more earlier = let z : ◌≡◌ {A = ℕ} 0 1 = cc in absurd (omega arith)
short_from c (suc n) p h more earlier =
    let next = (descriptor_at c p).next.0 in
    let one : suc n + more ≡ suc (n + more) = omega arith in
    ap (λ (x : ℕ). chain_from c x earlier p) one
    ∙ short_step c n p more earlier (and_right (ltb p (block_count c)) (eqb next 0 || ends_within c n next) h) (λ e. short_from c n next e more (earlier ++ (descriptor_at c p ∷ []))) (eqb next 0) refl

pub suffice_few : (c : List ℕ) → ends_within c 8 0 ≡ true → (n : ℕ) → n ≡ 9 → Suffice c n
unfolding chain
suffice_few c h n e = rw e (sym (short_from c 8 0 h 248 []))

-- whether the links end within so many descriptors, as the code asks it
pub ends_out : (c : List ℕ) (left p : ℕ) → left ≡ 0 → ends_within c left p ≡ false
unfolding ends_within
ends_out c left p e = rw e

pub ends_step : (c : List ℕ) (k p : ℕ) → k < 8 → ends_within c (8 - k) p ≡ (ltb p (length c / 512) && (eqb (descriptor_at c p).next.0 0 || ends_within c (8 - (k + 1)) (descriptor_at c p).next.0))
unfolding ends_within block_count
ends_step c k p h = let one : 8 - k ≡ suc (8 - (k + 1)) = omega arith in rw one

-- a sound chain, and its descriptors
pub is_sound : (c : List ℕ) (ds : List Descriptor) → chain c ≡ Sound ds → chain_sound (chain c) ≡ true
unfolding chain_sound
is_sound c ds e = ap chain_sound e

pub descriptors_are : (c : List ℕ) (ds : List Descriptor) → chain c ≡ Sound ds → descriptors (chain c) ≡ ds
unfolding descriptors
descriptors_are c ds e = ap descriptors e

-- the last of a list
pub active_snoc : (ds : List Descriptor) (d : Descriptor) → active_of (ds ++ (d ∷ [])) ≡ d
unfolding active_of
active_snoc [] d = refl
active_snoc (e ∷ []) d = refl
active_snoc (e ∷ f ∷ ds) d = active_snoc (f ∷ ds) d

-- where the walk with the lent places stands after k sound descriptors: block p is next, and in place k
pub record Walked (c lent starts : List ℕ) (p k : ℕ) : Type 0 where
  pub here : get_or starts k 0 ≡ p
  pub few : k < length lent
  pub long : length starts ≡ length lent
  pub inside : (j : ℕ) → j ≤ k → block_size * get_or starts j 0 + block_size ≤ length c
  pub found : chain c ≡ chain_from c (length lent - 1 - k) (descriptors_at c (take k starts)) p
  pub left : places_left c lent ≡ places_from c (length lent - 1 - k) (descriptors_at c (take k starts)) p starts

-- a flag for each name's hash, with one more name passed and one more place set
hash_low : (name : List ℕ) → hash_of name < 1024
unfolding hash_of
hash_low name = omega arith

pub hashed_none : (c starts words : List ℕ) → length words ≡ 32 → Hashed c starts 0 words
hashed_none c starts words long = record { long = long; each = λ j h. absurd (omega arith) }

pub hashed_more : (c starts : List ℕ) (k : ℕ) (words : List ℕ) → Hashed c starts k words → (d : Descriptor) → d ≡ descriptor_at c (get_or starts k 0) → (hash : ℕ) → hash ≡ hash_of d.name
    → (words' : List ℕ) → words' ≡ with_flag words hash → (end : ℕ) → Hashed c (set starts (k + 1) end) (k + 1) words'
unfolding with_flag
hashed_more c starts k words hashed d is hash hash_is words' set_is end =
    record { long = ap length set_is ∙ length-set words (hash / 32) _ ∙ hashed.long; each = λ j h. rw (set_is, get_or-set_other starts (k + 1) j end 0 (omega arith)) (each_by j h (ltb j k) refl) }
  where
    each_by : (j : ℕ) → j < k + 1 → (t : Bool) → ltb j k ≡ t → has_flag (with_flag words hash) (hash_of (descriptor_at c (get_or starts j 0)).name) ≡ true
    each_by j h true t = flag_kept words hash (hash_of (descriptor_at c (get_or starts j 0)).name) (omega (arith, hashed.long, hash_is, hash_low d.name)) (hashed.each j (ltb-true j k t))
    each_by j h false t =
        let e : j ≡ k = omega (arith, ltb-false j k t) in
        rw (e, ← is, ← hash_is) (flag_set words hash (omega (arith, hashed.long, hash_is, hash_low d.name)))

module _ (c lent starts : List ℕ) (p k : ℕ) (w : Walked c lent starts p k) where
  abbrev passed : List Descriptor
  passed = descriptors_at c (take k starts)

  length_taken : length (take k starts) ≡ k
  length_taken = simp length-take (omega (arith, w.few, w.long))

  length_passed : length passed ≡ k
  length_passed = length_descriptors c (take k starts) ∙ length_taken

  -- the next descriptor's block is on the card; those passed are, and their names have their flags
  pub walked_here : block_size * p + block_size ≤ length c
  walked_here = rw (← w.here) (w.inside k (omega arith))

  pub walked_read : (d : Descriptor) → d ≡ descriptor_at c p → d ≡ descriptor_at c (get_or starts k 0)
  walked_read d is = rw w.here is

  pub walked_passed : (words : List ℕ) → Hashed c starts k words
      → Hashed c (take k starts) (length (take k starts)) words × ((j : ℕ) → j < length (take k starts) → block_size * get_or (take k starts) j 0 + block_size ≤ length c)
  walked_passed words hashed = (record { long = hashed.long; each = λ j h. rw (taken j h) (hashed.each j (omega (arith, length_taken))) }, λ j h. rw (taken j h) (w.inside j (omega (arith, length_taken))))
    where
      taken : (j : ℕ) → j < length (take k starts) → get_or (take k starts) j 0 ≡ get_or starts j 0
      taken j h = get_or-take k starts j 0 (omega (arith, length_taken))

  -- there is no place for another
  pub walk_out : length lent - 1 ≤ k → Gives c lent (Err (record { 0 = physical p })) starts
  unfolding chain_from places_from
  walk_out h = let none : length lent - 1 - k ≡ 0 = omega arith in gives_fault c lent starts p (w.found ∙ rw none) (w.left ∙ rw none)

  -- `right` is what the next descriptor's test says of it, and `called` whether one before it has its name
  module _ (more : k < length lent - 1) (d : Descriptor) (is : d ≡ descriptor_at c p) (first : Descriptor) (first_is : first ≡ descriptor_at c 0)
      (right : Bool) (right_is : right ≡ (form_ok c p d && region_ok first (length c / 512) p d)) (called : Bool) (called_is : called ≡ named passed d.name) where
    one : length lent - 1 - k ≡ suc (length lent - 1 - (k + 1))
    one = omega arith

    abbrev starts' : List ℕ
    starts' = set starts (k + 1) d.beta.0

    abbrev chain' : Chain
    chain' = chain_from c (length lent - 1 - (k + 1)) (passed ++ (d ∷ [])) d.next.0

    abbrev places' : List ℕ
    places' = places_from c (length lent - 1 - (k + 1)) (passed ++ (d ∷ [])) d.next.0 starts'

    found_step : chain c ≡ pick (right && not called) (pick (eqb d.next.0 0) (Sound (passed ++ (d ∷ []))) chain') (Unsound p)
    unfolding chain_from sound block_count
    found_step = w.found ∙ rw (one, right_is, called_is, is, first_is)

    left_step : places_left c lent ≡ pick (right && not called) (pick (eqb d.next.0 0) starts' places') starts
    unfolding places_from sound block_count
    left_step = w.left ∙ rw (one, right_is, called_is, is, first_is, length_passed)

    pub walk_wrong : (right && not called) ≡ false → Gives c lent (Err (record { 0 = physical p })) starts
    walk_wrong h = gives_fault c lent starts p (found_step ∙ rw h) (left_step ∙ rw h)

    module _ (good : (right && not called) ≡ true) where
      ok : region_ok first (length c / 512) p d ≡ true
      ok = and_right (form_ok c p d) (region_ok first (length c / 512) p d) (sym right_is ∙ and_left right (not called) good)

      -- the last one
      pub walk_end : Suffice c (length lent) → eqb d.next.0 0 ≡ true → Gives c lent (Ok (k + 1)) starts'
      walk_end enough z =
          let size : length (passed ++ (d ∷ [])) ≡ k + 1 = length-append passed (d ∷ []) ∙ ap (λ (x : ℕ). x + 1) length_passed in
          gives_sound c lent starts' (passed ++ (d ∷ [])) (k + 1) enough (sym size) (omega arith) (found_step ∙ rw (good, z)) (left_step ∙ rw (good, z))

      -- another follows
      pub walked_more : eqb d.next.0 0 ≡ false → Walked c lent starts' d.next.0 (k + 1)
      walked_more z =
          record {
            here = next_at;
            few = omega arith;
            long = length-set starts (k + 1) d.beta.0 ∙ w.long;
            inside = λ j h. inside_by j h (ltb j (k + 1)) refl;
            found = rw passed_more (found_step ∙ rw (good, z));
            left = rw passed_more (left_step ∙ rw (good, z));
          }
        where
          link : (d.next.0 ≡ d.beta.0) × (d.beta.0 < length c / 512)
          link = region_next first (length c / 512) p d ok (eqb-false d.next.0 0 z)

          next_at : get_or starts' (k + 1) 0 ≡ d.next.0
          next_at = get_or-set_same starts (k + 1) d.beta.0 0 (omega (arith, w.long)) ∙ sym link.0

          passed_more : descriptors_at c (take (k + 1) starts') ≡ passed ++ (d ∷ [])
          passed_more =
              rw (take-set-le (k + 1) starts (k + 1) d.beta.0 (omega arith), add-one, take-suc starts k 0 (omega (arith, w.long)), descriptors_snoc c (take k starts), w.here, ← is)

          inside_by : (j : ℕ) → j ≤ k + 1 → (t : Bool) → ltb j (k + 1) ≡ t → block_size * get_or starts' j 0 + block_size ≤ length c
          inside_by j h true t = rw (get_or-set_other starts (k + 1) j d.beta.0 0 (omega (arith, ltb-true j (k + 1) t))) (w.inside j (omega (arith, ltb-true j (k + 1) t)))
          inside_by j h false t = let e : j ≡ k + 1 = omega (arith, ltb-false j (k + 1) t) in rw (e, next_at) (omega (arith, link.0, link.1))

-- the first descriptor: none has passed, so none has its name
module _ (c lent : List ℕ) (enough : Enough c lent) where
  abbrev starts₀ : List ℕ
  starts₀ = set lent 0 0

  zeroth : get_or starts₀ 0 0 ≡ 0
  zeroth = get_or-set_same lent 0 0 0 (omega (arith, enough.0))

  pub walk_none : length c / 512 ≡ 0 → Gives c lent (Err (record { 0 = physical 0 })) starts₀
  unfolding chain chain_from places_left places_from sound block_count
  walk_none h =
      let most : length lent - 1 ≡ suc (length lent - 2) = omega (arith, enough.0) in
      let none = region_none (descriptor_at c 0) (descriptor_at c 0) 0 (region_ok (descriptor_at c 0) 0 0 (descriptor_at c 0)) refl in
      gives_fault c lent starts₀ 0 (sym enough.2 ∙ rw (most, h, none, and_false_mid (form_ok c 0 (descriptor_at c 0)))) (rw (most, h, none, and_false_mid (form_ok c 0 (descriptor_at c 0))))

  module _ (some : length c / 512 ≡ 0 → ⊥) (d : Descriptor) (is : d ≡ descriptor_at c 0) (right : Bool) (right_is : right ≡ (form_ok c 0 d && region_ok d (length c / 512) 0 d)) where
    walked_none : Walked c lent starts₀ 0 0
    unfolding descriptors_at places_left
    walked_none =
        let none : length lent - 1 - 0 ≡ length lent - 1 = omega arith in
        record {
          here = zeroth;
          few = omega (arith, enough.0);
          long = length-set lent 0 0;
          inside = λ j h. let e : j ≡ 0 = omega arith in rw (e, zeroth) (omega (arith, some));
          found = rw none (sym enough.2);
          left = rw none;
        }

    not_called : false ≡ named (descriptors_at c (take 0 starts₀)) d.name
    unfolding named index_of descriptors_at
    not_called = refl

    pub first_wrong : right ≡ false → Gives c lent (Err (record { 0 = physical 0 })) starts₀
    first_wrong h = walk_wrong c lent starts₀ 0 0 walked_none (omega (arith, enough.0)) d is d is right right_is false not_called (rw h)

    module _ (good : right ≡ true) where
      pub first_end : eqb d.next.0 0 ≡ true → Gives c lent (Ok 1) (set starts₀ 1 d.beta.0)
      first_end z = walk_end c lent starts₀ 0 0 walked_none (omega (arith, enough.0)) d is d is right right_is false not_called (rw good) enough.2 z

      pub first_more : eqb d.next.0 0 ≡ false → Walked c lent (set starts₀ 1 d.beta.0) d.next.0 1
      first_more z = walked_more c lent starts₀ 0 0 walked_none (omega (arith, enough.0)) d is d is right right_is false not_called (rw good) z

  pub first_hashed : (d : Descriptor) → d ≡ descriptor_at c 0 → (words : List ℕ) → length words ≡ 32 → (hash : ℕ) → hash ≡ hash_of d.name → (words' : List ℕ) → words' ≡ with_flag words hash → Hashed c (set starts₀ 1 d.beta.0) 1 words'
  first_hashed d is words long hash hash_is words' set_is = hashed_more c starts₀ 0 words (hashed_none c starts₀ words long) d (rw zeroth is) hash hash_is words' set_is d.beta.0

-- the regions of a sound chain are sound
pub regions_ok : (ch : Chain) → chain_sound ch ≡ true → (regions_of ch).sound ≡ true
unfolding regions_of chain_sound
regions_ok (Sound ds) e = refl
regions_ok (Unsound p) e = e
