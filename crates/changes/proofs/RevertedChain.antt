-- The chain after an accepted revert: on revision 0 the snapshots before the one of the name, then that one, under the active name; on revision 1 that one
-- too, as it was, then a region opened from it. And which blocks a revert stores.
use mathlib.Core.Path.{◌≡◌, refl, sym, ap, ◌∙◌}
use mathlib.Core.Logic.{inl}
use mathlib.Core.Bool.{Bool, true, false}
use mathlib.Core.List.{List, [], ◌∷◌, ◌++◌}
use Prim.Native.Nat.{ℕ, suc, ◌+◌, ◌<◌, ◌*◌, ◌≤◌}
use native.Mathlib.Omega.{arith}
use lib.ListN.{length, take, length-append}
use lib.Seq.{take-suc, append_snoc}
use lib.Dec.{eqb}
use Rattle.blocks.specs.Pick.{pick}
use Rattle.blocks.specs.Bytes.{block_at, store, store_all, block_count}
use Rattle.blocks.specs.Name.{is_name}
use Rattle.blocks.specs.Descriptor.{cost_of, no_descriptor, descriptor_at, revision_of, tail_at, descriptor_block, reopened_of, reopening}
use Rattle.chains.specs.Chain.{named, sound, Sound, chain, active_of, index_of}
use Rattle.blocks.specs.declared.descriptor.Descriptor.{Descriptor}
use Rattle.blocks.proofs.DescriptorLaws.{Fits, tail_length, fits_of}
use Rattle.blocks.proofs.NameLaws.{name_size_lem}
use Rattle.blocks.proofs.RegionLaws.{reopening_above, reopening_covers, reopening_kept, reopening_block}
use Rattle.chains.proofs.NamedLaws.{named_left, index_below}
use Rattle.calls.specs.Parts.{descriptors_of, snapshots_of, with_name}
use Rattle.calls.specs.Stores.{activated_of, reverting, revert_stores, staying}
use Rattle.calls.proofs.CardLaws.{card_most, chain_is}
use Rattle.calls.proofs.Passed.{RevertPassed}
use Rattle.calls.proofs.VisitLaws.{before, behind, name_split, visit_split, visit_next, visit_room, visit_end}
use Rattle.links.proofs.LinkedLaws.{last, more, chain_linked}
use Rattle.links.proofs.RelinkedLaws.{relinked, linked_head}
use Rattle.links.proofs.SharedLaws.{Below, linked_chain, below_descriptor, below_revision, below_sound}
use Rattle.links.proofs.StoredLaws.{block_long}
use Rattle.links.proofs.ChainLaws.{region_layout, region_volume}
use Rattle.links.proofs.ChangedLaws.{changed_last, opened_is, opened_ok}
use Rattle.blocks.proofs.StoreLists.{Whole, none, is_stored, stored_length, stored_other, stored_last, count_kept, none_stored, one_stored}
use Rattle.links.proofs.MemberLaws.{member_from, member_is, member_region, member_inside, member_long, member_end, member_rise, member_layout, member_volume, member_phi, member_upto}
use Rattle.calls.proofs.ActiveLaws.{active_name_lem, active_fresh, snapshots_few}
use Rattle.changes.proofs.WholeLaws.{revert_whole}

-- the active descriptor after a revert to v
unfoldable pub returned_of : ℕ → Descriptor → List ℕ → Descriptor
returned_of revision v active_name = let w = activated_of v active_name in pick (eqb revision 1) (reopened_of w) w

module _ (c name : List ℕ) (e : RevertPassed c name) where
  abbrev ds : List Descriptor
  ds = descriptors_of c

  abbrev ss : List Descriptor
  ss = snapshots_of ds

  abbrev v : Descriptor
  v = with_name ss name

  abbrev w : Descriptor
  w = activated_of v (active_of ds).name

  abbrev t : List ℕ
  t = store_all c (revert_stores c name)

  abbrev xs : List Descriptor
  xs = before ss name

  abbrev ys : List Descriptor
  ys = behind ss name ++ (active_of ds ∷ [])

  sound_c : chain c ≡ Sound ds
  sound_c = chain_is (chain c) e.sound

  pub revert_split : ds ≡ before ss name ++ (v ∷ (behind ss name ++ (active_of ds ∷ [])))
  revert_split = visit_split c ds sound_c name e.there

  pub whole : Whole (length c) (revert_stores c name)
  whole = revert_whole c name e

  pub same_long : length c ≡ length t
  same_long = sym (stored_length (length c) c refl whole)

  inside : 512 * v.alpha.0 + 512 ≤ length c
  inside = member_inside c ds xs v ys sound_c revert_split

  end : v.beta.0 ≤ block_count c
  end = member_end c ds xs v ys sound_c revert_split

  rise : v.alpha.0 < v.beta.0
  rise = member_rise c ds xs v ys sound_c revert_split

  pub visit_below : (v.alpha.0 < v.beta.0) × (v.beta.0 ≤ (active_of ds).beta.0)
  visit_below = (rise, member_upto c ds xs v ys sound_c revert_split)

  room : v.beta.0 + cost_of v ≤ block_count c
  room = visit_end c ds sound_c name e.there

  pub visit_bytes : 512 * (v.beta.0 + cost_of v) ≤ length c
  unfolding block_count
  visit_bytes = omega (arith, room)

  few : length xs < 255
  few = omega (arith, snapshots_few c ds sound_c, ap length (name_split ss name e.there), length-append xs (v ∷ behind ss name))

  called : is_name (active_of ds).name ≡ true
  called = active_name_lem c ds sound_c

  pub called_long : length (active_of ds).name ≡ 16
  called_long = name_size_lem (active_of ds).name called

  -- the active name is that of no snapshot
  others : named (xs ++ (v ∷ [])) (active_of ds).name ≡ false
  others =
      named_left (xs ++ (v ∷ [])) (behind ss name) (active_of ds).name
      (ap (λ (zs : List Descriptor). named zs (active_of ds).name) (append_snoc xs v (behind ss name) ∙ sym (name_split ss name e.there)) ∙ active_fresh c ds sound_c)

  -- on revision 0 its block gets the active name and a nil next
  module _ (zero : eqb (revision_of c) 1 ≡ false) where
    pub stores_are : revert_stores c name ≡ store v.alpha.0 (descriptor_block w (tail_at c v.alpha.0)) ∷ []
    unfolding revert_stores reverting
    stores_are = rw zero

    pub fits : Fits w
    fits =
        let n = card_most c e.area in
        fits_of w (member_layout c ds xs v ys sound_c revert_split)
        (member_volume c ds xs v ys sound_c revert_split) (omega (arith, end, rise)) (omega (arith, end)) (omega arith) called

    tail : length (tail_at c v.alpha.0) ≡ 472
    tail = tail_length c v.alpha.0 inside

    pub block : block_at t v.alpha.0 ≡ descriptor_block w (tail_at c v.alpha.0)
    block =
        rw stores_are
        (stored_last (length c) c refl none v.alpha.0 (descriptor_block w (tail_at c v.alpha.0)) (block_long w (tail_at c v.alpha.0) fits tail) inside none (none_stored v.alpha.0))

    kept : (q : ℕ) → q < v.alpha.0 → block_at c q ≡ block_at t q
    kept q h = sym (stored_other (length c) c refl whole q (rw stores_are (one_stored v.alpha.0 (descriptor_block w (tail_at c v.alpha.0)) q (λ k. omega arith))))

    changed_0 : (chain t ≡ Sound (before ss name ++ (w ∷ []))) × (revision_of t ≡ revision_of c)
    changed_0 =
        let n = count_kept c t same_long in
        changed_last c ds xs v ys sound_c revert_split t same_long kept w (tail_at c v.alpha.0) block fits tail refl refl refl called
        refl (member_phi c ds xs v ys sound_c revert_split)
        (member_long c ds xs v ys sound_c revert_split) (omega (arith, end)) (inl refl)
        (named_left xs (v ∷ []) (active_of ds).name others)
        refl (omega (arith, few))

    pub reverted_0 : chain t ≡ Sound (before ss name ++ (w ∷ []))
    reverted_0 = changed_0.0

    revision_0 : revision_of t ≡ revision_of c
    revision_0 = changed_0.1

  -- on revision 1 it stays as it is, and a region opens at its beta
  module _ (one : eqb (revision_of c) 1 ≡ true) where
    pub stores_open : revert_stores c name ≡ reopening c w []
    unfolding revert_stores reverting
    stores_open = rw one

    pub below_visit : Below c t v.beta.0
    below_visit =
        record {
          long = same_long;
          some = omega (arith, rise);
          inside = omega (arith, visit_bytes);
          blocks = λ q h. sym (ap (λ (x : List ℕ). block_at x q) (ap (store_all c) stores_open) ∙ reopening_kept c w rise visit_bytes called_long q h);
        }

    revision_1 : revision_of t ≡ revision_of c
    revision_1 = sym (below_revision c t v.beta.0 below_visit)

    pub new_fits : Fits (reopened_of w)
    new_fits =
        let n = card_most c e.area in
        fits_of (reopened_of w) (member_layout c ds xs v ys sound_c revert_split)
        (member_volume c ds xs v ys sound_c revert_split) (omega (arith, end)) (omega (arith, room)) (omega arith) called

    pub new_block : block_at t v.beta.0 ≡ descriptor_block (reopened_of w) (tail_at c v.alpha.0)
    new_block = ap (λ (x : List ℕ). block_at x v.beta.0) (ap (store_all c) stores_open) ∙ reopening_block c w rise visit_bytes called_long

    first_is : (v.layout ≡ (descriptor_at t 0).layout) × (v.volume ≡ (descriptor_at t 0).volume)
    first_is =
        let r = member_region c ds xs v ys sound_c revert_split in
        let f = below_descriptor c t v.beta.0 below_visit 0 (omega (arith, rise)) in (
          region_layout (descriptor_at c 0) (block_count c) v.alpha.0 v r ∙ ap (λ (x : Descriptor). x.layout) f,
          region_volume (descriptor_at c 0) (block_count c) v.alpha.0 v r ∙ ap (λ (x : Descriptor). x.volume) f,
        )

    room_after : v.beta.0 + cost_of v ≤ block_count t
    room_after = omega (arith, room, count_kept c t same_long)

    new_is : descriptor_at t v.beta.0 ≡ reopened_of w
    new_is = opened_is c ds xs v ys sound_c revert_split t same_long revision_1 first_is w refl refl refl called refl room_after new_block new_fits

    new_ok : sound t (xs ++ (v ∷ [])) v.beta.0 ≡ true
    new_ok = opened_ok c ds xs v ys sound_c revert_split t same_long revision_1 first_is w refl refl refl called refl room_after new_block new_fits (xs ++ (v ∷ [])) others

    visit_is : v ≡ descriptor_at t v.alpha.0
    visit_is = member_is c ds xs v ys sound_c revert_split ∙ below_descriptor c t v.beta.0 below_visit v.alpha.0 rise

    visit_ok : sound t xs v.alpha.0 ≡ true
    visit_ok = sym (below_sound c t v.beta.0 below_visit xs v.alpha.0 rise) ∙ (linked_head c (member_from c ds xs v ys sound_c revert_split) v ys refl).1

    next_is : v.next.0 ≡ v.beta.0
    next_is = visit_next c ds sound_c name e.there

    pub reverted_1 : chain t ≡ Sound (before ss name ++ (v ∷ reopened_of w ∷ []))
    reverted_1 =
        linked_chain t (xs ++ (v ∷ reopened_of w ∷ []))
        (relinked c t same_long v ys (v ∷ reopened_of w ∷ []) (omega (arith, inside)) (λ q h. below_visit.blocks q (omega (arith, rise))) (chain_linked c ds sound_c) xs revert_split
        (more visit_is visit_ok (λ z. omega (arith, rise, next_is)) (rw next_is (last (sym new_is) new_ok refl))))
        (omega (arith, few, length-append xs (v ∷ reopened_of w ∷ [])))

    kept_snapshots : take (suc (index_of ss name)) ss ≡ xs ++ (v ∷ [])
    kept_snapshots = take-suc ss (index_of ss name) no_descriptor (index_below ss name e.there)

  -- on either revision
  abbrev revision : ℕ
  revision = revision_of c

  abbrev made : Descriptor
  made = returned_of revision v (active_of ds).name

  chain_by : (z : Bool) → eqb revision 1 ≡ z → chain t ≡ Sound (take (pick z (suc (index_of ss name)) (index_of ss name)) ss ++ (pick z (reopened_of w) w ∷ []))
  chain_by true q = reverted_1 q ∙ ap Sound (sym (append_snoc xs v (reopened_of w ∷ [])) ∙ ap (λ (zs : List Descriptor). zs ++ (reopened_of w ∷ [])) (sym (kept_snapshots q)))
  chain_by false q = reverted_0 q

  pub reverted_chain : chain (store_all c (revert_stores c name)) ≡ Sound (take (staying (revision_of c) (index_of ss name)) ss ++ (returned_of (revision_of c) v (active_of ds).name ∷ []))
  unfolding staying returned_of
  reverted_chain = chain_by (eqb revision 1) refl

  revision_by : (z : Bool) → eqb revision 1 ≡ z → revision_of t ≡ revision_of c
  revision_by true q = revision_1 q
  revision_by false q = revision_0 q

  pub reverted_revision : revision_of (store_all c (revert_stores c name)) ≡ revision_of c
  reverted_revision = revision_by (eqb revision 1) refl

  -- the active descriptor after it, and where its region ends
  returned_by : (z : Bool) → let x = pick z (reopened_of w) w in
      (x.layout ≡ v.layout) × (x.volume ≡ v.volume) × (x.name ≡ (active_of ds).name) × (v.beta.0 ≤ x.beta.0) × (x.beta.0 ≤ v.beta.0 + cost_of v) × (x.beta.0 ≤ (active_of ds).beta.0)
  returned_by true = (refl, refl, refl, omega arith, omega arith, visit_room c ds sound_c name e.there)
  returned_by false = (refl, refl, refl, omega arith, omega arith, member_upto c ds xs v ys sound_c revert_split)

  pub returned : let x = returned_of (revision_of c) v (active_of ds).name in
      (x.layout ≡ v.layout) × (x.volume ≡ v.volume) × (x.name ≡ (active_of ds).name) × (v.beta.0 ≤ x.beta.0) × (x.beta.0 ≤ v.beta.0 + cost_of v) × (x.beta.0 ≤ (active_of ds).beta.0)
  unfolding returned_of
  returned = returned_by (eqb revision 1)

  -- it stores no block below the snapshot's alpha, on revision 1 none below its beta, and every block that it takes from there on
  above_by : (z : Bool) → eqb revision 1 ≡ z → (q : ℕ) → q < pick z v.beta.0 v.alpha.0 → is_stored (revert_stores c name) q ≡ false
  above_by true z q h = rw (stores_open z) (reopening_above c w rise visit_bytes called_long q h)
  above_by false z q h = rw (stores_are z) (one_stored v.alpha.0 (descriptor_block w (tail_at c v.alpha.0)) q (λ k. omega arith))

  pub revert_above : (q : ℕ) → q < pick (eqb (revision_of c) 1) v.beta.0 v.alpha.0 → is_stored (revert_stores c name) q ≡ false
  revert_above q h = above_by (eqb revision 1) refl q h

  covers_by : (z : Bool) → eqb revision 1 ≡ z → (q : ℕ) → v.beta.0 ≤ q → q < (pick z (reopened_of w) w).beta.0 → is_stored (revert_stores c name) q ≡ true
  covers_by true z q h l = rw (stores_open z) (reopening_covers c w rise visit_bytes called_long q h l)
  covers_by false z q h l = absurd (omega arith)

  pub revert_covers : (q : ℕ) → v.beta.0 ≤ q → q < (returned_of (revision_of c) v (active_of ds).name).beta.0 → is_stored (revert_stores c name) q ≡ true
  unfolding returned_of
  revert_covers q h l = covers_by (eqb revision 1) refl q h l
