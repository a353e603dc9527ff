-- The chain after an accepted snap, and which blocks it stores.
use mathlib.Core.Path.{◌≡◌, refl, sym, ap, ◌∙◌}
use mathlib.Core.Logic.{inl, inr, ◌⊎◌}
use mathlib.Core.Bool.{Bool, true, false}
use mathlib.Core.List.{List, [], ◌∷◌, ◌++◌}
use Prim.Native.Nat.{ℕ, ◌+◌, ◌*◌, ◌-◌, ◌≤◌, ◌<◌}
use native.Mathlib.Omega.{arith}
use lib.ListN.{length, length-append}
use lib.Seq.{append_snoc}
use Rattle.blocks.specs.Pick.{same}
use Rattle.blocks.specs.Bytes.{block_count, block_at, Store, store, store_all}
use Rattle.blocks.specs.Name.{is_name}
use Rattle.blocks.specs.Descriptor.{cost_of, descriptor_at, revision_of, tail_at, descriptor_block, renamed_of, linked_of, reopened_of, copying, reopening}
use Rattle.chains.specs.Chain.{named, sound, Sound, chain, active_of}
use Rattle.blocks.specs.declared.descriptor.Descriptor.{Descriptor}
use Rattle.blocks.proofs.BoolLaws.{no, or_false_right, or_true}
use Rattle.blocks.proofs.ListLaws.{same_equal, same_self}
use Rattle.blocks.proofs.DescriptorLaws.{Fits, tail_length, fits_of, cost_least}
use Rattle.chains.proofs.NamedLaws.{named_one, named_append, named_left}
use Rattle.links.proofs.LinkedLaws.{last, more, chain_linked}
use Rattle.calls.specs.Parts.{area_bad, descriptors_of, snapshots_of}
use Rattle.calls.specs.Stores.{snapping, snap_stores}
use Rattle.calls.proofs.Passed.{SnapPassed}
use Rattle.links.proofs.SharedLaws.{linked_chain}
use Rattle.links.proofs.RelinkedLaws.{relinked}
use Rattle.links.proofs.StoredLaws.{block_long, stored_descriptor}
use Rattle.links.proofs.ChangedLaws.{changed_first, changed_revision, changed_ok, opened_is, opened_ok}
use Rattle.blocks.proofs.StoreLists.{Whole, none, also, whole_append, is_stored, stored_join, stored_length, stored_other, stored_append, stored_last, inside_copying, count_kept, none_stored, one_stored, copies_stored, pair_stored, copies_cover}
use Rattle.calls.proofs.ActiveLaws.{active_last, active_name_lem, active_fresh, active_next, active_long, active_rise, active_inside, active_layout, active_volume, active_phi}
use Rattle.calls.proofs.CardLaws.{chain_is, card_most}
use Rattle.changes.proofs.WholeLaws.{snap_whole}
use lib.Dec.{eqb, ltb}
use borrow.Author.Tests.{eqb-false, ltb-true, ltb-false}

same_not : (a b : List ℕ) (z : Bool) → same a b ≡ z → same b a ≡ false → same a b ≡ false
same_not a b false e h = e
same_not a b true e h = let q = same_equal a b e in no (sym h ∙ rw q (same_self b))

module _ (c name : List ℕ) (e : SnapPassed c name) where
  area : area_bad c ≡ false
  area = e.area

  called : is_name name ≡ true
  called = e.called

  sound_c : chain c ≡ Sound (descriptors_of c)
  sound_c = chain_is (chain c) e.sound

  unused : named (descriptors_of c) name ≡ false
  unused = e.unused

  room : (active_of (descriptors_of c)).beta.0 + cost_of (active_of (descriptors_of c)) ≤ block_count c
  room = e.room

  abbrev ds : List Descriptor
  ds = descriptors_of c

  abbrev xs : List Descriptor
  xs = snapshots_of (descriptors_of c)

  abbrev d : Descriptor
  d = active_of (descriptors_of c)

  -- the snapshot, and the region opened after it
  abbrev old : Descriptor
  old = linked_of (renamed_of d name) d.beta

  abbrev new : Descriptor
  new = reopened_of d

  abbrev tail : List ℕ
  tail = tail_at c d.alpha.0

  abbrev t : List ℕ
  t = store_all c (snap_stores c name)

  abbrev copies : List Store
  copies = copying c (d.alpha.0 + 1) (d.beta.0 + 1) (cost_of d - 1)

  pub split : descriptors_of c ≡ xs ++ (d ∷ [])
  split = active_last c ds sound_c

  pub stores_are : snap_stores c name ≡ copies ++ (store d.beta.0 (descriptor_block new tail) ∷ store d.alpha.0 (descriptor_block old tail) ∷ [])
  unfolding snap_stores snapping
  stores_are = refl

  pub whole : Whole (length c) (snap_stores c name)
  whole = snap_whole c name e

  pub d_low : d.alpha.0 < d.beta.0
  d_low = active_rise c ds sound_c

  d_least : 1 ≤ cost_of d
  d_least = cost_least d.layout d.volume

  d_most : block_count c ≤ 65536
  d_most = card_most c area

  pub d_inside : 512 * d.alpha.0 + 512 ≤ length c
  d_inside = active_inside c ds sound_c

  pub room_bytes : 512 * (d.beta.0 + cost_of d) ≤ length c
  unfolding block_count
  room_bytes = omega (arith, room)

  pub copies_whole : Whole (length c) copies
  copies_whole = inside_copying c (d.alpha.0 + 1) (d.beta.0 + 1) (cost_of d - 1) (omega (arith, d_low)) (omega (arith, room_bytes, d_least))

  pub next_nil : d.next.0 ≡ 0
  next_nil = active_next c ds sound_c

  pub old_fits : Fits old
  old_fits = fits_of old (active_layout c ds sound_c) (active_volume c ds sound_c) (omega (arith, d_low, room, d_most)) (omega (arith, room, d_most)) (omega (arith, room, d_most)) called

  pub new_fits : Fits new
  new_fits = fits_of new (active_layout c ds sound_c) (active_volume c ds sound_c) (omega (arith, room, d_most)) (omega (arith, room, d_most)) (omega (arith, next_nil)) (active_name_lem c ds sound_c)

  pub tail_whole : length tail ≡ 472
  tail_whole = tail_length c d.alpha.0 d_inside

  pub old_long : length (descriptor_block old tail) ≡ 512
  old_long = block_long old tail old_fits tail_whole

  pub new_long : length (descriptor_block new tail) ≡ 512
  new_long = block_long new tail new_fits tail_whole

  pub new_inside : 512 * d.beta.0 + 512 ≤ length c
  new_inside = omega (arith, room_bytes, d_least)

  pub old_block : block_at t d.alpha.0 ≡ descriptor_block old tail
  old_block =
      rw (stores_are, ← (append_snoc copies (store d.beta.0 (descriptor_block new tail)) (store d.alpha.0 (descriptor_block old tail) ∷ [])))
      (stored_last (length c) c refl (whole_append copies_whole (also d.beta.0 (descriptor_block new tail) new_long new_inside none)) d.alpha.0 (descriptor_block old tail) old_long d_inside none (none_stored d.alpha.0))

  pub new_block : block_at t d.beta.0 ≡ descriptor_block new tail
  new_block =
      rw stores_are
      (stored_last (length c) c refl copies_whole d.beta.0 (descriptor_block new tail) new_long new_inside (also d.alpha.0 (descriptor_block old tail) old_long d_inside none)
      (one_stored d.alpha.0 (descriptor_block old tail) d.beta.0 (λ k. omega (arith, d_low))))

  pub snap_above : (q : ℕ) → q < d.alpha.0 → is_stored (snap_stores c name) q ≡ false
  snap_above q h =
      rw (stores_are, stored_join copies (store d.beta.0 (descriptor_block new tail) ∷ store d.alpha.0 (descriptor_block old tail) ∷ []) q, copies_stored c (d.alpha.0 + 1) (d.beta.0 + 1) (cost_of d - 1) q (omega (arith, d_low)))
      (pair_stored d.beta.0 d.alpha.0 (descriptor_block new tail) (descriptor_block old tail) q (λ k. omega (arith, d_low)) (λ k. omega arith))

  -- and every block that it takes is stored
  covered_by : (p : ℕ) (z : Bool) → eqb d.beta.0 p ≡ z → d.beta.0 ≤ p → p < d.beta.0 + cost_of d → is_stored (snap_stores c name) p ≡ true
  unfolding is_stored
  covered_by p true q h l = rw (stores_are, stored_join copies (store d.beta.0 (descriptor_block new tail) ∷ store d.alpha.0 (descriptor_block old tail) ∷ []) p, q) (or_true (is_stored copies p))
  covered_by p false q h l =
      rw (
        stores_are,
        stored_join copies (store d.beta.0 (descriptor_block new tail) ∷ store d.alpha.0 (descriptor_block old tail) ∷ []) p,
        copies_cover c (d.alpha.0 + 1) (d.beta.0 + 1) (cost_of d - 1) p (omega (arith, eqb-false d.beta.0 p q)) (omega (arith, d_least)),
      )

  pub snap_covered : (p : ℕ) → p < d.beta.0 + cost_of d → (p < d.beta.0) ⊎ (is_stored (snap_stores c name) p ≡ true)
  snap_covered p l = by (ltb p d.beta.0) refl
    where
      by : (z : Bool) → ltb p d.beta.0 ≡ z → (p < d.beta.0) ⊎ (is_stored (snap_stores c name) p ≡ true)
      by true q = inl (ltb-true p d.beta.0 q)
      by false q = inr (covered_by p (eqb d.beta.0 p) refl (ltb-false p d.beta.0 q) l)

  -- but for the old descriptor's block, the card is as when the region was opened
  pub snap_opened : (q : ℕ) → (d.alpha.0 ≡ q → ⊥) → block_at t q ≡ block_at (store_all c (reopening c d [])) q
  snap_opened q n =
      let last : List Store = store d.alpha.0 (descriptor_block old tail) ∷ [] in
      let opened = stored_length (length c) c refl (whole_append copies_whole (also d.beta.0 (descriptor_block new tail) new_long new_inside none)) in
      ap (λ (x : List ℕ). block_at x q)
      (ap (store_all c) (stores_are ∙ sym (append_snoc copies (store d.beta.0 (descriptor_block new tail)) last)) ∙ stored_append c (reopening c d []) last)
      ∙ stored_other (length c) (store_all c (reopening c d [])) opened (also d.alpha.0 (descriptor_block old tail) old_long d_inside none) q (one_stored d.alpha.0 (descriptor_block old tail) q n)

  kept : (q : ℕ) → q < d.alpha.0 → block_at c q ≡ block_at t q
  kept q h = sym (stored_other (length c) c refl whole q (snap_above q h))

  pub same_long : length c ≡ length t
  same_long = sym (stored_length (length c) c refl whole)

  same_count : block_count c ≡ block_count t
  same_count = count_kept c t same_long

  -- names
  name_new : named xs name ≡ false
  name_new = named_left xs (d ∷ []) name (rw split at unused)

  other_name : same name d.name ≡ false
  other_name =
      same_not name d.name (same name d.name) refl
      (sym (named_one d name) ∙ or_false_right (named xs name) (named (d ∷ []) name) (sym (named_append xs (d ∷ []) name) ∙ ap (λ (l : List Descriptor). named l name) (sym split) ∙ unused))

  new_fresh : named (xs ++ (old ∷ [])) d.name ≡ false
  new_fresh = named_append xs (old ∷ []) d.name ∙ rw (active_fresh c ds sound_c) (named_one old d.name ∙ other_name)

  -- the snapshot is sound
  old_is : descriptor_at t d.alpha.0 ≡ old
  old_is = stored_descriptor t d.alpha.0 (omega (arith, same_long, d_inside)) old tail old_block old_fits tail_whole

  old_ok : sound t xs d.alpha.0 ≡ true
  old_ok =
      changed_ok c ds xs d [] sound_c split t same_long kept old tail old_block old_fits tail_whole refl refl refl called
      refl (active_phi c ds sound_c) (active_long c ds sound_c) (omega (arith, room, same_count)) (inr (refl, omega (arith, room, same_count, d_least))) name_new

  first_is : (old.layout ≡ (descriptor_at t 0).layout) × (old.volume ≡ (descriptor_at t 0).volume)
  first_is =
      changed_first c ds xs d [] sound_c split t same_long kept old tail old_block old_fits tail_whole refl refl refl called
      refl (active_phi c ds sound_c) (active_long c ds sound_c) (omega (arith, room, same_count)) (inr (refl, omega (arith, room, same_count, d_least))) name_new

  -- and the region after it
  pub snapped_revision : revision_of (store_all c (snap_stores c name)) ≡ revision_of c
  snapped_revision =
      changed_revision c ds xs d [] sound_c split t same_long kept old tail old_block old_fits tail_whole refl refl refl called
      refl (active_phi c ds sound_c) (active_long c ds sound_c) (omega (arith, room, same_count)) (inr (refl, omega (arith, room, same_count, d_least))) name_new

  room_after : d.beta.0 + cost_of d ≤ block_count t
  room_after = omega (arith, room, same_count)

  new_is : descriptor_at t d.beta.0 ≡ new
  new_is = opened_is c ds xs d [] sound_c split t same_long snapped_revision first_is d refl refl refl (active_name_lem c ds sound_c) next_nil room_after new_block new_fits

  new_ok : sound t (xs ++ (old ∷ [])) d.beta.0 ≡ true
  new_ok = opened_ok c ds xs d [] sound_c split t same_long snapped_revision first_is d refl refl refl (active_name_lem c ds sound_c) next_nil room_after new_block new_fits (xs ++ (old ∷ [])) new_fresh

  snapped_by : length xs < 255 → chain t ≡ Sound (xs ++ (old ∷ new ∷ []))
  snapped_by few =
      linked_chain t (xs ++ (old ∷ new ∷ []))
      (relinked c t same_long d [] (old ∷ new ∷ []) (omega (arith, d_inside)) kept (chain_linked c ds sound_c) xs split
      (more (sym old_is) old_ok (λ z. omega (arith, d_low)) (last (sym new_is) new_ok next_nil)))
      (omega (arith, length-append xs (old ∷ new ∷ [])))

  pub snapped_chain : let d = active_of (descriptors_of c) in
      chain (store_all c (snap_stores c name)) ≡ Sound (snapshots_of (descriptors_of c) ++ (linked_of (renamed_of d name) d.beta ∷ reopened_of d ∷ []))
  snapped_chain = snapped_by e.few
