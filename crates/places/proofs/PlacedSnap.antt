-- The Placed of the card after a snap is its own step.
use mathlib.Core.Path.{◌≡◌, refl, sym, ap, ◌∙◌, subst}
use mathlib.Core.List.{List, [], ◌∷◌, ◌++◌, append_assoc}
use Prim.Native.Nat.{ℕ, suc, ◌+◌, ◌/◌, ◌<◌}
use native.Mathlib.Omega.{arith}
use lib.ListN.{length, get_or, length-append}
use lib.Seq.{get_or-append-add}
use Rattle.blocks.specs.Bytes.{block_count, store_all}
use Rattle.blocks.specs.Descriptor.{no_descriptor, renamed_of, linked_of, reopened_of}
use Rattle.blocks.specs.declared.descriptor.Descriptor.{Descriptor}
use Rattle.blocks.proofs.StoreLists.{stored_length}
use Rattle.chains.specs.Chain.{Sound, active_of, chain}
use Rattle.links.proofs.SoundLaws.{form_layout}
use Rattle.links.proofs.ChainLaws.{active_snoc, descriptors_are}
use Rattle.links.proofs.SharedLaws.{Below}
use Rattle.entries.specs.InPlace.{owner_index}
use Rattle.entries.specs.Entry.{phi_at}
use Rattle.entries.proofs.LocalLaws.{Region, local_table}
use Rattle.calls.specs.Parts.{descriptors_of, snapshots_of}
use Rattle.calls.specs.Check.{Passes}
use Rattle.calls.specs.Stores.{snap_stores}
use Rattle.calls.proofs.Passed.{SnapPassed}
use Rattle.calls.proofs.CardLaws.{chain_is, snapshots_snoc}
use Rattle.calls.proofs.ActiveLaws.{region_at, region_below, active_after, active_inside, active_last, active_rise}
use Rattle.changes.proofs.WholeLaws.{snap_whole}
use Rattle.changes.proofs.SnappedChain.{snapped_chain, snapped_revision, snap_above}
use Rattle.changes.proofs.SnappedRules.{counted, act_rules, act_layout, blocks_kept, old_phi, new_phi, old_kept, new_kept, first_is, first_kept}
use Rattle.claims.specs.Kinds.{Snaps}
use Rattle.places.specs.Placed.{PlacedVolume, named_volume, placed_opening, placed_change, placed_volume, placed_volumes, placed_of}
use Rattle.places.proofs.PlacedLaws.{placed_length, volumes_same, volumes_append, placed_parts, table_as, active_region, below_stored, same_owners, volume_kept, volume_opened}

module _ (c name : List ℕ) (pass : Passes c) (e : SnapPassed c name) where
  abbrev ds : List Descriptor
  ds = descriptors_of c

  abbrev act : Descriptor
  act = active_of ds

  abbrev snaps : List Descriptor
  snaps = snapshots_of ds

  abbrev old : Descriptor
  old = linked_of (renamed_of act name) act.beta

  abbrev new : Descriptor
  new = reopened_of act

  abbrev es : List Descriptor
  es = snaps ++ (old ∷ new ∷ [])

  abbrev t : List ℕ
  t = store_all c (snap_stores c name)

  sound_c : chain c ≡ Sound ds
  sound_c = chain_is (chain c) pass.sound

  split : ds ≡ snaps ++ (act ∷ [])
  split = active_last c ds sound_c

  sound_t : chain t ≡ Sound es
  sound_t = snapped_chain c name e

  after : descriptors_of t ≡ es
  after = descriptors_are t es sound_t

  after_snoc : descriptors_of t ≡ (snaps ++ (old ∷ [])) ++ (new ∷ [])
  after_snoc = after ∙ sym (append_assoc snaps (old ∷ []) (new ∷ []))

  rise : act.alpha.0 < act.beta.0
  rise = active_rise c ds sound_c

  long : length t ≡ length c
  long = stored_length (length c) c refl (snap_whole c name e)

  owners : (q : ℕ) → q < act.beta.0 → owner_index es q ≡ owner_index ds q
  owners = same_owners c ds es snaps act old [] (new ∷ []) sound_c split refl refl (omega arith)

  -- the snapshots that stood before: every block below the active alpha is kept
  low : 0 < act.alpha.0 → Below c t act.alpha.0
  low h = below_stored c (snap_stores c name) act.alpha.0 (snap_whole c name e) h (omega (arith, active_inside c ds sound_c)) (snap_above c name e)

  first_at : (k : ℕ) → k < length snaps → placed_volume t (get_or ds k no_descriptor) ≡ placed_volume c (get_or ds k no_descriptor)
  unfolding placed_volume
  first_at k h =
      let d = get_or ds k no_descriptor in
      let in_chain : k < length ds = omega (arith, counted c name pass e) in
      let upto = active_after c ds sound_c k (omega (arith, counted c name pass e)) in
      let r = region_below c ds sound_c k in_chain in
      let region : Region d act.alpha.0 = record { some = r.some; upto = upto; own = r.own; few = r.few } in
      volume_kept c t es act.alpha.0 after (λ q b. owners q (omega (arith, b, rise))) d d (form_layout c _ d (region_at c ds sound_c k in_chain).form) refl refl (pass.rules k in_chain) region
      (blocks_kept c name pass e d r.upto) (first_kept c name pass e k h)
      (λ i b. sym (local_table c t act.alpha.0 (low (omega (arith, r.some, upto))) d region i (omega (arith, b, r.few))))

  region_act : Region act act.beta.0
  region_act = active_region c ds sound_c

  -- the snapshot made
  phi_old : (i : ℕ) → i < 112 → phi_at t old i ≡ phi_at c act i
  unfolding phi_at
  phi_old i h = old_phi c name pass e i h

  volume_old : placed_volume t old ≡ named_volume (placed_volume c act) name
  unfolding placed_volume
  volume_old =
      volume_kept c t es act.beta.0 after owners act old (act_layout c name pass e) refl refl (act_rules c name pass e) region_act (blocks_kept c name pass e act (omega arith)) (old_kept c name pass e)
      (λ i b. table_as c t act old i refl refl (phi_old i (omega (arith, b, region_act.few))))

  -- the region opened
  new_is : get_or es (suc (length snaps)) no_descriptor ≡ new
  new_is =
      let k : suc (length snaps) ≡ length snaps + 1 = omega arith in
      ap (λ (i : ℕ). get_or es i no_descriptor) k ∙ get_or-append-add snaps (old ∷ new ∷ []) 1 no_descriptor

  volume_new : placed_volume t new ≡ placed_opening (placed_of c) (placed_volume c act) (suc (length snaps))
  unfolding placed_volume placed_opening placed_of
  volume_new =
      volume_opened c t es act.beta.0 after owners act new (act_layout c name pass e) refl refl (act_rules c name pass e) region_act (blocks_kept c name pass e act (omega arith)) (new_kept c name pass e)
      sound_t (suc (length snaps)) (omega (arith, length-append snaps (old ∷ new ∷ []))) new_is (new_phi c name pass e)

  volumes_after : placed_volumes t (snaps ++ (old ∷ [])) ≡ placed_volumes c snaps ++ (named_volume (placed_volume c act) name ∷ [])
  unfolding placed_volumes
  volumes_after =
      volumes_append t snaps (old ∷ [])
      ∙ ap (λ (vs : List PlacedVolume). vs ++ (placed_volume t old ∷ [])) (volumes_same c t snaps (λ k h. subst (λ (y : Descriptor). placed_volume t y ≡ placed_volume c y) (first_is c name pass e k h) (first_at k h)))
      ∙ ap (λ (v : PlacedVolume). placed_volumes c snaps ++ (v ∷ [])) volume_old

  blocks_after : block_count t ≡ block_count c
  unfolding block_count
  blocks_after = ap (λ (m : ℕ). m / 512) long

  pub placed_snap : placed_of (store_all c (snap_stores c name)) ≡ placed_change (Snaps name) (placed_of c)
  unfolding placed_change placed_of
  placed_snap =
      placed_parts t blocks_after (snapped_revision c name e) (ap snapshots_of after_snoc ∙ snapshots_snoc (snaps ++ (old ∷ [])) new) (ap active_of after_snoc ∙ active_snoc (snaps ++ (old ∷ [])) new) refl refl volumes_after
      (volume_new ∙ ap (λ (k : ℕ). placed_opening (placed_of c) (placed_volume c act) (suc k)) (sym (placed_length c snaps)))
