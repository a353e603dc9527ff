-- What holds of a card whose chain is sound: its descriptors are the snapshots, then the active one, whose region is the last.
use mathlib.Core.Path.{◌≡◌, refl, sym, ap, ◌∙◌, subst}
use mathlib.Core.Bool.{true, false, not, ◌&&◌}
use mathlib.Core.List.{List, [], ◌∷◌, ◌++◌}
use Prim.Native.Nat.{ℕ, suc, ◌+◌, ◌*◌, ◌-◌, ◌≤◌, ◌<◌}
use native.Mathlib.Omega.{arith}
use lib.ListN.{length, get_or, length-append}
use lib.Seq.{length-take-le, get_or-take}
use borrow.Author.Tests.{not-false}
use Rattle.blocks.specs.Bytes.{part, block_count}
use Rattle.blocks.specs.Name.{is_name}
use Rattle.blocks.specs.Descriptor.{cost_of, no_descriptor, descriptor_at, revision_of, tail_at, reserved_ok, phi_ok}
use Rattle.chains.specs.Chain.{form_ok, named, Sound, chain, active_of, index_of, chain_sound, regions_of}
use Rattle.blocks.specs.declared.descriptor.Descriptor.{Descriptor}
use Rattle.chains.proofs.NamedLaws.{index_below}
use Rattle.links.proofs.ChainLaws.{region_volume, regions_ok}
use Rattle.blocks.proofs.DescriptorLaws.{cost_least}
use Rattle.links.proofs.SoundLaws.{form_most}
use Rattle.links.proofs.LinkedLaws.{Linked, chain_linked, chain_few, region_start, RegionAt, linked_some, linked_at, linked_rise, at_alpha, at_long, active_at, end_active}
use Rattle.links.proofs.RelinkedLaws.{linked_next}
use Rattle.links.proofs.MemberLaws.{member_from, member_form, member_fresh, member_inside, member_long, member_rise, member_end, member_layout, member_volume, member_name, member_reserved, member_phi}
use Rattle.entries.proofs.LocalLaws.{Region}
use Rattle.entries.proofs.TableLaws.{own_inside, few_tables}
use Rattle.calls.specs.Call.{Target, Active, Snapshot}
use Rattle.calls.specs.Parts.{snapshots_of, is_snapshot, target_of, area_bad, descriptors_of}
use Rattle.calls.proofs.CardLaws.{snapshots_at, active_split, card_found, card_active_through}
use Rattle.entries.specs.Through.{Through}

-- the descriptor that a read goes through is one of the chain
module _ (ds : List Descriptor) (some : 0 < length ds) where
  pub target_member : (target : Target) (name : List ℕ) → (is_snapshot target && not (named (snapshots_of ds) name)) ≡ false
      → (k : ℕ) × (k < length ds) × (target_of ds target name ≡ get_or ds k no_descriptor)
  unfolding target_of
  target_member Active name h = (length ds - 1, omega arith, active_at ds some)
  target_member Snapshot name h =
      let e = snapshots_at ds some in
      let n : length (snapshots_of ds) ≡ length ds - 1 = ap length e ∙ length-take-le (length ds - 1) ds (omega arith) in
      let i : index_of (snapshots_of ds) name < length (snapshots_of ds) = index_below (snapshots_of ds) name (not-false (named (snapshots_of ds) name) h) in (
        index_of (snapshots_of ds) name,
        omega arith,
        ap (λ (xs : List Descriptor). get_or xs (index_of (snapshots_of ds) name) no_descriptor) e
            ∙ get_or-take (length ds - 1) ds (index_of (snapshots_of ds) name) no_descriptor (omega arith),
      )

pub active_target : (ds : List Descriptor) → target_of ds Active [] ≡ active_of ds
unfolding target_of
active_target ds = refl

module _ (c : List ℕ) (ds : List Descriptor) (sound_c : chain c ≡ Sound ds) where
  pub chain_starts : Linked c [] 0 ds
  chain_starts = chain_linked c ds sound_c

  pub chain_some : 0 < length ds
  chain_some = linked_some chain_starts

  -- the region of each
  pub region_at : (k : ℕ) → k < length ds → RegionAt c (region_start 0 ds k) (region_start 0 ds (suc k)) (get_or ds k no_descriptor)
  region_at k h = linked_at chain_starts k h

  pub region_end_is : region_start 0 ds (length ds) ≡ (active_of ds).beta.0
  region_end_is = end_active ds chain_some

  pub region_below : (k : ℕ) → k < length ds → Region (get_or ds k no_descriptor) (active_of ds).beta.0
  region_below k h =
      let d = get_or ds k no_descriptor in
      let r = region_at k h in
      let a = at_alpha c _ _ d r in
      let l = at_long c _ _ d r in
      record {
        some = omega (arith, a, l, r.beta, cost_least d.layout d.volume);
        upto = omega (arith, r.beta, linked_rise chain_starts (suc k) (length ds) (omega arith) (omega arith), region_end_is);
        own = λ e. own_inside d d.alpha.0 d.beta.0 e (omega (arith, a, l, r.beta));
        few = few_tables d.volume (form_most c _ d r.form);
      }

  -- L is one for all
  pub volume_at : (k : ℕ) → k < length ds → (get_or ds k no_descriptor).volume ≡ (active_of ds).volume
  volume_at k h =
      region_volume (descriptor_at c 0) (block_count c) _ _ (region_at k h).region
      ∙ sym (region_volume (descriptor_at c 0) (block_count c) _ _ (region_at (length ds - 1) (omega (arith, chain_some))).region)
      ∙ ap (λ (d : Descriptor). d.volume) (sym (active_at ds chain_some))

  -- the active one is the last
  abbrev d : Descriptor
  d = active_of ds

  abbrev xs : List Descriptor
  xs = snapshots_of ds

  pub active_last : ds ≡ snapshots_of ds ++ (active_of ds ∷ [])
  active_last = active_split ds chain_some

  -- a snapshot's region ends where the active one starts, or before
  pub active_after : (k : ℕ) → suc k < length ds → (get_or ds k no_descriptor).beta.0 ≤ (active_of ds).alpha.0
  active_after k h =
      let n = length ds - 1 in
      let r = region_at n (omega (arith, chain_some)) in
      omega (arith, (region_at k (omega arith)).beta, at_alpha c _ _ _ r, ap (λ (y : Descriptor). y.alpha.0) (active_at ds chain_some), linked_rise chain_starts (suc k) n (omega arith) (omega arith))

  pub snapshots_few : length (snapshots_of ds) < 256
  snapshots_few = omega (arith, chain_few c ds sound_c, ap length active_last, length-append xs (d ∷ []))

  pub active_linked : Linked c (snapshots_of ds) (active_of ds).alpha.0 (active_of ds ∷ [])
  active_linked = member_from c ds xs d [] sound_c active_last

  -- it stands in its own block
  pub active_here : active_of ds ≡ descriptor_at c (active_of ds).alpha.0
  active_here =
      let k = length ds - 1 in
      let e = active_at ds chain_some in
      let r = region_at k (omega (arith, chain_some)) in
      let here : (active_of ds).alpha.0 ≡ region_start 0 ds k = ap (λ (x : Descriptor). x.alpha.0) e ∙ at_alpha c _ _ (get_or ds k no_descriptor) r in
      e ∙ r.is ∙ ap (descriptor_at c) (sym here)

  pub active_next : (active_of ds).next.0 ≡ 0
  active_next = linked_next c active_linked d refl

  pub active_form : form_ok c (active_of ds).alpha.0 (active_of ds) ≡ true
  active_form = member_form c ds xs d [] sound_c active_last

  pub active_fresh : named (snapshots_of ds) (active_of ds).name ≡ false
  active_fresh = member_fresh c ds xs d [] sound_c active_last

  pub active_inside : 512 * (active_of ds).alpha.0 + 512 ≤ length c
  active_inside = member_inside c ds xs d [] sound_c active_last

  pub active_long : (active_of ds).alpha.0 + cost_of (active_of ds) ≤ (active_of ds).beta.0
  active_long = member_long c ds xs d [] sound_c active_last

  pub active_rise : (active_of ds).alpha.0 < (active_of ds).beta.0
  active_rise = member_rise c ds xs d [] sound_c active_last

  pub active_end : (active_of ds).beta.0 ≤ block_count c
  active_end = member_end c ds xs d [] sound_c active_last

  pub active_layout : (active_of ds).layout ≤ 2
  active_layout = member_layout c ds xs d [] sound_c active_last

  pub active_volume : (active_of ds).volume ≤ 14336
  active_volume = member_volume c ds xs d [] sound_c active_last

  pub active_name_lem : is_name (active_of ds).name ≡ true
  active_name_lem = member_name c ds xs d [] sound_c active_last

  pub active_reserved : reserved_ok (revision_of c) (part (tail_at c (active_of ds).alpha.0) 0 24) ≡ true
  active_reserved = member_reserved c ds xs d [] sound_c active_last

  pub active_phi : phi_ok (active_of ds).layout (part (tail_at c (active_of ds).alpha.0) 24 448) ≡ true
  active_phi = member_phi c ds xs d [] sound_c active_last

-- the active descriptor as one through which entries are followed
pub active_through : (c : List ℕ) → area_bad c ≡ false → chain_sound (chain c) ≡ true → let r = regions_of (chain c) in Through c r.starts r.count (active_of (descriptors_of c))
active_through c area sound =
    let r = regions_of (chain c) in
    let ok = regions_ok (chain c) sound in
    subst (λ (d : Descriptor). Through c r.starts r.count d) (card_found c r refl area ok) (card_active_through c r refl area ok)
