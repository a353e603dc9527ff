-- What a format, a write, a snap and a revert store: whole blocks of the card, given what their tests have shown.
use mathlib.Core.Path.{◌≡◌, refl}
use mathlib.Core.Bool.{Bool, true, false}
use mathlib.Core.List.{List, [], ◌∷◌, ◌++◌}
use Prim.Native.Nat.{ℕ, ◌+◌, ◌*◌, ◌-◌, ◌≤◌, ◌<◌}
use native.Mathlib.Omega.{arith}
use lib.ListN.{length}
use lib.Dec.{eqb}
use Rattle.blocks.specs.Pick.{pick}
use Rattle.blocks.specs.Bytes.{block_count, store}
use Rattle.blocks.specs.Name.{is_name}
use Rattle.blocks.specs.Descriptor.{cost_of, revision_of, first_of, first_tail, tail_at, descriptor_block, renamed_of, linked_of, reopened_of, reopening, opening, cost_in}
use Rattle.chains.specs.Chain.{Sound, chain, chain_sound, named, Regions, regions_of, active_of}
use Rattle.blocks.specs.declared.descriptor.Descriptor.{Descriptor}
use Rattle.links.proofs.MemberLaws.{member_rise}
use Rattle.blocks.proofs.DescriptorLaws.{tail_length, block_whole, cost_least, first_tail_length}
use Rattle.blocks.proofs.RegionLaws.{reopening_whole}
use Rattle.blocks.proofs.NameLaws.{name_size_lem}
use Rattle.entries.specs.Entry.{find, need, writing}
use Rattle.entries.specs.Found.{Found, Misplaced, Entry}
use Rattle.entries.proofs.PutLaws.{write_ready, entry_inside}
use Rattle.calls.specs.Parts.{area_bad, descriptors_of, snapshots_of, with_name, found_through}
use Rattle.calls.specs.Stores.{activated_of, snapping, reverting, write_stores, snap_stores, revert_stores}
use Rattle.calls.proofs.CardLaws.{chain_is}
use Rattle.calls.proofs.VisitLaws.{before, behind, visit_split, visit_end}
use Rattle.calls.proofs.Passed.{ReamPassed, WritePassed, SnapPassed, RevertPassed}
use Rattle.blocks.proofs.StoreLists.{Whole, none, also, whole_append, inside_clearing, inside_copying}
use Rattle.blocks.specs.declared.descriptor.Format.{Format}
use Rattle.calls.proofs.ActiveLaws.{active_name_lem, active_through, active_inside, active_rise}

-- a format
module _ (c : List ℕ) (format : Format) where
  ream_inside : is_name format.name ≡ true → cost_in format ≤ block_count c → Whole (length c) (opening format)
  unfolding opening block_count
  ream_inside called room =
      let least = cost_least format.layout format.volume in
      whole_append (inside_clearing (length c) 1 (cost_in format - 1) (omega arith))
      (also 0 (descriptor_block (first_of format) (first_tail format.revision)) (block_whole (first_of format) (first_tail format.revision) (name_size_lem format.name called) (first_tail_length format.revision)) (omega arith) none)

module _ (c : List ℕ) (area : area_bad c ≡ false) (sound : chain_sound (chain c) ≡ true) where
  abbrev r : Regions
  r = regions_of (chain c)

  abbrev active : Descriptor
  active = active_of (descriptors_of c)

  called_by : length active.name ≡ 16
  called_by = name_size_lem active.name (active_name_lem c (descriptors_of c) (chain_is (chain c) sound))

  active_alpha : 512 * active.alpha.0 + 512 ≤ length c
  active_alpha = active_inside c (descriptors_of c) (chain_is (chain c) sound)

  snap_inside : (name : List ℕ) → is_name name ≡ true → active.beta.0 + cost_of active ≤ block_count c → Whole (length c) (snapping c active name)
  unfolding snapping block_count
  snap_inside name called room =
      let least = cost_least active.layout active.volume in
      let tail = tail_length c active.alpha.0 active_alpha in
      whole_append (inside_copying c (active.alpha.0 + 1) (active.beta.0 + 1) (cost_of active - 1) (omega (arith, active_rise c (descriptors_of c) (chain_is (chain c) sound))) (omega arith))
      (also active.beta.0 _ (block_whole (reopened_of active) (tail_at c active.alpha.0) called_by tail) (omega arith)
      (also active.alpha.0 _ (block_whole (linked_of (renamed_of active name) active.beta) (tail_at c active.alpha.0) (name_size_lem name called) tail) active_alpha none))

  -- a revert: on either revision, its stores stand where the snapshot and the one after it do
  module _ (name : List ℕ) (there : named (snapshots_of (descriptors_of c)) name ≡ true) where
    abbrev ds : List Descriptor
    ds = descriptors_of c

    abbrev v : Descriptor
    v = with_name (snapshots_of ds) name

    sound_c : chain c ≡ Sound ds
    sound_c = chain_is (chain c) sound

    visit_rise : v.alpha.0 < v.beta.0
    visit_rise = member_rise c ds (before (snapshots_of ds) name) v (behind (snapshots_of ds) name ++ (active_of ds ∷ [])) sound_c (visit_split c ds sound_c name there)

    visit_bytes : 512 * (v.beta.0 + cost_of v) ≤ length c
    unfolding block_count
    visit_bytes = omega (arith, visit_end c ds sound_c name there)

    inside_by : (z : Bool) → Whole (length c) (pick z (reopening c (activated_of v active.name) []) (store v.alpha.0 (descriptor_block (activated_of v active.name) (tail_at c v.alpha.0)) ∷ []))
    inside_by true = reopening_whole c (activated_of v active.name) visit_rise visit_bytes called_by
    inside_by false =
        let inside : 512 * v.alpha.0 + 512 ≤ length c = omega (arith, visit_rise, visit_bytes) in
        also v.alpha.0 _ (block_whole (activated_of v active.name) (tail_at c v.alpha.0) called_by (tail_length c v.alpha.0 inside)) inside none

    revert_inside : Whole (length c) (reverting c v active.name)
    unfolding reverting
    revert_inside = inside_by (eqb (revision_of c) 1)

  module _ (l : ℕ) (block : List ℕ) (long : length block ≡ 512) (below : l < active.volume) where
    write_by : (f : Found) → f ≡ find c (descriptors_of c) active l → active.beta.0 + need active.alpha.0 f ≤ block_count c → Whole (length c) (writing c active f l block)
    unfolding writing block_count
    write_by (Misplaced h) is room = none
    write_by (Entry m p) is room =
        entry_inside c active m p l block (write_ready c r.starts r.count active (active_through c area sound) l block long below (Entry m p) is m p refl) called_by room

    write_inside : active.beta.0 + need active.alpha.0 (found_through c active l) ≤ block_count c → Whole (length c) (writing c active (found_through c active l) l block)
    write_inside room = write_by (found_through c active l) refl room

-- the stores of each change of a card
pub ream_whole : (c : List ℕ) (format : Format) → ReamPassed c format → Whole (length c) (opening format)
ream_whole c format h = ream_inside c format h.called h.room

pub write_whole : (c : List ℕ) (l : ℕ) (block : List ℕ) → WritePassed c l block → Whole (length c) (write_stores c l block)
unfolding write_stores
write_whole c l block h = write_inside c h.area h.sound l block h.whole h.below h.room

pub snap_whole : (c name : List ℕ) → SnapPassed c name → Whole (length c) (snap_stores c name)
unfolding snap_stores
snap_whole c name h = snap_inside c h.area h.sound name h.called h.room

pub revert_whole : (c name : List ℕ) → RevertPassed c name → Whole (length c) (revert_stores c name)
unfolding revert_stores
revert_whole c name h = revert_inside c h.area h.sound name h.there
