-- The descriptors of a sound chain, each by its place: that it is sound, where its region stands, and what its block holds.
use mathlib.Core.Path.{◌≡◌, refl, sym, ap, ◌∙◌}
use mathlib.Core.Bool.{Bool, true, false, not, ◌&&◌, ◌||◌}
use mathlib.Core.List.{List, [], ◌∷◌, ◌++◌, append_assoc}
use Prim.Native.Nat.{ℕ, ◌+◌, ◌*◌, ◌≤◌, ◌<◌}
use native.Mathlib.Omega.{arith}
use lib.ListN.{length}
use lib.Dec.{eqb}
use borrow.Author.Tests.{eqb-true, not-true}
use Rattle.blocks.specs.Bytes.{part, block_count}
use Rattle.blocks.specs.Name.{is_name}
use Rattle.blocks.specs.Descriptor.{cost_of, descriptor_at, revision_at, revision_of, revision_ok, reserved_ok, phi_ok, tail_at}
use Rattle.chains.specs.Chain.{form_ok, region_ok, named, sound, Sound, chain, active_of}
use Rattle.blocks.specs.declared.descriptor.Descriptor.{Descriptor}
use Rattle.blocks.proofs.Tests.{and_right}
use Rattle.links.proofs.ChainLaws.{region_layout, region_volume, region_end, region_long}
use Rattle.blocks.proofs.DescriptorLaws.{cost_least, revision_part, reserved_revision}
use Rattle.links.proofs.LinkedLaws.{Linked, chain_linked, sound_form, sound_region, linked_rise, region_start_suc, region_start_zero, end_from, active_append}
use Rattle.links.proofs.RelinkedLaws.{linked_from, linked_head, linked_follows}
use Rattle.links.proofs.StoredLaws.{tail_part, form_kept, form_phi, form_name}
use Rattle.links.proofs.SoundLaws.{form_layout, form_most}

-- a layout is small
layout_by : (l : ℕ) (x y : Bool) → eqb l 1 ≡ x → eqb l 2 ≡ y → (x || y) ≡ true → l ≤ 2
layout_by l true y e f h = omega (arith, eqb-true l 1 e)
layout_by l false true e f h = omega (arith, eqb-true l 2 f)
layout_by l false false e f h = let y : ◌≡◌ {A = ℕ} 0 1 = cc in absurd (omega arith)

pub layout_small : (l : ℕ) → (eqb l 1 || eqb l 2) ≡ true → l ≤ 2
layout_small l h = layout_by l (eqb l 1) (eqb l 2) refl refl h

-- the first region of some ends where the last does, or before
end_upto : {c : List ℕ} {es : List Descriptor} {p : ℕ} {v : Descriptor} {ys : List Descriptor} → Linked c es p (v ∷ ys) → v.beta.0 ≤ (active_of (v ∷ ys)).beta.0
end_upto {c = c} {es = es} {p = p} {v = v} {ys = ys} l =
    omega (arith, end_from p v ys, linked_rise l 1 (length (v ∷ ys)) (omega arith) (omega arith), region_start_suc p v ys 0, region_start_zero v.beta.0 ys)

-- a descriptor of a chain, by its place in the list
module _ (s : List ℕ) (ds xs : List Descriptor) (d : Descriptor) (ys : List Descriptor) (sound_s : chain s ≡ Sound ds) (split : ds ≡ xs ++ (d ∷ ys)) where
  pub member_from : Linked s xs d.alpha.0 (d ∷ ys)
  member_from = linked_from s (chain_linked s ds sound_s) xs d ys split

  pub member_is : d ≡ descriptor_at s d.alpha.0
  member_is = (linked_head s member_from d ys refl).0

  member_ok : sound s xs d.alpha.0 ≡ true
  member_ok = (linked_head s member_from d ys refl).1

  pub member_form : form_ok s d.alpha.0 d ≡ true
  member_form = sound_form s xs d.alpha.0 d member_is member_ok

  pub member_region : region_ok (descriptor_at s 0) (block_count s) d.alpha.0 d ≡ true
  member_region = sound_region s xs d.alpha.0 d member_is member_ok

  pub member_fresh : named xs d.name ≡ false
  unfolding sound
  member_fresh =
      rw member_is
      (not-true (named xs (descriptor_at s d.alpha.0).name)
      (and_right (form_ok s d.alpha.0 (descriptor_at s d.alpha.0) && region_ok (descriptor_at s 0) (block_count s) d.alpha.0 (descriptor_at s d.alpha.0))
      (not (named xs (descriptor_at s d.alpha.0).name)) member_ok))

  -- its region: where it ends, and that it holds its descriptor and its own tables
  pub member_long : d.alpha.0 + cost_of d ≤ d.beta.0
  member_long = region_long (descriptor_at s 0) (block_count s) d.alpha.0 d member_region

  pub member_end : d.beta.0 ≤ block_count s
  member_end = region_end (descriptor_at s 0) (block_count s) d.alpha.0 d member_region

  pub member_rise : d.alpha.0 < d.beta.0
  member_rise = omega (arith, member_long, cost_least d.layout d.volume)

  pub member_inside : 512 * d.alpha.0 + 512 ≤ length s
  unfolding block_count
  member_inside = omega (arith, member_rise, member_end)

  pub member_upto : d.beta.0 ≤ (active_of ds).beta.0
  member_upto = omega (arith, end_upto member_from, ap (λ (x : Descriptor). x.beta.0) (active_append xs d ys), ap (λ (zs : List Descriptor). (active_of zs).beta.0) split)

  -- its fields and its tail
  pub member_layout : d.layout ≤ 2
  member_layout = layout_small d.layout (form_layout s d.alpha.0 d member_form)

  pub member_volume : d.volume ≤ 14336
  member_volume = form_most s d.alpha.0 d member_form

  pub member_name : is_name d.name ≡ true
  member_name = form_name s d.alpha.0 d member_form

  pub member_reserved : reserved_ok (revision_of s) (part (tail_at s d.alpha.0) 0 24) ≡ true
  member_reserved =
      let a = d.alpha.0 in
      let e : 512 * a + 40 + 0 ≡ 512 * a + 40 = omega arith in
      rw (tail_part s a 0 24 member_inside (omega arith), e) (form_kept s a d member_form)

  -- its revision is one, and the card's
  pub member_revision : (revision_ok (revision_at s d.alpha.0) ≡ true) × (revision_at s d.alpha.0 ≡ revision_of s)
  member_revision =
      let a = d.alpha.0 in
      let h = reserved_revision (revision_of s) (part s (512 * a + 40) 24) (form_kept s a d member_form) in
      rw (← (revision_part s a)) h

  pub member_phi : phi_ok d.layout (part (tail_at s d.alpha.0) 24 448) ≡ true
  member_phi =
      let a = d.alpha.0 in
      let e : 512 * a + 40 + 24 ≡ 512 * a + 64 = omega arith in
      rw (tail_part s a 24 448 member_inside (omega arith), e) (form_phi s a d member_form)

-- a descriptor that another follows: next is its beta, and the one after it opens a region there, of as many blocks as this one opened with
module _ (s : List ℕ) (ds xs : List Descriptor) (d e : Descriptor) (ys : List Descriptor) (sound_s : chain s ≡ Sound ds) (split : ds ≡ xs ++ (d ∷ e ∷ ys)) where
  next_split : ds ≡ (xs ++ (d ∷ [])) ++ (e ∷ ys)
  next_split = split ∙ sym (append_assoc xs (d ∷ []) (e ∷ ys))

  follows : (d.next.0 ≡ d.beta.0) × (e.alpha.0 ≡ d.beta.0)
  follows = linked_follows s (member_from s ds xs d (e ∷ ys) sound_s split) d e ys refl

  pub member_next : d.next.0 ≡ d.beta.0
  member_next = follows.0

  same_cost : cost_of e ≡ cost_of d
  same_cost =
      let first = descriptor_at s 0 in
      let of_d = member_region s ds xs d (e ∷ ys) sound_s split in
      let of_e = member_region s ds (xs ++ (d ∷ [])) e ys sound_s next_split in
      let layout : e.layout ≡ d.layout = region_layout first (block_count s) e.alpha.0 e of_e ∙ sym (region_layout first (block_count s) d.alpha.0 d of_d) in
      let volume : e.volume ≡ d.volume = region_volume first (block_count s) e.alpha.0 e of_e ∙ sym (region_volume first (block_count s) d.alpha.0 d of_d) in
      rw (layout, volume)

  pub member_room : d.beta.0 + cost_of d ≤ (active_of ds).beta.0
  member_room =
      omega (arith, follows.1, same_cost, member_long s ds (xs ++ (d ∷ [])) e ys sound_s next_split, member_upto s ds (xs ++ (d ∷ [])) e ys sound_s next_split)

  pub member_room_end : d.beta.0 + cost_of d ≤ block_count s
  member_room_end =
      omega (arith, follows.1, same_cost, member_long s ds (xs ++ (d ∷ [])) e ys sound_s next_split, member_end s ds (xs ++ (d ∷ [])) e ys sound_s next_split)
