-- The chain after a descriptor block was stored: the descriptors before it, then what was stored.
use mathlib.Core.Path.{◌≡◌, refl, sym, ap, ◌∙◌}
use mathlib.Core.Logic.{◌⊎◌, inl}
use mathlib.Core.Bool.{Bool, true, false}
use mathlib.Core.List.{List, [], ◌∷◌, ◌++◌}
use Prim.Native.Nat.{ℕ, ◌+◌, ◌*◌, ◌≤◌, ◌<◌}
use native.Mathlib.Omega.{arith}
use lib.ListN.{length, length-append}
use lib.Dec.{eqb}
use borrow.Author.Tests.{eqb-true, eqb-false}
use Rattle.blocks.specs.Bytes.{u32_at, part, block_count, block_at}
use Rattle.blocks.specs.Name.{is_name}
use Rattle.blocks.specs.Descriptor.{cost_of, descriptor_at, revision_at, revision_of, descriptor_block, reopened_of, tail_at, reserved_ok, phi_ok}
use Rattle.chains.specs.Chain.{named, sound, Sound, chain}
use Rattle.blocks.specs.declared.descriptor.Descriptor.{Descriptor}
use Rattle.blocks.proofs.ByteLaws.{u32_part}
use Rattle.blocks.proofs.DescriptorLaws.{Fits, tail_length, revision_tail, cost_least}
use Rattle.links.proofs.ChainLaws.{region_layout, region_volume}
use Rattle.links.proofs.LinkedLaws.{last, chain_linked}
use Rattle.links.proofs.SharedLaws.{linked_chain, shared_descriptor, shared_revision}
use Rattle.links.proofs.RelinkedLaws.{relinked}
use Rattle.links.proofs.StoredLaws.{stored_descriptor, stored_revision, stored_form, region_ok_lem}
use Rattle.links.proofs.MemberLaws.{member_region, member_form, member_inside, member_reserved, member_revision, member_phi}

-- a descriptor of a chain, by its place in the list
module _ (s : List ℕ) (ds xs : List Descriptor) (d : Descriptor) (ys : List Descriptor) (sound_s : chain s ≡ Sound ds) (split : ds ≡ xs ++ (d ∷ ys)) where
  abbrev inside : 512 * d.alpha.0 + 512 ≤ length s
  inside = member_inside s ds xs d ys sound_s split

  -- the card t has e with some tail in the block of d, and the blocks before it as they were
  module _ (t : List ℕ) (long : length s ≡ length t) (kept : (q : ℕ) → q < d.alpha.0 → block_at s q ≡ block_at t q)
      (e : Descriptor) (tail : List ℕ) (is : block_at t d.alpha.0 ≡ descriptor_block e tail) (fits : Fits e) (whole : length tail ≡ 472)
      (layout : e.layout ≡ d.layout) (volume : e.volume ≡ d.volume) (alpha : e.alpha.0 ≡ d.alpha.0) (name : is_name e.name ≡ true)
      (reserved : part tail 0 24 ≡ part (tail_at s d.alpha.0) 0 24) (phi : phi_ok d.layout (part tail 24 448) ≡ true)
      (region : e.alpha.0 + cost_of e ≤ e.beta.0) (end : e.beta.0 ≤ block_count t)
      (next : (e.next.0 ≡ 0) ⊎ ((e.next.0 ≡ e.beta.0) × (e.beta.0 < block_count t)))
      (fresh : named xs e.name ≡ false) where
    in_t : 512 * d.alpha.0 + 512 ≤ length t
    in_t = omega (arith, inside)

    changed_is : descriptor_at t d.alpha.0 ≡ e
    changed_is = stored_descriptor t d.alpha.0 in_t e tail is fits whole

    first_by : (z : Bool) → eqb d.alpha.0 0 ≡ z → (e.layout ≡ (descriptor_at t 0).layout) × (e.volume ≡ (descriptor_at t 0).volume)
    first_by true h = let a = eqb-true d.alpha.0 0 h in let q : descriptor_at t 0 ≡ e = rw (← a) changed_is in rw q (refl, refl)
    first_by false h =
        let a = eqb-false d.alpha.0 0 h in
        let q : descriptor_at s 0 ≡ descriptor_at t 0 = shared_descriptor s t 0 (omega (arith, inside)) (omega (arith, in_t)) (kept 0 (omega arith)) in
        rw (← q) (
          layout ∙ region_layout (descriptor_at s 0) (block_count s) d.alpha.0 d (member_region s ds xs d ys sound_s split),
          volume ∙ region_volume (descriptor_at s 0) (block_count s) d.alpha.0 d (member_region s ds xs d ys sound_s split),
        )

    pub changed_first : (e.layout ≡ (descriptor_at t 0).layout) × (e.volume ≡ (descriptor_at t 0).volume)
    changed_first = first_by (eqb d.alpha.0 0) refl

    -- the revision of the block, and of the card
    own_revision : revision_at t d.alpha.0 ≡ revision_of s
    own_revision =
        stored_revision t d.alpha.0 in_t e tail is fits whole
        ∙ sym (u32_part tail 0 24 0 (omega arith))
        ∙ ap (λ (b : List ℕ). u32_at b 0) reserved
        ∙ u32_part (tail_at s d.alpha.0) 0 24 0 (omega arith)
        ∙ revision_tail s d.alpha.0
        ∙ (member_revision s ds xs d ys sound_s split).1

    revision_by : (z : Bool) → eqb d.alpha.0 0 ≡ z → revision_of t ≡ revision_of s
    revision_by true h = let a = eqb-true d.alpha.0 0 h in rw a at own_revision
    revision_by false h = let a = eqb-false d.alpha.0 0 h in sym (shared_revision s t 0 (omega (arith, inside)) (omega (arith, in_t)) (kept 0 (omega arith)))

    pub changed_revision : revision_of t ≡ revision_of s
    changed_revision = revision_by (eqb d.alpha.0 0) refl

    changed_reserved : reserved_ok (revision_of t) (part tail 0 24) ≡ true
    changed_reserved = rw (changed_revision, reserved) (member_reserved s ds xs d ys sound_s split)

    pub changed_ok : sound t xs d.alpha.0 ≡ true
    unfolding sound
    changed_ok =
        let f = changed_first in
        rw (
          changed_is,
          stored_form t d.alpha.0 in_t e tail is fits whole d layout volume name s d.alpha.0 (member_form s ds xs d ys sound_s split) changed_reserved phi,
          region_ok_lem (descriptor_at t 0) (block_count t) d.alpha.0 e f.0 f.1 alpha region end next,
          fresh,
        )

    -- e ends the chain, and the card keeps its revision
    pub changed_last : e.next.0 ≡ 0 → length xs < 256 → (chain t ≡ Sound (xs ++ (e ∷ []))) × (revision_of t ≡ revision_of s)
    changed_last z few = (
      linked_chain t (xs ++ (e ∷ []))
          (relinked s t long d ys (e ∷ []) (omega (arith, inside)) kept (chain_linked s ds sound_s) xs split (last (sym changed_is) changed_ok z))
          (omega (arith, length-append xs (e ∷ []))),
      changed_revision,
    )

  -- a region opened at the beta of d: the card t has there the descriptor of w's region, where w is d under a name and with a nil next, and the tail of d's block
  module _ (t : List ℕ) (long : length s ≡ length t) (revision : revision_of t ≡ revision_of s) (first : (d.layout ≡ (descriptor_at t 0).layout) × (d.volume ≡ (descriptor_at t 0).volume))
      (w : Descriptor) (layout : w.layout ≡ d.layout) (volume : w.volume ≡ d.volume) (beta : w.beta.0 ≡ d.beta.0) (name : is_name w.name ≡ true) (nil : w.next.0 ≡ 0)
      (room : d.beta.0 + cost_of d ≤ block_count t) (is : block_at t d.beta.0 ≡ descriptor_block (reopened_of w) (tail_at s d.alpha.0)) (fits : Fits (reopened_of w)) where
    abbrev new : Descriptor
    new = reopened_of w

    tail_whole : length (tail_at s d.alpha.0) ≡ 472
    tail_whole = tail_length s d.alpha.0 inside

    same_cost : cost_of w ≡ cost_of d
    same_cost = rw (layout, volume)

    opened_in : 512 * d.beta.0 + 512 ≤ length t
    unfolding block_count
    opened_in = omega (arith, room, cost_least d.layout d.volume)

    pub opened_is : descriptor_at t d.beta.0 ≡ reopened_of w
    opened_is = stored_descriptor t d.beta.0 opened_in new (tail_at s d.alpha.0) is fits tail_whole

    opened_reserved : reserved_ok (revision_of t) (part (tail_at s d.alpha.0) 0 24) ≡ true
    opened_reserved = rw revision (member_reserved s ds xs d ys sound_s split)

    pub opened_ok : (es : List Descriptor) → named es w.name ≡ false → sound t es d.beta.0 ≡ true
    unfolding sound
    opened_ok es fresh =
        rw (
          opened_is,
          stored_form t d.beta.0 opened_in new (tail_at s d.alpha.0) is fits tail_whole d layout volume name s d.alpha.0 (member_form s ds xs d ys sound_s split) opened_reserved (member_phi s ds xs d ys sound_s split),
          region_ok_lem (descriptor_at t 0) (block_count t) d.beta.0 new (layout ∙ first.0) (volume ∙ first.1) beta (omega (arith, same_cost)) (omega (arith, room, beta, same_cost)) (inl nil),
          fresh,
        )
