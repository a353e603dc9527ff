-- Laws of where a snapshot is taken: by the tests of the code that looks for it, and what a snap knows of it.
use mathlib.Core.Path.{◌≡◌, refl, sym, ap, ◌∙◌}
use mathlib.Core.Bool.{Bool, true, false, not}
use mathlib.Core.List.{List, [], ◌∷◌, ◌++◌}
use Prim.Native.Nat.{ℕ, ◌+◌, ◌*◌, ◌-◌, ◌/◌, ◌≤◌, ◌<◌}
use native.Mathlib.Omega.{arith}
use lib.ListN.{length, take, drop, get_or}
use lib.Dec.{eqb, ltb}
use borrow.Author.Tests.{le-leb, lt-leb, lt-ltb, le-ltb, eq-eqb, not-false}
use Rattle.blocks.specs.Pick.{pick}
use Rattle.blocks.specs.Bytes.{block_count, store_all}
use Rattle.blocks.specs.Name.{is_name}
use Rattle.blocks.specs.Descriptor.{physical, cost_of, descriptor_at}
use Rattle.blocks.specs.declared.numbers.Physical.{Physical}
use Rattle.blocks.specs.declared.descriptor.Descriptor.{Descriptor}
use Rattle.blocks.proofs.DescriptorLaws.{cost_least}
use Rattle.chains.specs.Chain.{Sound, chain, chain_sound, named, descriptors, descriptors_at, walk_of, active_of}
use Rattle.chains.specs.Chain.{Walk}
use Rattle.calls.specs.declared.answer.Answer.{Answer}
use Rattle.calls.specs.Effect.{Site, no_site, site_of}
use Rattle.calls.specs.declared.answer.Refusal.{Refusal}
use Rattle.calls.specs.Call.{Snap, None, answer, accepted, refused}
use Rattle.calls.specs.Parts.{area_bad, snapshots_of, SoundCard}
use Rattle.calls.specs.Ladder.{Row, row, first_row, admission, site_rows, snap_rows}
use Rattle.calls.specs.Stores.{snapping, snap_stores}
use Rattle.calls.specs.Meaning.{rows_of, answer_of, stores_of, filled_of, given_of}
use Rattle.calls.specs.Step.{step, done}
use Rattle.calls.proofs.CardLaws.{card_sound, card_some, card_all, card_at, card_alpha, card_active, card_snapshot_count, card_small, chain_is}
use Rattle.calls.proofs.ActiveLaws.{active_here, active_inside, active_long}
use Rattle.calls.proofs.RowLaws.{numbered, fresh, none, first_append, row_given, row_passed, last_passed, chain_given, chain_passed, card_admitted, name_passed}
use Rattle.calls.proofs.StepLaws.{step_accepted}
use Rattle.calls.proofs.ResultLaws.{refused_test, admitted}

site_numbered : (c name : List ℕ) → numbered (site_rows c name) ≡ true
unfolding numbered fresh
site_numbered c name = refl

-- by the row that is given
refused_by : (c name : List ℕ) (n p : ℕ) → first_row (site_rows c name) ≡ answer n p → eqb n 0 ≡ false → no_site (answer n p) ≡ site_of c name
unfolding site_of
refused_by c name n p e z = rw (e, z)

-- by the tests of the code, in their order
pub site_6 : (c name : List ℕ) (w : Walk) → w ≡ walk_of (chain c) → not w.sound ≡ true → no_site (answer 6 w.place.0) ≡ site_of c name
site_6 c name w walked h = refused_by c name 6 w.place.0 (chain_given _ c w walked h) refl

module _ (c name : List ℕ) (count : ℕ) (starts : List ℕ) (s : SoundCard c count starts) (u : Bool) (used : u ≡ named (descriptors_at c (take count starts)) name) where
  to_name : first_row (site_rows c name) ≡ first_row (drop 1 (site_rows c name))
  to_name = chain_passed _ c (card_sound c _ (sym s.regions) refl)

  used_is : named (descriptors (chain c)) name ≡ u
  used_is = ap (λ (ds : List Descriptor). named ds name) (sym (card_all c _ (sym s.regions) s.area refl)) ∙ sym used

  snapshots : length (snapshots_of (descriptors (chain c))) ≡ count - 1
  snapshots = card_snapshot_count c _ (sym s.regions) s.area refl

  pub site_12 : u ≡ true → no_site (answer 12 0) ≡ site_of c name
  site_12 e = refused_by c name 12 0 (to_name ∙ row_given _ _ (used_is ∙ e)) refl

  module _ (unused : u ≡ false) where
    to_count : first_row (site_rows c name) ≡ first_row (drop 2 (site_rows c name))
    to_count = to_name ∙ row_passed _ _ (used_is ∙ unused)

    pub site_13 : 255 < count → no_site (answer 13 0) ≡ site_of c name
    site_13 h = refused_by c name 13 0 (to_count ∙ row_given _ _ (rw snapshots (le-leb 255 (count - 1) (omega arith)))) refl

    -- the last start is the active descriptor's block
    last_start : get_or starts (count - 1) 0 ≡ (active_of (descriptors (chain c))).alpha.0
    last_start =
        let r = sym s.regions in
        let less : count - 1 < count = omega (arith, card_some c _ r s.area refl) in
        sym (ap (λ (x : Descriptor). x.alpha.0) (card_active c _ r s.area refl ∙ sym (card_at c _ r s.area refl (count - 1) less)) ∙ card_alpha c _ r s.area refl (count - 1) less)

    pub site_0 : count ≤ 255 → (alpha : Physical) → alpha ≡ physical (get_or starts (count - 1) 0) → ◌≡◌ {A = Site} (record { answer = accepted; alpha = alpha }) (site_of c name)
    unfolding site_of
    site_0 h alpha alpha_is =
        let fit = lt-leb 255 (count - 1) (omega (arith, card_some c _ (sym s.regions) s.area refl)) in
        rw (to_count ∙ last_passed _ (rw snapshots fit), alpha_is, last_start)

-- what a snap knows of where it is taken
module _ (c name : List ℕ) (asked : accepted ≡ first_row (admission c)) (n : Bool) (called : n ≡ is_name name) (good : n ≡ true) where
  abbrev ds : List Descriptor
  ds = descriptors (chain c)

  abbrev d : Descriptor
  d = active_of ds

  abbrev first : Answer
  first = first_row (site_rows c name)

  abbrev room : Answer
  room = pick (ltb (block_count c) (d.beta.0 + cost_of d)) (answer 11 0) accepted

  abbrev by : Bool → Site
  by t = pick t (record { answer = first; alpha = d.alpha }) (no_site first)

  abbrev room_row : Row
  room_row = row (ltb (block_count c) (d.beta.0 + cost_of d)) 11 0

  area : area_bad c ≡ false
  area = admitted c asked

  to_chain : answer_of (Snap name) c ≡ first_row (site_rows c name ++ (room_row ∷ []))
  unfolding answer_of rows_of snap_rows
  to_chain = card_admitted c area _ ∙ name_passed _ name n called (rw good)

  -- its answer: that of these rows, or where none holds that for want of room
  answer_is : answer_of (Snap name) c ≡ pick (eqb first.number 0) room first
  unfolding first_row
  answer_is = to_chain ∙ first_append (site_rows c name) (room_row ∷ []) (site_numbered c name)

  answer_by_lem : (at : Site) (t : Bool) → at ≡ by t → first ≡ at.answer
  answer_by_lem at true e = ap (λ (a : Site). a.answer) (sym e)
  answer_by_lem at false e = ap (λ (a : Site). a.answer) (sym e)

  first_is : (at : Site) → at ≡ site_of c name → first ≡ at.answer
  unfolding site_of
  first_is at e = answer_by_lem at (eqb first.number 0) e

  -- refused by one of these rows
  pub site_refused : (r : Refusal) → no_site (refused r) ≡ site_of c name → answer_of (Snap name) c ≡ refused r
  site_refused r e = let is = first_is (no_site (refused r)) e in answer_is ∙ rw (is, refused_test r)

  -- by none of them: the active descriptor, and the row for want of room is left
  module _ (alpha : Physical) (at_is : ◌≡◌ {A = Site} (record { answer = accepted; alpha = alpha }) (site_of c name)) where
    first_none : first ≡ accepted
    first_none = first_is (record { answer = accepted; alpha = alpha }) at_is

    passed : first.number ≡ 0
    passed = ap (λ (a : Answer). a.number) first_none

    alpha_is : alpha ≡ d.alpha
    unfolding site_of
    alpha_is = ap (λ (a : Site). a.alpha) (at_is ∙ ap by (eq-eqb first.number 0 passed))

    chained : chain c ≡ Sound ds
    chained = chain_is (chain c) (not-false (chain_sound (chain c)) (none (site_rows c name) (site_numbered c name) passed 0 (omega arith)))

    to_room : answer_of (Snap name) c ≡ room
    to_room = answer_is ∙ rw (eq-eqb first.number 0 passed)

    pub site_inside : 512 * alpha.0 + 512 ≤ length c
    site_inside = rw alpha_is (active_inside c ds chained)

    module _ (e : Descriptor) (e_is : e ≡ descriptor_at c alpha.0) (k : ℕ) (cost_is : k ≡ cost_of e) where
      active_is : e ≡ d
      active_is = e_is ∙ ap (λ (p : Physical). descriptor_at c p.0) alpha_is ∙ sym (active_here c ds chained)

      long : e.alpha.0 + k ≤ e.beta.0
      long = rw (cost_is, active_is) (active_long c ds chained)

      pub site_11 : length c / 512 < e.beta.0 + k → answer_of (Snap name) c ≡ answer 11 0
      unfolding block_count
      site_11 h = to_room ∙ rw (← active_is, ← cost_is, lt-ltb (length c / 512) (e.beta.0 + k) h)

      module _ (room : e.beta.0 + k ≤ length c / 512) where
        pub site_ready : (k ≡ cost_of e) × (e.alpha.0 + k ≤ e.beta.0) × (512 * (e.beta.0 + k) ≤ length c) × (e.beta.0 + k < 4294967296) × (1 ≤ k)
        site_ready = (cost_is, long, omega arith, omega (arith, card_small c area), omega (arith, cost_is, cost_least e.layout e.volume))

        pub site_done : (c' : List ℕ) → c' ≡ store_all c (snapping c e name) → done accepted None c' ≡ step (Snap name) c
        unfolding stores_of snap_stores filled_of given_of block_count
        site_done c' h =
            step_accepted (Snap name) c (to_room ∙ rw (← active_is, ← cost_is, le-ltb (length c / 512) (e.beta.0 + k) room)) None refl c'
            (h ∙ ap (λ (x : Descriptor). store_all c (snapping c x name)) active_is) refl
