-- Laws of where a write goes: by the tests of the code that looks for it, and what a write knows of it.
use mathlib.Core.Path.{◌≡◌, refl, sym, ap, ◌∙◌}
use mathlib.Core.Bool.{Bool, true, false, not}
use mathlib.Core.List.{List, [], ◌∷◌, ◌++◌}
use Prim.Native.Nat.{ℕ, ◌+◌, ◌*◌, ◌-◌, ◌≤◌, ◌<◌}
use native.Mathlib.Omega.{arith}
use lib.ListN.{length, drop}
use lib.Dec.{eqb, ltb}
use borrow.Author.Tests.{leb-false, eq-eqb, not-false}
use Rattle.blocks.specs.Pick.{pick}
use Rattle.blocks.specs.Bytes.{block_count, store_all}
use Rattle.blocks.specs.Descriptor.{physical, descriptor_at}
use Rattle.blocks.specs.declared.numbers.Physical.{Physical}
use Rattle.blocks.specs.declared.descriptor.Descriptor.{Descriptor}
use Rattle.chains.specs.Chain.{Sound, chain, chain_sound, descriptors, walk_of, active_of}
use Rattle.chains.specs.Chain.{Walk}
use Rattle.entries.specs.Entry.{find, locate, need, need_by, writing, found_block}
use Rattle.entries.specs.Through.{Through, WriteReady}
use Rattle.entries.specs.Found.{Found, Misplaced, Entry, Located, entry_in}
use Rattle.entries.specs.declared.find.Slot.{Slot}
use Rattle.entries.proofs.PutLaws.{write_ready}
use Rattle.entries.proofs.RegionLaws.{through_linked, through_count}
use Rattle.entries.proofs.OwnerLaws.{located_found, need_active}
use Rattle.calls.specs.declared.answer.Answer.{Answer}
use Rattle.std.specs.Prelude.{Ok}
use Rattle.calls.specs.declared.answer.Refusal.{Refusal}
use Rattle.calls.specs.declared.answer.Aim.{Aim as AimFound}
use Rattle.calls.specs.Effect.{Aim, no_aim, aim_of, aim_as, Written, written}
use Rattle.calls.specs.Call.{Write, Block, answer, accepted, refused}
use Rattle.calls.specs.Parts.{area_bad, is_misplaced, holder_of, SoundCard}
use Rattle.calls.specs.Ladder.{Row, row, first_row, admission, aim_rows, write_rows}
use Rattle.calls.specs.Stores.{write_stores}
use Rattle.calls.specs.Meaning.{rows_of, answer_of, lent_of, filled_of, stores_of, given_of}
use Rattle.calls.specs.Step.{Done, step, done}
use Rattle.calls.proofs.CardLaws.{card_sound, card_active_through, chain_is}
use Rattle.calls.proofs.ActiveLaws.{active_here, active_inside, active_through}
use Rattle.calls.proofs.RowLaws.{numbered, fresh, none, first_append, row_given, last_passed, chain_given, chain_passed, volume_given, volume_passed, card_admitted, block_passed}
use Rattle.calls.proofs.StepLaws.{step_refused, step_accepted}
use Rattle.calls.proofs.ResultLaws.{refused_test, admitted}

-- an entry that is in place is one
pub entry_is : (f : Found) → is_misplaced f ≡ false → f ≡ Entry (physical (holder_of f)) (physical (found_block f))
unfolding is_misplaced holder_of found_block
entry_is (Misplaced h) e = let z : ◌≡◌ {A = ℕ} 0 1 = cc in absurd (omega arith)
entry_is (Entry m p) e = refl

aim_numbered : (c : List ℕ) (l : ℕ) → numbered (aim_rows c l) ≡ true
unfolding numbered fresh
aim_numbered c l = refl

-- by the row that is given
refused_by : (c : List ℕ) (l n p : ℕ) → first_row (aim_rows c l) ≡ answer n p → eqb n 0 ≡ false → no_aim (answer n p) ≡ aim_of c l
unfolding aim_of
refused_by c l n p e z = rw (e, z)

-- by the tests of the code, in their order
pub aim_6 : (c : List ℕ) (l : ℕ) (w : Walk) → w ≡ walk_of (chain c) → not w.sound ≡ true → no_aim (answer 6 w.place.0) ≡ aim_of c l
aim_6 c l w walked h = refused_by c l 6 w.place.0 (chain_given _ c w walked h) refl

module _ (c : List ℕ) (l count : ℕ) (starts : List ℕ) (s : SoundCard c count starts) (d : Descriptor) (d_is : d ≡ active_of (descriptors (chain c))) where
  to_volume : first_row (aim_rows c l) ≡ first_row (drop 1 (aim_rows c l))
  to_volume = chain_passed _ c (card_sound c _ (sym s.regions) refl)

  pub aim_8 : d.volume ≤ l → no_aim (answer 8 0) ≡ aim_of c l
  aim_8 h = refused_by c l 8 0 (to_volume ∙ volume_given _ c _ (sym s.regions) s.area refl l (rw (← d_is) h)) refl

  module _ (below : l < d.volume) (f : Found) (owner : ℕ) (at_is : ◌≡◌ {A = Located} (record { found = f; owner = owner }) (locate c (descriptors (chain c)) d l)) where
    to_found : first_row (aim_rows c l) ≡ first_row (drop 2 (aim_rows c l))
    to_found = to_volume ∙ volume_passed _ c _ (sym s.regions) s.area refl l (rw (← d_is) below)

    is_found : f ≡ find c (descriptors (chain c)) d l
    is_found = located_found c (descriptors (chain c)) d l _ at_is

    here : find c (descriptors (chain c)) (active_of (descriptors (chain c))) l ≡ f
    here = ap (λ (x : Descriptor). find c (descriptors (chain c)) x l) (sym d_is) ∙ sym is_found

    pub aim_10 : (h : Physical) → f ≡ Misplaced h → no_aim (answer 10 h.0) ≡ aim_of c l
    unfolding is_misplaced holder_of
    aim_10 h e = refused_by c l 10 h.0 (to_found ∙ row_given _ _ (rw (here, e)) ∙ rw (here, e)) refl

    through : Through c starts count d
    through = rw d_is (card_active_through c _ (sym s.regions) s.area refl)

    need_is : need_by (count - 1) d.alpha.0 f owner ≡ need d.alpha.0 f
    need_is =
        need_active c _ (through_linked c starts count d through) count (through_count c starts count d through) d d_is l _ at_is
        ∙ ap (need d.alpha.0) (sym is_found)

    pub aim_0 : (slot : Slot) → f ≡ entry_in slot → (n : ℕ) → n ≡ need_by (count - 1) d.alpha.0 f owner
        → ◌≡◌ {A = Aim} (record { answer = accepted; alpha = d.alpha; table = slot.table; entry = slot.entry; taken = n }) (aim_of c l)
    unfolding aim_of is_misplaced holder_of found_block
    aim_0 slot e n taken = rw (to_found ∙ last_passed _ (rw (here, e)), here, ← d_is, taken ∙ need_is, e)

-- what a write knows of where it goes
module _ (c : List ℕ) (l : ℕ) (block : List ℕ) (asked : accepted ≡ first_row (admission c)) (long : length block ≡ 512) where
  abbrev ds : List Descriptor
  ds = descriptors (chain c)

  abbrev d : Descriptor
  d = active_of ds

  abbrev found : Found
  found = find c ds d l

  abbrev first : Answer
  first = first_row (aim_rows c l)

  abbrev room : Answer
  room = pick (ltb (block_count c) (d.beta.0 + need d.alpha.0 found)) (answer 11 0) accepted

  abbrev by : Bool → Aim
  by t = pick t (record { answer = first; alpha = d.alpha; table = physical (holder_of found); entry = physical (found_block found); taken = need d.alpha.0 found }) (no_aim first)

  abbrev room_row : Row
  room_row = row (ltb (block_count c) (d.beta.0 + need d.alpha.0 found)) 11 0

  area : area_bad c ≡ false
  area = admitted c asked

  to_chain : answer_of (Write l block) c ≡ first_row (aim_rows c l ++ (room_row ∷ []))
  unfolding answer_of rows_of write_rows
  to_chain = card_admitted c area _ ∙ block_passed _ block long

  -- its answer: that of these rows, or where none holds that for want of room
  answer_is : answer_of (Write l block) c ≡ pick (eqb first.number 0) room first
  unfolding first_row
  answer_is = to_chain ∙ first_append (aim_rows c l) (room_row ∷ []) (aim_numbered c l)

  answer_by_lem : (at : Aim) (t : Bool) → at ≡ by t → first ≡ at.answer
  answer_by_lem at true e = ap (λ (a : Aim). a.answer) (sym e)
  answer_by_lem at false e = ap (λ (a : Aim). a.answer) (sym e)

  first_is : (at : Aim) → at ≡ aim_of c l → first ≡ at.answer
  unfolding aim_of
  first_is at e = answer_by_lem at (eqb first.number 0) e

  -- refused by one of these rows
  pub aim_refused : (r : Refusal) → no_aim (refused r) ≡ aim_of c l → answer_of (Write l block) c ≡ refused r
  aim_refused r e = let is = first_is (no_aim (refused r)) e in answer_is ∙ rw (is, refused_test r)

  -- by none of them: an entry was found
  module _ (at : AimFound) (at_is : aim_as (Ok at) ≡ aim_of c l) where
    first_none : first ≡ accepted
    first_none = first_is (aim_as (Ok at)) at_is

    passed : first.number ≡ 0
    passed = ap (λ (a : Answer). a.number) first_none

    aim_is : aim_as (Ok at) ≡ by true
    unfolding aim_of
    aim_is = at_is ∙ ap by (eq-eqb first.number 0 passed)

    sound : chain_sound (chain c) ≡ true
    sound = not-false (chain_sound (chain c)) (none (aim_rows c l) (aim_numbered c l) passed 0 (omega arith))

    below : l < d.volume
    below = leb-false d.volume l (none (aim_rows c l) (aim_numbered c l) passed 1 (omega arith))

    found_is : found ≡ entry_in at.slot
    found_is = entry_is found (none (aim_rows c l) (aim_numbered c l) passed 2 (omega arith)) ∙ ap (λ (a : Aim). Entry a.table a.entry) (sym aim_is)

    alpha_is : at.alpha ≡ d.alpha
    alpha_is = ap (λ (a : Aim). a.alpha) aim_is

    chained : chain c ≡ Sound ds
    chained = chain_is (chain c) sound

    pub aim_inside : 512 * at.alpha.0 + 512 ≤ length c
    aim_inside = rw alpha_is (active_inside c ds chained)

    module _ (e : Descriptor) (e_is : e ≡ descriptor_at c at.alpha.0) where
      active_is : e ≡ d
      active_is = e_is ∙ ap (λ (p : Physical). descriptor_at c p.0) alpha_is ∙ sym (active_here c ds chained)

      pub aim_ready : WriteReady c e at.slot.table.0 at.slot.entry.0 l block × (at.taken ≡ need e.alpha.0 (entry_in at.slot))
      aim_ready =
          rw active_is
          (write_ready c _ _ d (active_through c area sound) l block long below _ refl at.slot.table at.slot.entry found_is, ap (λ (a : Aim). a.taken) aim_is ∙ ap (need d.alpha.0) found_is)

      done_by_lem : (t : Bool) → answer_of (Write l block) c ≡ pick t (answer 11 0) accepted → (a : Answer) (c' : List ℕ)
          → ◌≡◌ {A = Written} (record { answer = a; card = c' }) (pick t (record { answer = answer 11 0; card = c }) (record { answer = accepted; card = store_all c (writing c d found l block) }))
          → ◌≡◌ {A = Done} (done a (Block block) c') (step (Write l block) c)
      unfolding lent_of filled_of stores_of given_of write_stores
      done_by_lem true is a c' h =
          let a_is : a ≡ answer 11 0 = ap (λ (x : Written). x.answer) h in
          let c_is : c' ≡ c = ap (λ (x : Written). x.card) h in
          rw (a_is, c_is) (step_refused (Write l block) c 11 0 is refl)
      done_by_lem false is a c' h =
          let a_is : a ≡ accepted = ap (λ (x : Written). x.answer) h in
          rw a_is (step_accepted (Write l block) c is (Block block) refl c' (ap (λ (x : Written). x.card) h) refl)

      pub aim_done : (a : Answer) (c' : List ℕ) → ◌≡◌ {A = Written} (record { answer = a; card = c' }) (written c e (entry_in at.slot) l block) → ◌≡◌ {A = Done} (done a (Block block) c') (step (Write l block) c)
      unfolding written
      aim_done a c' h =
          done_by_lem (ltb (block_count c) (d.beta.0 + need d.alpha.0 found)) (answer_is ∙ rw (eq-eqb first.number 0 passed)) a c'
          (h ∙ ap (λ (x : Descriptor). written c x (entry_in at.slot) l block) active_is ∙ ap (λ (f : Found). written c d f l block) (sym found_is))
