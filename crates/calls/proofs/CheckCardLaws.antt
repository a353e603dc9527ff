-- Laws of the check of a card, as the code asks them.
use mathlib.Core.Path.{◌≡◌, refl, sym, ap, ◌∙◌}
use mathlib.Core.Bool.{true, not}
use mathlib.Core.List.{List, [], ◌∷◌}
use Prim.Native.Nat.{ℕ, zero, suc, ◌+◌, ◌*◌, ◌-◌, ◌≤◌, ◌<◌}
use native.Mathlib.Numerals.{add-one}
use native.Mathlib.Omega.{arith}
use lib.ListN.{length, drop, take, get_or, drop_of_length-le}
use Rattle.std.proofs.lemmas.List.{length-take, get_or-take}
use lib.Seq.{drop-cons}
use Rattle.blocks.specs.Pick.{pick}
use Rattle.blocks.specs.Descriptor.{physical, no_descriptor, cost_of, descriptor_at}
use Rattle.chains.specs.Chain.{chain, descriptors, Regions, walk_of, active_of}
use Rattle.blocks.specs.declared.numbers.Physical.{Physical}
use Rattle.blocks.specs.declared.descriptor.Descriptor.{Descriptor}
use Rattle.chains.specs.Chain.{Walk}
use Rattle.entries.specs.Through.{SoundChain, Through}
use Rattle.entries.specs.Naming.{namings, check_one}
use Rattle.entries.specs.Found.{Verdict, Passed, Fault}
use Rattle.entries.specs.Marks.{openings_flagged, next_turn, next_flags, Marks, Taken, taking_all, CheckReady}
use Rattle.entries.proofs.CheckLaws.{taking_length}
use Rattle.entries.proofs.OpeningLaws.{openings_length, turn_length, openings_ask, openings_marked, turn_marked, one_verdict, one_marked}
use Rattle.calls.specs.Call.{Check, answer, accepted}
use Rattle.calls.specs.Parts.{SoundCard}
use Rattle.calls.specs.Check.{or_else, check_all, check_card, is_fault, fault_holder, taking_chain}
use Rattle.calls.specs.Ladder.{admission, first_row, check_rows}
use Rattle.calls.specs.Meaning.{rows_of, answer_of}
use Rattle.entries.proofs.MarkLaws.{openings_taken, turn_taken}
use Rattle.entries.proofs.RegionLaws.{through_count, through_at}
use Rattle.calls.proofs.ChainLaws.{chain_some, chain_active, chain_through}
use Rattle.calls.proofs.RowLaws.{admitted, row_given, last_passed, chain_given, Reached, reached, card_admitted}
use Rattle.calls.specs.declared.answer.Answer.{Answer}

-- the walk over a descriptor and those after it: its verdict is the definition's where that is so of both parts
settled : (one later : Taken) (x w : Verdict) → one.verdict ≡ x → (one.verdict ≡ Passed → later.verdict ≡ w) → (pick (is_fault one.verdict) one later).verdict ≡ or_else x w
unfolding is_fault or_else
settled one later Passed w q f = rw q (f q)
settled one later (Fault h) w q f = rw q

module _ (c starts : List ℕ) (s : SoundChain c starts) where
  abbrev ds : List Descriptor
  ds = descriptors (chain c)

  abbrev count : ℕ
  count = length starts - 1

  abbrev active : Descriptor
  active = active_of ds

  -- the active descriptor, whose opening is as long as every other
  active_through : Through c starts count active
  active_through = chain_through c starts s (count - 1) (omega (arith, chain_some c starts s)) active (sym (chain_active c starts s))

  pub chain_ready : (k : ℕ) → k < count → (d : Descriptor) → d ≡ descriptor_at c (get_or starts k 0) → (seen : List ℕ) → length c ≤ 512 * length seen → CheckReady c d seen
  chain_ready k h d e seen long = record { starts = starts; count = count; through = chain_through c starts s k h d e; flags = long }

  -- the descriptors from the k-th on
  chain_from_lem : (k : ℕ) → k < count → (d : Descriptor) → d ≡ descriptor_at c (get_or starts k 0) → drop k ds ≡ d ∷ drop (k + 1) ds
  chain_from_lem k h d is =
      let n : k < length ds = omega (arith, through_count c starts count d (chain_through c starts s k h d is)) in
      let e : d ≡ get_or ds k no_descriptor = is ∙ sym (through_at c starts count d (chain_through c starts s k h d is) k h).is in
      rw (add-one, e) (drop-cons ds k no_descriptor n)

  chain_none : (k : ℕ) → count ≤ k → drop k ds ≡ []
  chain_none k h = drop_of_length-le ds {i = k} (omega (arith, through_count c starts count active active_through))

  -- the walk of the code, with k descriptors passed; it is lent the starts of the n regions alone
  module _ (n : ℕ) (n_is : n ≡ count) (cost : ℕ) (w : Taken) (turn : ℕ) (seen : List ℕ) (k : ℕ) (walk : w ≡ taking_chain c starts cost count turn seen (drop k ds)) where
    pub chain_end : count ≤ k → record { verdict = Passed; flags = seen } ≡ w
    unfolding taking_chain
    chain_end h = sym (rw (chain_none k h) at walk)

    module _ (more : k < count) (turn' : ℕ) (seen' : List ℕ) (next : (turn' ≡ next_turn turn) × (seen' ≡ next_flags seen (take n starts) cost (length (take n starts)) turn)) (d : Descriptor) (is : d ≡ descriptor_at c (get_or starts k 0)) (seen'' : List ℕ) where
      step : (v : Verdict) → record { verdict = v; flags = seen'' } ≡ taking_all d turn' seen' (namings c d) → w ≡ pick (is_fault v) (record { verdict = v; flags = seen'' }) (taking_chain c starts cost count turn' seen'' (drop (k + 1) ds))
      unfolding taking_chain
      step v one =
          let flags_are : seen' ≡ next_flags seen starts cost count turn = next.1 ∙ turn_taken seen starts cost n turn (omega arith) ∙ rw n_is in
          walk ∙ rw (chain_from_lem k more d is, ← next.0, ← flags_are, ← one)

      pub chain_more : record { verdict = Passed; flags = seen'' } ≡ taking_all d turn' seen' (namings c d) → w ≡ taking_chain c starts cost count turn' seen'' (drop (k + 1) ds)
      unfolding is_fault
      chain_more one = step Passed one

      pub chain_stop : (h : Physical) → record { verdict = Fault h; flags = seen'' } ≡ taking_all d turn' seen' (namings c d) → record { verdict = Fault h; flags = seen'' } ≡ w
      unfolding is_fault
      chain_stop h one = sym (step (Fault h) one)

  -- a is the active descriptor, as the code reads it
  module _ (a : Descriptor) (a_is : a ≡ active) (cost : ℕ) (a_cost : cost ≡ cost_of a) where
    cost_is : cost ≡ cost_of active
    cost_is = a_cost ∙ ap cost_of a_is

    -- each opening is among the flags
    pub chain_ask : (n : ℕ) → n ≡ count → (m : ℕ) → length c ≤ 512 * m → (k : ℕ) → k < length (take n starts) → get_or (take n starts) k 0 + cost ≤ m
    chain_ask n n_is m long k h =
        let inside : k < n = omega (arith, length-take n starts) in
        omega (arith, get_or-take n starts k 0 inside, (openings_ask c starts count active active_through cost cost_is m long).1 k (omega arith))

    -- the verdict of the walk is the definition's, from flags that are ready for the next turn
    verdict_from : (n k : ℕ) → k + n ≡ count → (turn : ℕ) (seen : List ℕ) → length c ≤ 512 * length seen → (turn < 255 → Marks ds (turn + 1) seen [])
        → (taking_chain c starts cost count turn seen (drop k ds)).verdict ≡ check_all c ds (drop k ds)
    unfolding taking_chain check_all
    verdict_from zero k e turn seen long marks = rw (chain_none k (omega arith))
    verdict_from (suc n) k e turn seen long marks =
        let d = descriptor_at c (get_or starts k 0) in
        let more : k < count = omega arith in
        let t = chain_through c starts s k more d refl in
        let turn' = next_turn turn in
        let seen' = next_flags seen starts cost count turn in
        let long' : length c ≤ 512 * length seen' = omega (arith, turn_length seen starts cost count turn) in
        let marks' = turn_marked c starts count active active_through cost cost_is turn seen long marks in
        let one = taking_all d turn' seen' (namings c d) in
        rw (chain_from_lem k more d refl)
        (settled one (taking_chain c starts cost count turn' one.flags (drop (k + 1) ds)) (check_one c ds d) (check_all c ds (drop (k + 1) ds)) (one_verdict c starts count d t turn' seen' long' marks')
        (λ p. verdict_from n (k + 1) (omega arith) turn' one.flags (omega (arith, taking_length d turn' (namings c d) seen')) (one_marked c starts count d t turn' seen' long' marks' p)))

    -- the whole walk, from flags that are clear
    module _ (seen : List ℕ) (long : length c ≤ 512 * length seen) (clear : (v : ℕ) → get_or seen v 0 ≡ 0) (n : ℕ) (n_is : n ≡ count) (seen' : List ℕ) (opened : seen' ≡ openings_flagged seen (take n starts) cost (length (take n starts))) where
      opened_all : seen' ≡ openings_flagged seen starts cost count
      opened_all = opened ∙ openings_taken seen starts cost n (omega arith) ∙ rw n_is

      pub chain_told : (w : Taken) → w ≡ taking_chain c starts cost count 0 seen' ds → (w.verdict ≡ check_card c) × (w ≡ taking_chain c starts (cost_of active) count 0 (openings_flagged seen starts (cost_of active) count) ds)
      unfolding check_card
      chain_told w walk = (
        ap (λ (t : Taken). t.verdict) walk
            ∙ verdict_from count 0 (omega arith) 0 seen' (omega (arith, ap length opened_all, openings_length seen starts cost count)) (λ h. openings_marked c starts count active active_through seen long clear cost cost_is seen' opened_all),
        rw (← cost_is, ← opened_all) walk,
      )

-- the rows of a check that follow admission, in the order of the code
pub check_6 : (c : List ℕ) (a : Answer) → a ≡ first_row (admission c) → a.number ≡ 0 → (w : Walk) → w ≡ walk_of (chain c) → not w.sound ≡ true → answer_of Check c ≡ answer 6 w.place.0
unfolding answer_of rows_of check_rows
check_6 c a asked card w walked h = admitted c a asked _ card ∙ chain_given _ c w walked h

pub check_reached : (c : List ℕ) (count : ℕ) (starts : List ℕ) → SoundCard c count starts
    → Reached Check c (drop 1 (check_rows c)) (record { sound = true; place = physical 0; active = active_of (descriptors (chain c)); count = count; starts = starts })
unfolding answer_of rows_of check_rows
check_reached c count starts s = reached Check c _ count starts s (card_admitted c s.area _)

module _ (c : List ℕ) (r : Regions) (h : Reached Check c (drop 1 (check_rows c)) r) (v : Verdict) (verdict : v ≡ check_card c) where
  pub check_0 : v ≡ Passed → answer_of Check c ≡ accepted
  unfolding check_rows is_fault
  check_0 e = h.rest ∙ last_passed _ (rw (← verdict, e))

  pub check_10 : (p : Physical) → v ≡ Fault p → answer_of Check c ≡ answer 10 p.0
  unfolding check_rows is_fault fault_holder
  check_10 p e = h.rest ∙ rw (← verdict, e) (row_given _ _ refl)
