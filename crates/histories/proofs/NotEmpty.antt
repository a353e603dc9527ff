-- Demand 3 speaks of something: two lists of calls, each in both layouts, have all that it asks, and what it says of them. In 01's worked example the visit mon is taken at
-- position 1 and the revert to it stands at position 6; the shorter list is the write before them, then the read and the listing after them. In the second list calls of every
-- kind, refused ones too, stand between the snap of mon at position 1 and the revert to it at position 12, and seven calls after that.
use mathlib.Core.Path.{◌≡◌, refl, sym, ap, ◌∙◌, subst}
use mathlib.Core.Bool.{true}
use mathlib.Core.List.{List, [], ◌∷◌, ◌++◌, map}
use Prim.Native.Nat.{ℕ, zero, suc, ◌*◌, ◌<◌}
use native.Mathlib.Omega.{arith}
use lib.ListN.{length, take, drop, replicate}
use Rattle.blocks.specs.Bytes.{block_size}
use Rattle.blocks.specs.Descriptor.{as_format}
use Rattle.blocks.specs.declared.descriptor.Format.{Format}
use Rattle.calls.specs.Call.{Call, Outcome, None, accepted}
use Rattle.calls.specs.Stores.{staying}
use Rattle.calls.specs.Step.{after, outcomes}
use Rattle.claims.specs.History.{Agree, AreBytes, Standing, none, more, is_ream, is_format, written_by, formattable, formatted, is_snap_of, Position, Nowhere, At, latest_snap, without}
use Rattle.claims.specs.Claims.{Matched, RevertedAt, Demand3}
use Rattle.claims.specs.Bench.{area, fs, mon, tue}
use Rattle.histories.specs.Example.{example_card, example_calls, example_outcomes, yields}
use Rattle.histories.specs.SecondExample.{second_card, second_calls, second_outcomes, second_answers}
use Rattle.claims.proofs.Running.{running}
use Rattle.histories.proofs.Example.{example_layout_1, example_layout_2}
use Rattle.claims.proofs.Runs.{standing_length, standing_take}
use Rattle.claims.proofs.Demand.{demand_3}
use Rattle.histories.proofs.Answered.{answers, reverted_by, latest_by, latest_by_lem, check_among}

fill_bytes : (n v : ℕ) → v < 256 → AreBytes (replicate n v)
fill_bytes zero v h i = omega arith
fill_bytes (suc n) v h zero = h
fill_bytes (suc n) v h (suc i) = fill_bytes n v h i

pub nil_bytes : AreBytes []
nil_bytes i = omega arith

pub block_bytes : (v : ℕ) → v < 256 → AreBytes (replicate 512 v)
block_bytes v h = fill_bytes 512 v h

-- the areas are bytes
pub area_bytes : (n : ℕ) → AreBytes (area n)
area_bytes n = fill_bytes (block_size * n) 7 (omega arith)

position_of : Position → ℕ
position_of Nowhere = 0
position_of (At i) = i

-- demand 3 of a list in which the revert to v at position k is accepted, and the latest accepted snap of v is at position i
pub matched : (n : ℕ) (format : Format) → formattable (area n) format ≡ true → (ks : List Call) → Standing (formatted (area n) format) ks
    → (k : ℕ) (v : List ℕ) → RevertedAt (formatted (area n) format) ks k v → (i : ℕ) → latest_snap v (formatted (area n) format) (take k ks) ≡ At i
    → Matched (formatted (area n) format) ks (suc k) (without ks (staying format.revision i) k) (staying format.revision i)
unfolding Demand3 position_of
matched n format can ks standing k v reverted i latest =
    let r = demand_3 (area n) format (area_bytes n) can ks standing k v reverted in
    subst (λ (j : ℕ). let stay = staying format.revision j in Matched (formatted (area n) format) ks (suc k) (without ks stay k) stay) (ap position_of (sym r.2 ∙ latest)) r.4

-- 01's worked example. Its calls are reads, writes of bytes, snaps, reverts and lists
pub example_standing : (c : List ℕ) → Standing c example_calls
unfolding example_calls is_format is_ream written_by
example_standing c =
    more refl (block_bytes 7 (omega arith)) (more refl nil_bytes (more refl (block_bytes 9 (omega arith)) (more refl nil_bytes (more refl nil_bytes (more refl nil_bytes
    (more refl nil_bytes (more refl nil_bytes (more refl nil_bytes none))))))))

-- the area can be formatted so
pub can_layout_1 : formattable (area 16) (as_format 1 200 fs) ≡ true
unfolding running formattable
can_layout_1 = refl

pub can_layout_2 : formattable (area 16) (as_format 2 200 fs) ≡ true
unfolding running formattable
can_layout_2 = refl

-- every call is accepted
pub answers_layout_1 : answers example_calls (example_card 1) ≡ replicate 9 accepted
unfolding example_outcomes
answers_layout_1 = ap (λ (os : List Outcome). map (λ (o : Outcome). o.answer) os) example_layout_1

pub answers_layout_2 : answers example_calls (example_card 2) ≡ replicate 9 accepted
unfolding example_outcomes
answers_layout_2 = ap (λ (os : List Outcome). map (λ (o : Outcome). o.answer) os) example_layout_2

-- the revert among them
module _ (layout : ℕ) (said : answers example_calls (example_card layout) ≡ replicate 9 accepted) where
  example_reverted : RevertedAt (example_card layout) example_calls 6 mon
  unfolding example_calls
  example_reverted = reverted_by example_calls (example_card layout) (replicate 9 accepted) said 6 mon (omega arith) refl refl

  -- the visit's latest accepted snap
  example_latest : latest_snap mon (example_card layout) (take 6 example_calls) ≡ At 1
  unfolding running example_calls latest_by is_snap_of
  example_latest = latest_by_lem mon 6 example_calls (example_card layout) (replicate 9 accepted) said

  -- demand 3 of the example
  example_matched : formattable (area 16) (as_format layout 200 fs) ≡ true → Matched (example_card layout) example_calls 7 (without example_calls 1 6) 1
  unfolding staying
  example_matched can = matched 16 (as_format layout 200 fs) can example_calls (example_standing (example_card layout)) 6 mon example_reverted 1 example_latest

pub reverted_layout_1 : RevertedAt (example_card 1) example_calls 6 mon
reverted_layout_1 = example_reverted 1 answers_layout_1

pub reverted_layout_2 : RevertedAt (example_card 2) example_calls 6 mon
reverted_layout_2 = example_reverted 2 answers_layout_2

pub forgotten_layout_1 : Matched (example_card 1) example_calls 7 (without example_calls 1 6) 1
forgotten_layout_1 = example_matched 1 answers_layout_1 can_layout_1

pub forgotten_layout_2 : Matched (example_card 2) example_calls 7 (without example_calls 1 6) 1
forgotten_layout_2 = example_matched 2 answers_layout_2 can_layout_2

-- The second list. Its reams are refused on a card of eight blocks, in whatever layout it is
pub second_standing_1 : Standing (second_card 1) second_calls
unfolding running second_calls is_format is_ream written_by
second_standing_1 =
    more refl (block_bytes 7 (omega arith)) (more refl nil_bytes (more refl nil_bytes (more refl nil_bytes (more refl nil_bytes (more refl nil_bytes
    (more refl nil_bytes (more refl nil_bytes (more refl (block_bytes 9 (omega arith)) (more refl nil_bytes (more refl (block_bytes 11 (omega arith)) (more refl nil_bytes (more refl nil_bytes
    (more refl nil_bytes (more refl nil_bytes (more refl nil_bytes (more refl nil_bytes (more refl (block_bytes 5 (omega arith)) (more refl nil_bytes (more refl nil_bytes none)))))))))))))))))))

same_length : length (second_card 1) ≡ length (second_card 2)
unfolding running
same_length = refl

pub second_standing_2 : Standing (second_card 2) second_calls
second_standing_2 = standing_length (second_card 1) (second_card 2) same_length second_calls second_standing_1

pub second_can_1 : formattable (area 8) (as_format 1 1 fs) ≡ true
unfolding running formattable
second_can_1 = refl

pub second_can_2 : formattable (area 8) (as_format 2 1 fs) ≡ true
unfolding running formattable
second_can_2 = refl

-- what the calls answer. All but the check are computed
abbrev before_check : List Call
before_check = take 2 second_calls

abbrev after_check : List Call
after_check = drop 3 second_calls

computed_1 : outcomes before_check (second_card 1) ++ (yields None ∷ outcomes after_check (after before_check (second_card 1))) ≡ second_outcomes 5
unfolding running second_calls second_outcomes
computed_1 = refl

computed_2 : outcomes before_check (second_card 2) ++ (yields None ∷ outcomes after_check (after before_check (second_card 2))) ≡ second_outcomes 4
unfolding running second_calls second_outcomes
computed_2 = refl

module _ (layout beta : ℕ) (can : formattable (area 8) (as_format layout 1 fs) ≡ true) (standing : Standing (second_card layout) second_calls)
    (computed : outcomes before_check (second_card layout) ++ (yields None ∷ outcomes after_check (after before_check (second_card layout))) ≡ second_outcomes beta) where
  second_whole : outcomes second_calls (second_card layout) ≡ second_outcomes beta
  unfolding second_calls
  second_whole = check_among (area 8) (as_format layout 1 fs) can before_check after_check (standing_take (second_card layout) second_calls 2 standing) ∙ computed

  second_said : answers second_calls (second_card layout) ≡ second_answers
  unfolding second_outcomes
  second_said = ap (λ (os : List Outcome). map (λ (o : Outcome). o.answer) os) second_whole

  -- the revert to mon is accepted, and its visit's latest accepted snap is the first: the second is refused
  second_reverted : RevertedAt (second_card layout) second_calls 12 mon
  unfolding second_calls second_outcomes
  second_reverted = reverted_by second_calls (second_card layout) second_answers second_said 12 mon (omega arith) refl refl

  second_latest : latest_snap mon (second_card layout) (take 12 second_calls) ≡ At 1
  unfolding running second_calls second_outcomes latest_by is_snap_of
  second_latest = latest_by_lem mon 12 second_calls (second_card layout) second_answers second_said

  -- and of the revert to tue at position 18 the second snap of tue, at position 16, which the first revert does not reach
  last_reverted : RevertedAt (second_card layout) second_calls 18 tue
  unfolding second_calls second_outcomes
  last_reverted = reverted_by second_calls (second_card layout) second_answers second_said 18 tue (omega arith) refl refl

  last_latest : latest_snap tue (second_card layout) (take 18 second_calls) ≡ At 16
  unfolding running second_calls second_outcomes latest_by is_snap_of
  last_latest = latest_by_lem tue 18 second_calls (second_card layout) second_answers second_said

  -- demand 3 of the second list
  second_matched : Matched (second_card layout) second_calls 13 (without second_calls 1 12) 1
  unfolding staying
  second_matched = matched 8 (as_format layout 1 fs) can second_calls standing 12 mon second_reverted 1 second_latest

  -- of the revert at position 18
  last_matched : Matched (second_card layout) second_calls 19 (without second_calls 16 18) 16
  unfolding staying
  last_matched = matched 8 (as_format layout 1 fs) can second_calls standing 18 tue last_reverted 16 last_latest

pub second_outcomes_lem : (outcomes second_calls (second_card 1) ≡ second_outcomes 5) × (outcomes second_calls (second_card 2) ≡ second_outcomes 4)
second_outcomes_lem = (second_whole 1 5 second_can_1 second_standing_1 computed_1, second_whole 2 4 second_can_2 second_standing_2 computed_2)

pub second_reverted_1 : RevertedAt (second_card 1) second_calls 12 mon
second_reverted_1 = second_reverted 1 5 second_can_1 second_standing_1 computed_1

pub second_reverted_2 : RevertedAt (second_card 2) second_calls 12 mon
second_reverted_2 = second_reverted 2 4 second_can_2 second_standing_2 computed_2

pub second_forgotten_1 : Matched (second_card 1) second_calls 13 (without second_calls 1 12) 1
second_forgotten_1 = second_matched 1 5 second_can_1 second_standing_1 computed_1

pub second_forgotten_2 : Matched (second_card 2) second_calls 13 (without second_calls 1 12) 1
second_forgotten_2 = second_matched 2 4 second_can_2 second_standing_2 computed_2

pub last_forgotten_1 : Matched (second_card 1) second_calls 19 (without second_calls 16 18) 16
last_forgotten_1 = last_matched 1 5 second_can_1 second_standing_1 computed_1

pub last_forgotten_2 : Matched (second_card 2) second_calls 19 (without second_calls 16 18) 16
last_forgotten_2 = last_matched 2 4 second_can_2 second_standing_2 computed_2

-- right after the revert to mon, and after the last call of the list, the two cards agree
second_after : (layout : ℕ) → Matched (second_card layout) second_calls 13 (without second_calls 1 12) 1
    → Agree (after (take 13 second_calls) (second_card layout)) (after (take 1 second_calls) (second_card layout))
unfolding second_calls without
second_after layout m = m.agree 0 (omega arith)

second_end : (layout : ℕ) → Matched (second_card layout) second_calls 13 (without second_calls 1 12) 1
    → Agree (after second_calls (second_card layout)) (after (without second_calls 1 12) (second_card layout))
unfolding second_calls without
second_end layout m = m.agree 7 (omega arith)

pub second_end_1 : Agree (after second_calls (second_card 1)) (after (without second_calls 1 12) (second_card 1))
second_end_1 = second_end 1 second_forgotten_1

pub second_end_2 : Agree (after second_calls (second_card 2)) (after (without second_calls 1 12) (second_card 2))
second_end_2 = second_end 2 second_forgotten_2

pub second_after_1 : Agree (after (take 13 second_calls) (second_card 1)) (after (take 1 second_calls) (second_card 1))
second_after_1 = second_after 1 second_forgotten_1

pub second_after_2 : Agree (after (take 13 second_calls) (second_card 2)) (after (take 1 second_calls) (second_card 2))
second_after_2 = second_after 2 second_forgotten_2
