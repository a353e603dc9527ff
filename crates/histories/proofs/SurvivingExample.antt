-- 01's worked example on a card of revision 1, in both layouts, with a second rollback to the same visit: what the calls answer, and what demand 3 says of
-- each rollback. The snap, at position 1, stays in the shorter lists: of the first rollback these are the write and the snap, then all that comes after position 6.
-- And from the card just after the snap, where the visit stands on the starting card, on either revision. And what three of W5's own claims say of the rollbacks.
use mathlib.Core.Path.{◌≡◌, refl, sym, ap, ◌∙◌, subst}
use mathlib.Core.Bool.{true}
use mathlib.Core.List.{List, map}
use Prim.Native.Nat.{ℕ, ◌+◌, ◌≤◌}
use native.Mathlib.Omega.{arith}
use lib.ListN.{length, take, drop, replicate}
use Rattle.blocks.specs.Descriptor.{cost_of, format_of, revision_of}
use Rattle.chains.specs.Chain.{chain, chain_sound}
use Rattle.blocks.specs.declared.descriptor.Format.{Format}
use Rattle.calls.specs.declared.answer.Answer.{Answer}
use Rattle.calls.specs.Call.{Call, Outcome, accepted}
use Rattle.calls.specs.Parts.{descriptors_of, snapshots_of, with_name}
use Rattle.calls.specs.Stores.{staying}
use Rattle.calls.specs.Step.{after, outcomes}
use Rattle.claims.specs.History.{beta_of, Agree, AreBytes, Standing, none, more, is_ream, is_format, written_by, formattable, formatted, is_snap_of, Position, Nowhere, At, latest_snap, without}
use Rattle.claims.specs.Claims.{Matched, RevertedAt, Forgets, RollbackClaim, FormatClaim, FormatLedgerClaim}
use Rattle.claims.specs.Surviving.{Survives, SurvivesClaim, RoomAtVisitClaim, AsAfterSnapClaim}
use Rattle.claims.specs.Bench.{area, fs, mon}
use Rattle.histories.specs.Example.{example_card, example_calls, example_outcomes}
use Rattle.histories.specs.SurvivingExample.{surviving_card, surviving_calls, surviving_outcomes, surviving_answers}
use Rattle.claims.proofs.Running.{running}
use Rattle.claims.proofs.Runs.{standing_take, standing_drop, standing_length, after_length}
use Rattle.claims.proofs.CardBytes.{bytes_run, bytes_format}
use Rattle.claims.proofs.LedgerRun.{format_ledger_claim}
use Rattle.claims.proofs.Format.{format_claim}
use Rattle.claims.proofs.SoundStep.{revision_run}
use Rattle.claims.proofs.Surviving.{survives_claim, room_at_visit_claim, as_after_snap_claim}
use Rattle.calls.proofs.Passed.{revert_passed}
use Rattle.claims.proofs.Demand.{rollback_claim}
use Rattle.histories.proofs.Answered.{answers, rest_answers, reverted_by, latest_by, latest_by_lem}
use Rattle.histories.proofs.NotEmpty.{matched, area_bytes, block_bytes, nil_bytes, example_standing, can_layout_1, can_layout_2, answers_layout_1, answers_layout_2}

pub surviving_layout_2 : outcomes surviving_calls (surviving_card 2) ≡ surviving_outcomes 3 6 4 7
unfolding running example_calls example_outcomes surviving_calls surviving_outcomes
surviving_layout_2 = refl

pub surviving_layout_1 : outcomes surviving_calls (surviving_card 1) ≡ surviving_outcomes 4 8 7 11
unfolding running example_calls example_outcomes surviving_calls surviving_outcomes
surviving_layout_1 = refl

-- the ream is refused on a card of sixteen blocks, in whatever layout it is
standing_1 : Standing (surviving_card 1) surviving_calls
unfolding running example_calls surviving_calls is_format is_ream written_by
standing_1 =
    more refl (block_bytes 7 (omega arith)) (more refl nil_bytes (more refl (block_bytes 9 (omega arith)) (more refl nil_bytes (more refl nil_bytes (more refl nil_bytes
    (more refl nil_bytes (more refl nil_bytes (more refl nil_bytes (more refl (block_bytes 11 (omega arith)) (more refl nil_bytes (more refl nil_bytes (more refl nil_bytes (more refl nil_bytes (more refl nil_bytes
    (more refl nil_bytes (more refl nil_bytes (more refl nil_bytes (more refl nil_bytes (more refl nil_bytes none)))))))))))))))))))

same_length : length (surviving_card 1) ≡ length (surviving_card 2)
unfolding running
same_length = refl

standing_2 : Standing (surviving_card 2) surviving_calls
standing_2 = standing_length (surviving_card 1) (surviving_card 2) same_length surviving_calls standing_1

can_surviving_1 : formattable (area 16) (format_of 1 200 1 fs) ≡ true
unfolding running formattable
can_surviving_1 = refl

can_surviving_2 : formattable (area 16) (format_of 2 200 1 fs) ≡ true
unfolding running formattable
can_surviving_2 = refl

said_1 : answers surviving_calls (surviving_card 1) ≡ surviving_answers
unfolding example_outcomes surviving_outcomes surviving_answers
said_1 = ap (λ (os : List Outcome). map (λ (o : Outcome). o.answer) os) surviving_layout_1

said_2 : answers surviving_calls (surviving_card 2) ≡ surviving_answers
unfolding example_outcomes surviving_outcomes surviving_answers
said_2 = ap (λ (os : List Outcome). map (λ (o : Outcome). o.answer) os) surviving_layout_2

-- c blocks at the beta of the snapshot of the name end at or below the active beta
abbrev RoomFor : List ℕ → List ℕ → Type 0
RoomFor name c = let v = with_name (snapshots_of (descriptors_of c)) name in v.beta.0 + cost_of v ≤ beta_of c

module _ (layout : ℕ) (can : formattable (area 16) (format_of layout 200 1 fs) ≡ true) (standing : Standing (surviving_card layout) surviving_calls) (said : answers surviving_calls (surviving_card layout) ≡ surviving_answers) where
  first_reverted : RevertedAt (surviving_card layout) surviving_calls 6 mon
  unfolding example_calls surviving_calls surviving_answers
  first_reverted = reverted_by surviving_calls (surviving_card layout) surviving_answers said 6 mon (omega arith) refl refl

  again_reverted : RevertedAt (surviving_card layout) surviving_calls 17 mon
  unfolding example_calls surviving_calls surviving_answers
  again_reverted = reverted_by surviving_calls (surviving_card layout) surviving_answers said 17 mon (omega arith) refl refl

  first_latest : latest_snap mon (surviving_card layout) (take 6 surviving_calls) ≡ At 1
  unfolding running example_calls surviving_calls surviving_answers latest_by is_snap_of
  first_latest = latest_by_lem mon 6 surviving_calls (surviving_card layout) surviving_answers said

  again_latest : latest_snap mon (surviving_card layout) (take 17 surviving_calls) ≡ At 1
  unfolding running example_calls surviving_calls surviving_answers latest_by is_snap_of
  again_latest = latest_by_lem mon 17 surviving_calls (surviving_card layout) surviving_answers said

  first_forgotten : Matched (surviving_card layout) surviving_calls 7 (without surviving_calls 2 6) 2
  unfolding staying
  first_forgotten = matched 16 (format_of layout 200 1 fs) can surviving_calls standing 6 mon first_reverted 1 first_latest

  bytes : AreBytes (surviving_card layout)
  bytes = bytes_format (area 16) (format_of layout 200 1 fs) (area_bytes 16) can

  sound : chain_sound (chain (surviving_card layout)) ≡ true
  unfolding FormatClaim
  sound = (format_claim (area 16) (format_of layout 200 1 fs) can).0.sound

  revision : revision_of (surviving_card layout) ≡ 1
  unfolding FormatClaim
  revision = (format_claim (area 16) (format_of layout 200 1 fs) can).4

  -- below beta the card after each rollback is as just after the snap
  as_snapped : Agree (after (take 7 surviving_calls) (surviving_card layout)) (after (take 2 surviving_calls) (surviving_card layout))
      × Agree (after (take 18 surviving_calls) (surviving_card layout)) (after (take 2 surviving_calls) (surviving_card layout))
  unfolding AsAfterSnapClaim
  as_snapped =
      let as_after = as_after_snap_claim (surviving_card layout) surviving_calls bytes sound revision standing in
      (as_after 6 mon first_reverted 1 first_latest, as_after 17 mon again_reverted 1 again_latest)

  -- the card before the second rollback, on which another visit is listed after mon
  abbrev later : List ℕ
  later = after (take 17 surviving_calls) (surviving_card layout)

  -- what survives the second rollback, and the room that it finds
  survives : Survives later mon
  unfolding SurvivesClaim
  survives =
      let earlier = standing_take (surviving_card layout) surviving_calls 17 standing in
      survives_claim later mon (bytes_run (take 17 surviving_calls) (surviving_card layout) bytes earlier)
      (revision_run (take 17 surviving_calls) (surviving_card layout) sound earlier ∙ revision) again_reverted.accepted_there

  room : RoomFor mon later
  unfolding RoomAtVisitClaim
  room = let p = revert_passed later mon again_reverted.accepted_there in ((room_at_visit_claim later mon).0 p.sound p.there).0

  again_forgotten : Matched (surviving_card layout) surviving_calls 18 (without surviving_calls 2 17) 2
  unfolding staying
  again_forgotten = matched 16 (format_of layout 200 1 fs) can surviving_calls standing 17 mon again_reverted 1 again_latest

-- the card just after the snap as the start, of either revision: mon stands on it, and no snap of it is among the calls
module _ (format : Format) (can : formattable (area 16) format ≡ true) (calls : List Call) (standing : Standing (formatted (area 16) format) calls) where
  abbrev start : List ℕ
  start = after (take 2 calls) (formatted (area 16) format)

  abbrev rest : List Call
  rest = drop 2 calls

  start_matched : (said : List Answer) → answers rest start ≡ said → RevertedAt start rest 4 mon → latest_by mon (take 4 rest) said 0 Nowhere ≡ Nowhere → Matched start rest 5 (drop 4 rest) 1
  unfolding FormatLedgerClaim RollbackClaim Forgets
  start_matched said answered reverted none_there =
      let c = formatted (area 16) format in
      let before = standing_take c calls 2 standing in
      let run = format_ledger_claim (area 16) format can (take 2 calls) before in
      let bytes = bytes_run (take 2 calls) c (bytes_format (area 16) format (area_bytes 16) can) before in
      let here = standing_length c start (sym (after_length (take 2 calls) c)) rest (standing_drop c calls 2 standing) in
      let forgets = rollback_claim start rest bytes run.1.sound here 4 mon reverted in
      (subst (λ (p : Position). Forgets start mon rest 4 p) (latest_by_lem mon 4 rest start said answered ∙ none_there) forgets).3

module _ (layout : ℕ) (can : formattable (area 16) (format_of layout 200 1 fs) ≡ true) (standing : Standing (surviving_card layout) surviving_calls)
    (said : answers surviving_calls (surviving_card layout) ≡ surviving_answers) where
  answered : answers (drop 2 surviving_calls) (after (take 2 surviving_calls) (surviving_card layout)) ≡ drop 2 surviving_answers
  answered = rest_answers 2 surviving_calls (surviving_card layout) ∙ ap (λ (given : List Answer). drop 2 given) said

  surviving_start : Matched (after (take 2 surviving_calls) (surviving_card layout)) (drop 2 surviving_calls) 5 (drop 4 (drop 2 surviving_calls)) 1
  unfolding running example_calls surviving_calls surviving_answers latest_by is_snap_of
  surviving_start =
      start_matched (format_of layout 200 1 fs) can surviving_calls standing (drop 2 surviving_answers) answered
      (reverted_by (drop 2 surviving_calls) (after (take 2 surviving_calls) (surviving_card layout)) (drop 2 surviving_answers) answered 4 mon (omega arith) refl refl) refl

module _ (layout : ℕ) (can : formattable (area 16) (format_of layout 200 0 fs) ≡ true) (said : answers example_calls (example_card layout) ≡ replicate 9 accepted) where
  answered_then : answers (drop 2 example_calls) (after (take 2 example_calls) (example_card layout)) ≡ replicate 7 accepted
  answered_then = rest_answers 2 example_calls (example_card layout) ∙ ap (λ (given : List Answer). drop 2 given) said

  example_start : Matched (after (take 2 example_calls) (example_card layout)) (drop 2 example_calls) 5 (drop 4 (drop 2 example_calls)) 1
  unfolding running example_calls latest_by is_snap_of
  example_start =
      start_matched (format_of layout 200 0 fs) can example_calls (example_standing (example_card layout)) (replicate 7 accepted) answered_then
      (reverted_by (drop 2 example_calls) (after (take 2 example_calls) (example_card layout)) (replicate 7 accepted) answered_then 4 mon (omega arith) refl refl) refl

-- both rollbacks, and the start after the snap, in each layout
pub surviving_forgotten_1 : Matched (surviving_card 1) surviving_calls 7 (without surviving_calls 2 6) 2 × Matched (surviving_card 1) surviving_calls 18 (without surviving_calls 2 17) 2
surviving_forgotten_1 = (first_forgotten 1 can_surviving_1 standing_1 said_1, again_forgotten 1 can_surviving_1 standing_1 said_1)

pub surviving_forgotten_2 : Matched (surviving_card 2) surviving_calls 7 (without surviving_calls 2 6) 2 × Matched (surviving_card 2) surviving_calls 18 (without surviving_calls 2 17) 2
surviving_forgotten_2 = (first_forgotten 2 can_surviving_2 standing_2 said_2, again_forgotten 2 can_surviving_2 standing_2 said_2)

pub surviving_start_1 : Matched (after (take 2 surviving_calls) (surviving_card 1)) (drop 2 surviving_calls) 5 (drop 4 (drop 2 surviving_calls)) 1
surviving_start_1 = surviving_start 1 can_surviving_1 standing_1 said_1

pub surviving_start_2 : Matched (after (take 2 surviving_calls) (surviving_card 2)) (drop 2 surviving_calls) 5 (drop 4 (drop 2 surviving_calls)) 1
surviving_start_2 = surviving_start 2 can_surviving_2 standing_2 said_2

pub example_start_1 : Matched (after (take 2 example_calls) (example_card 1)) (drop 2 example_calls) 5 (drop 4 (drop 2 example_calls)) 1
example_start_1 = example_start 1 can_layout_1 answers_layout_1

pub example_start_2 : Matched (after (take 2 example_calls) (example_card 2)) (drop 2 example_calls) 5 (drop 4 (drop 2 example_calls)) 1
example_start_2 = example_start 2 can_layout_2 answers_layout_2

-- W5's claims, in each layout: as just after the snap, of both rollbacks; what survives, and the room, of the second
pub surviving_as_snapped_1 : Agree (after (take 7 surviving_calls) (surviving_card 1)) (after (take 2 surviving_calls) (surviving_card 1))
    × Agree (after (take 18 surviving_calls) (surviving_card 1)) (after (take 2 surviving_calls) (surviving_card 1))
surviving_as_snapped_1 = as_snapped 1 can_surviving_1 standing_1 said_1

pub surviving_as_snapped_2 : Agree (after (take 7 surviving_calls) (surviving_card 2)) (after (take 2 surviving_calls) (surviving_card 2))
    × Agree (after (take 18 surviving_calls) (surviving_card 2)) (after (take 2 surviving_calls) (surviving_card 2))
surviving_as_snapped_2 = as_snapped 2 can_surviving_2 standing_2 said_2

pub surviving_survives_1 : Survives (after (take 17 surviving_calls) (surviving_card 1)) mon × RoomFor mon (after (take 17 surviving_calls) (surviving_card 1))
surviving_survives_1 = (survives 1 can_surviving_1 standing_1 said_1, room 1 can_surviving_1 standing_1 said_1)

pub surviving_survives_2 : Survives (after (take 17 surviving_calls) (surviving_card 2)) mon × RoomFor mon (after (take 17 surviving_calls) (surviving_card 2))
surviving_survives_2 = (survives 2 can_surviving_2 standing_2 said_2, room 2 can_surviving_2 standing_2 said_2)
