-- What the tests of each call have shown where it is accepted: one record for each call, taken from its rows by their numbers. The laws about
-- the chain, agreement, passing and the ledger after a call stand on these facts and not on the call's acceptance.
use mathlib.Core.Path.{◌≡◌}
use mathlib.Core.Bool.{true, false, not, ◌&&◌}
use mathlib.Core.List.{List}
use Prim.Native.Nat.{ℕ, ◌+◌, ◌*◌, ◌≤◌, ◌<◌}
use lib.ListN.{length}
use borrow.Author.Tests.{eqb-true, ltb-false, leb-false, not-false, eq-eqb, lt-leb, le-ltb}
use Rattle.blocks.specs.Bytes.{block_size, block_count}
use Rattle.blocks.specs.Name.{is_name}
use Rattle.blocks.specs.Descriptor.{cost_of, revision_ok, cost_in}
use Rattle.chains.specs.Chain.{chain, chain_sound, named, active_of}
use Rattle.entries.specs.Entry.{need}
use Rattle.calls.specs.Call.{Target, Ream, Read, Write, Snap, Revert, Listing, Check, Visit, SpanRead, SpanWrite, accepted}
use Rattle.calls.specs.declared.answer.Record.{Record}
use Rattle.calls.specs.Parts.{area_bad, descriptors_of, snapshots_of, most_snapshots, is_snapshot, target_of, found_through, is_misplaced}
use Rattle.calls.specs.Check.{check_card, is_fault}
use Rattle.calls.specs.Spans.{span_verdict, write_span_need}
use Rattle.calls.specs.Ladder.{first_row, admission, ream_rows, read_rows, write_rows, snap_rows, revert_rows, list_rows, check_rows, visit_rows, span_read_rows, span_write_rows}
use Rattle.calls.specs.Meaning.{rows_of, answer_of}
use Rattle.calls.specs.Step.{is_accepted}
use Rattle.calls.proofs.RowLaws.{holds_of, rows_passed}
use Rattle.blocks.specs.declared.descriptor.Format.{Format}

-- a format: revision and name are such, and the first region fits the card
pub record ReamPassed (c : List ℕ) (format : Format) : Type 0 where
  pub area : area_bad c ≡ false
  pub revision : revision_ok format.revision ≡ true
  pub called : is_name format.name ≡ true
  pub room : cost_in format ≤ block_count c

-- a read, and a visit: a snapshot that is named is there, the number is below L, and what is followed is in place
pub record ReadPassed (c : List ℕ) (target : Target) (name : List ℕ) (l : ℕ) : Type 0 where
  pub area : area_bad c ≡ false
  pub sound : chain_sound (chain c) ≡ true
  pub there : (is_snapshot target && not (named (snapshots_of (descriptors_of c)) name)) ≡ false
  pub below : l < (active_of (descriptors_of c)).volume
  pub in_place : is_misplaced (found_through c (target_of (descriptors_of c) target name) l) ≡ false

-- a write: a whole block, the number below L, the entry in place, room for what it needs
pub record WritePassed (c : List ℕ) (l : ℕ) (block : List ℕ) : Type 0 where
  pub area : area_bad c ≡ false
  pub sound : chain_sound (chain c) ≡ true
  pub whole : length block ≡ block_size
  pub below : l < (active_of (descriptors_of c)).volume
  pub in_place : is_misplaced (found_through c (active_of (descriptors_of c)) l) ≡ false
  pub room : (active_of (descriptors_of c)).beta.0 + need (active_of (descriptors_of c)).alpha.0 (found_through c (active_of (descriptors_of c)) l) ≤ block_count c

-- a snap: the name is one and not in use, there are fewer than 255 snapshots, and there is room for c more blocks
pub record SnapPassed (c name : List ℕ) : Type 0 where
  pub area : area_bad c ≡ false
  pub sound : chain_sound (chain c) ≡ true
  pub called : is_name name ≡ true
  pub unused : named (descriptors_of c) name ≡ false
  pub few : length (snapshots_of (descriptors_of c)) < most_snapshots
  pub room : (active_of (descriptors_of c)).beta.0 + cost_of (active_of (descriptors_of c)) ≤ block_count c

-- a revert: the name is one, and a snapshot has it
pub record RevertPassed (c name : List ℕ) : Type 0 where
  pub area : area_bad c ≡ false
  pub sound : chain_sound (chain c) ≡ true
  pub called : is_name name ≡ true
  pub there : named (snapshots_of (descriptors_of c)) name ≡ true

-- a listing: there is a record for each descriptor
pub record ListPassed (c : List ℕ) (records : List Record) : Type 0 where
  pub area : area_bad c ≡ false
  pub sound : chain_sound (chain c) ≡ true
  pub room : length (descriptors_of c) ≤ length records

-- a check: no entry is at fault
pub record CheckPassed (c : List ℕ) : Type 0 where
  pub area : area_bad c ≡ false
  pub sound : chain_sound (chain c) ≡ true
  pub faultless : is_fault (check_card c) ≡ false

-- a span read: a snapshot that is named is there, the span ends in the volume, and what is followed is in place
pub record SpanReadPassed (c : List ℕ) (target : Target) (name : List ℕ) (o : ℕ) (bytes : List ℕ) : Type 0 where
  pub area : area_bad c ≡ false
  pub sound : chain_sound (chain c) ≡ true
  pub there : (is_snapshot target && not (named (snapshots_of (descriptors_of c)) name)) ≡ false
  pub upto : o + length bytes ≤ block_size * (active_of (descriptors_of c)).volume
  pub in_place : is_fault (span_verdict c (target_of (descriptors_of c) target name) o (length bytes)) ≡ false

-- a span write: the span ends in the volume, no entry of the card is at fault, room for what its blocks need
pub record SpanWritePassed (c : List ℕ) (o : ℕ) (bytes : List ℕ) : Type 0 where
  pub area : area_bad c ≡ false
  pub sound : chain_sound (chain c) ≡ true
  pub upto : o + length bytes ≤ block_size * (active_of (descriptors_of c)).volume
  pub faultless : is_fault (check_card c) ≡ false
  pub room : (active_of (descriptors_of c)).beta.0 + write_span_need c o bytes ≤ block_count c

pub ream_passed : (c : List ℕ) (format : Format) → is_accepted (answer_of (Ream format) c) ≡ true → ReamPassed c format
unfolding rows_of admission ream_rows holds_of
ream_passed c format e =
    let row = rows_passed (Ream format) c e in
    record { area = row 1; revision = not-false _ (row 17); called = not-false _ (row 4); room = ltb-false _ _ (row 5) }

pub read_passed : (c : List ℕ) (target : Target) (name : List ℕ) (l : ℕ) (block : List ℕ) → is_accepted (answer_of (Read target name l block) c) ≡ true → ReadPassed c target name l
unfolding rows_of admission read_rows holds_of
read_passed c target name l block e =
    let row = rows_passed (Read target name l block) c e in
    record { area = row 1; sound = not-false _ (row 6); there = row 7; below = leb-false _ _ (row 8); in_place = row 10 }

pub visit_passed : (c : List ℕ) (target : Target) (name : List ℕ) (l : ℕ) → is_accepted (answer_of (Visit target name l) c) ≡ true → ReadPassed c target name l
unfolding rows_of admission visit_rows holds_of
visit_passed c target name l e =
    let row = rows_passed (Visit target name l) c e in
    record { area = row 1; sound = not-false _ (row 6); there = row 7; below = leb-false _ _ (row 8); in_place = row 10 }

pub write_passed : (c : List ℕ) (l : ℕ) (block : List ℕ) → is_accepted (answer_of (Write l block) c) ≡ true → WritePassed c l block
unfolding rows_of admission write_rows holds_of
write_passed c l block e =
    let row = rows_passed (Write l block) c e in
    record { area = row 1; sound = not-false _ (row 6); whole = eqb-true _ _ (not-false _ (row 9)); below = leb-false _ _ (row 8); in_place = row 10; room = ltb-false _ _ (row 11) }

pub snap_passed : (c name : List ℕ) → is_accepted (answer_of (Snap name) c) ≡ true → SnapPassed c name
unfolding rows_of admission snap_rows holds_of
snap_passed c name e =
    let row = rows_passed (Snap name) c e in
    record { area = row 1; sound = not-false _ (row 6); called = not-false _ (row 4); unused = row 12; few = leb-false _ _ (row 13); room = ltb-false _ _ (row 11) }

pub revert_passed : (c name : List ℕ) → is_accepted (answer_of (Revert name) c) ≡ true → RevertPassed c name
unfolding rows_of admission revert_rows holds_of
revert_passed c name e =
    let row = rows_passed (Revert name) c e in
    record { area = row 1; sound = not-false _ (row 6); called = not-false _ (row 4); there = not-false _ (row 7) }

pub list_passed : (c : List ℕ) (records : List Record) → is_accepted (answer_of (Listing records) c) ≡ true → ListPassed c records
unfolding rows_of admission list_rows holds_of
list_passed c records e =
    let row = rows_passed (Listing records) c e in
    record { area = row 1; sound = not-false _ (row 6); room = ltb-false _ _ (row 14) }

pub check_passed : (c : List ℕ) → is_accepted (answer_of Check c) ≡ true → CheckPassed c
unfolding rows_of admission check_rows holds_of
check_passed c e =
    let row = rows_passed Check c e in
    record { area = row 1; sound = not-false _ (row 6); faultless = row 10 }

pub span_read_passed : (c : List ℕ) (target : Target) (name : List ℕ) (o : ℕ) (bytes : List ℕ) → is_accepted (answer_of (SpanRead target name o bytes) c) ≡ true → SpanReadPassed c target name o bytes
unfolding rows_of admission span_read_rows holds_of
span_read_passed c target name o bytes e =
    let row = rows_passed (SpanRead target name o bytes) c e in
    record { area = row 1; sound = not-false _ (row 6); there = row 7; upto = ltb-false _ _ (row 16); in_place = row 10 }

pub span_write_passed : (c : List ℕ) (o : ℕ) (bytes : List ℕ) → is_accepted (answer_of (SpanWrite o bytes) c) ≡ true → SpanWritePassed c o bytes
unfolding rows_of admission span_write_rows holds_of
span_write_passed c o bytes e =
    let row = rows_passed (SpanWrite o bytes) c e in
    record { area = row 1; sound = not-false _ (row 6); upto = ltb-false _ _ (row 16); faultless = row 10; room = ltb-false _ _ (row 11) }

-- the facts of a write, and those of a revert, are all that it asks
pub write_accepted : (c : List ℕ) (l : ℕ) (block : List ℕ) → WritePassed c l block → answer_of (Write l block) c ≡ accepted
unfolding answer_of rows_of admission write_rows first_row
write_accepted c l block h =
    rw (h.area, eq-eqb (length block) 512 h.whole, h.sound, lt-leb (active_of (descriptors_of c)).volume l h.below, h.in_place, le-ltb _ _ h.room)

pub revert_accepted : (c name : List ℕ) → RevertPassed c name → answer_of (Revert name) c ≡ accepted
unfolding answer_of rows_of admission revert_rows first_row
revert_accepted c name h = rw (h.area, h.called, h.sound, h.there)
