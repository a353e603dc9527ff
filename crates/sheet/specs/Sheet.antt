-- The work sheet: the call that a line asks for, what it does to the sheet's blocks and records, what it prints, and a whole sheet.
use Rattle.std.specs.Prelude.{◌≡◌, Bool, true, false, List, [], ◌∷◌, ◌++◌, ℕ, zero, suc, ◌*◌, ◌≤◌, length, take, drop, get_or, replicate, ltb, Option, None as none, Some as some, Result, Ok, Err}
use Rattle.blocks.specs.Pick.{pick}
use Rattle.blocks.specs.Bytes.{block_size, zero_block}
use Rattle.calls.specs.declared.answer.Answer.{Answer}
use Rattle.calls.specs.declared.answer.Record.{Record}
use Rattle.calls.specs.declared.answer.Refusal.{Refusal}
use Rattle.blocks.specs.Descriptor.{as_format}
use Rattle.calls.specs.Call.{Call, Ream, Read, Write, Snap, Revert, Listing, Check, Lent, None, Block, Records, answer, answered, target_as, name_as}
use Rattle.calls.specs.Parts.{descriptors_of}
use Rattle.calls.specs.Effect.{no_record}
use Rattle.calls.specs.Step.{step, is_accepted}
use Rattle.calls.specs.Listing.{sheet_records}
use Rattle.cutter.specs.declared.line.SheetCall.{SheetCall}
use Rattle.cutter.specs.declared.line.SheetCall.TheVariants as line
use Rattle.cutter.specs.Grammar.{sheet_blocks, SheetLine, lines_of, line_in, cut_at}
use Rattle.printing.specs.Text.{line_feed, answer_text, byte_text, records_text}
use Rattle.sheet.specs.declared.run.Addition.{Addition}
use Rattle.sheet.specs.declared.run.Addition.TheVariants.{Nothing, Byte, FirstRecords}
use Rattle.sheet.specs.State.{State}

-- the first n blocks, and the area with these put back
abbrev pub card_of : List ℕ → ℕ → List ℕ
card_of area n = take (block_size * n) area

abbrev pub with_card : List ℕ → ℕ → List ℕ → List ℕ
with_card area n card = card ++ drop (block_size * n) area

-- at the start all blocks are zero, and all are the card
unfoldable pub start : State
start = record { area = replicate (block_size * sheet_blocks) 0; blocks = sheet_blocks; records = replicate sheet_records no_record }

-- "It owns 64 blocks, zero at the start, and a list of 64 records; the card is all 64": in numbers, since no line prints what a block held at the start.
unfoldable pub StartClaim : Type 0
StartClaim = (start.area ≡ replicate 32768 0) × (start.blocks ≡ 64) × (length start.records ≡ 64)

-- the call of a line, with what the sheet lends to it: a block full of one byte, a block of zeros, its records.
unfoldable pub call_of : SheetCall → List Record → Call
call_of (line.Ream layout blocks volume name) records = Ream (as_format layout volume name)
call_of (line.Write l fill) records = Write l.0 (replicate block_size fill)
call_of (line.Read target l) records = Read (target_as target) (name_as target) l.0 zero_block
call_of (line.Snap name) records = Snap name
call_of (line.Revert name) records = Revert name
call_of line.List records = Listing records
call_of line.Check records = Check

-- the blocks that a call is made on: a format's own, else the card's
unfoldable pub blocks_of : SheetCall → ℕ → ℕ
blocks_of (line.Ream layout blocks volume name) n = blocks
blocks_of (line.Write l fill) n = n
blocks_of (line.Read target l) n = n
blocks_of (line.Snap name) n = n
blocks_of (line.Revert name) n = n
blocks_of line.List n = n
blocks_of line.Check n = n

-- the blocks that a format asks for, none in any other line
unfoldable pub size_of : Option SheetCall → ℕ
size_of none = 0
size_of (some call) = blocks_of call 0

-- the first byte of a lent block, and the records after a call
unfoldable pub first_byte_of : Lent → ℕ
first_byte_of None = 0
first_byte_of (Block b) = get_or b 0 0
first_byte_of (Records rs) = 0

unfoldable pub records_after : Lent → List Record → List Record
records_after None records = records
records_after (Block b) records = records
records_after (Records rs) records = rs

-- what an accepted call prints besides its answer: a read the first byte, a listing a record for each descriptor
unfoldable pub addition_of : SheetCall → Lent → List ℕ → Addition
addition_of (line.Ream layout blocks volume name) lent card = Nothing
addition_of (line.Write l fill) lent card = Nothing
addition_of (line.Read target l) lent card = Byte (first_byte_of lent)
addition_of (line.Snap name) lent card = Nothing
addition_of (line.Revert name) lent card = Nothing
addition_of line.List lent card = FirstRecords (length (descriptors_of card))
addition_of line.Check lent card = Nothing

-- how many records are added
unfoldable pub count_of : Addition → ℕ
count_of Nothing = 0
count_of (Byte b) = 0
count_of (FirstRecords n) = n

-- what a line leaves: its answer, how many blocks are the card, what is added to it, the records, and whether the sheet ends
pub record Ran : Type 0 where
  pub answer : Answer
  pub blocks : ℕ
  pub addition : Addition
  pub records : List Record
  pub ended : Bool

-- the same, and its blocks
pub record LineResult : Type 0 where
  pub ran : Ran
  pub area : List ℕ

-- a call made on the first n blocks: where it is accepted these are the card
unfoldable pub after_call : State → SheetCall → LineResult
after_call s call =
    let n = blocks_of call s.blocks in
    let card = card_of s.area n in
    let d = step (call_of call s.records) card in
    let a = d.outcome.answer in
    record {
      ran = record {
        answer = a;
        blocks = pick (is_accepted a) n s.blocks;
        addition = pick (is_accepted a) (addition_of call d.outcome.lent card) Nothing;
        records = records_after d.outcome.lent s.records;
        ended = false;
      };
      area = with_card s.area n d.card;
    }

-- the line of a number, from 1: one that is not of the form answers 15 with that number, and the sheet ends
unfoldable pub after_line : State → ℕ → Option SheetCall → LineResult
after_line s number none = record { ran = record { answer = answer 15 number; blocks = s.blocks; addition = Nothing; records = s.records; ended = true }; area = s.area }
after_line s number (some call) = after_call s call

-- the same as the code has it: what it returns, whether the sheet ends, and the sheet after it
abbrev pub added : Result Addition Refusal → Addition
added (Ok a) = a
added (Err r) = Nothing

abbrev pub left_by : Result Addition Refusal → Bool → State → LineResult
left_by r ended s = record { ran = record { answer = answered r; blocks = s.blocks; addition = added r; records = s.records; ended = ended }; area = s.area }

abbrev pub state_after : LineResult → State
state_after a = record { area = a.area; blocks = a.ran.blocks; records = a.ran.records }

-- what a line prints: its answer, a read's byte, a line feed, a listing's records
unfoldable pub added_byte : Addition → List ℕ
added_byte Nothing = []
added_byte (Byte b) = byte_text b
added_byte (FirstRecords n) = []

unfoldable pub added_records : Addition → List Record → List ℕ
added_records Nothing records = []
added_records (Byte b) records = []
added_records (FirstRecords n) records = records_text (take n records)

unfoldable pub line_text : Answer → Addition → List Record → List ℕ
line_text a addition records = answer_text a ++ added_byte addition ++ line_feed ++ added_records addition records

abbrev pub printed : Ran → List ℕ
printed r = line_text r.answer r.addition r.records

-- what a turn leaves: where the next line starts, how many bytes were printed, how many blocks are the card, the records, and whether the sheet ends
pub record Turn : Type 0 where
  pub next : ℕ
  pub length : ℕ
  pub blocks : ℕ
  pub records : List Record
  pub ended : Bool

-- a turn of the program: the line of a number that starts at a byte of the sheet
pub record Turned : Type 0 where
  pub turn : Turn
  pub area : List ℕ
  pub text : List ℕ

unfoldable pub turn_of : State → ℕ → List ℕ → ℕ → Turned
turn_of s number sheet at =
    let cut = cut_at sheet at in
    let a = after_line s number cut.call in
    record {
      turn = record { next = cut.next; length = length (printed a.ran); blocks = a.ran.blocks; records = a.ran.records; ended = a.ran.ended };
      area = a.area;
      text = printed a.ran;
    }

abbrev pub state_turned : Turned → State
state_turned t = record { area = t.area; blocks = t.turn.blocks; records = t.turn.records }

-- what at most k turns print, from the line of a number that starts at a byte of the sheet
unfoldable pub turns_text : ℕ → State → ℕ → List ℕ → ℕ → List ℕ
turns_text zero s number sheet at = []
turns_text (suc k) s number sheet at =
    let t = turn_of s number sheet at in
    pick (ltb at (length sheet)) (t.text ++ pick t.turn.ended [] (turns_text k (state_turned t) (suc number) sheet t.turn.next)) []

-- the lines from a number on, one after the other, up to the first that is not of the form
unfoldable pub lines_text : State → ℕ → List SheetLine → List ℕ
lines_text s number [] = []
lines_text s number (l ∷ ls) =
    let a = after_line s number (line_in l) in
    printed a.ran ++ pick a.ran.ended [] (lines_text (state_after a) (suc number) ls)

-- the most bytes of a sheet
abbrev pub most_sheet : ℕ
most_sheet = 16384

-- what a sheet prints
unfoldable pub too_long : List ℕ
too_long = answer_text (answer 15 0) ++ line_feed

unfoldable pub sheet_text : List ℕ → List ℕ
sheet_text sheet = pick (ltb most_sheet (length sheet)) too_long (lines_text start 1 (lines_of sheet))

-- turn after turn, a sheet that is not too long prints just that
unfoldable pub TurnsClaim : Type 0
TurnsClaim = (sheet : List ℕ) → length sheet ≤ most_sheet → turns_text (length sheet) start 1 sheet 0 ≡ sheet_text sheet
