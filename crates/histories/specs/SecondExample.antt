-- A second list of calls, of every kind, accepted ones and refused ones, in both layouts, and what 01 says that they answer. The card has eight blocks, the volume one.
use Rattle.std.specs.Prelude.{List, [], ◌∷◌, map, ℕ}
use Rattle.blocks.specs.Name.{no_name}
use Rattle.blocks.specs.Descriptor.{as_format}
use Rattle.calls.specs.declared.answer.Answer.{Answer}
use Rattle.calls.specs.Call.{Active, Snapshot, Call, Ream, Read, Write, Snap, Revert, Listing, Check, Visit, Lent, None, Block, Records, Outcome, answer, accepted, NoneGiven, NameGiven}
use Rattle.claims.specs.History.{formatted}
use Rattle.claims.specs.Bench.{area, fs, mon, tue, lent, blank}
use Rattle.histories.specs.Example.{filled_block, lent_records, listed_as, yields}

abbrev pub second_card : ℕ → List ℕ
second_card layout = formatted (area 8) (as_format layout 1 fs)

unfoldable pub second_calls : List Call
second_calls =
    Write 0 (filled_block 7)
    -- from this snap, position 1, up to the revert to mon, position 12, the calls are forgotten
    ∷ Snap mon
    ∷ Check
    ∷ Ream (as_format 1 1024 tue)
    ∷ Listing lent_records
    ∷ Snap mon
    ∷ Read Snapshot mon 0 lent
    ∷ Visit Active no_name 0
    ∷ Write 0 (filled_block 9)
    ∷ Snap tue
    ∷ Write 0 (filled_block 11)
    ∷ Revert tue
    ∷ Revert mon
    -- what comes after it
    ∷ Read Active no_name 0 lent
    ∷ Visit Active no_name 0
    ∷ Ream (as_format 3 1 tue)
    ∷ Snap tue
    ∷ Write 0 (filled_block 5)
    ∷ Revert tue
    ∷ Listing lent_records
    ∷ []

-- refused, with what is lent as it was
abbrev pub refuses : ℕ → Lent → Outcome
refuses number l = record { answer = answer number 0; lent = l; given = NoneGiven }

-- a visit that is accepted, with the name that it gives
abbrev pub gives : List ℕ → Outcome
gives name = record { answer = accepted; lent = None; given = NameGiven name }

-- the first region ends at block 3 in both layouts, the second at beta
unfoldable pub second_outcomes : ℕ → List Outcome
second_outcomes beta =
    yields (Block (filled_block 7))
    ∷ yields None
    ∷ yields None
    -- eight tables and a descriptor exceed the eight blocks
    ∷ refuses 5 None
    ∷ yields (Records (listed_as mon 0 3 3 ∷ listed_as fs 3 beta 0 ∷ blank ∷ []))
    -- mon is in use
    ∷ refuses 12 None
    ∷ yields (Block (filled_block 7))
    -- the block was written before the snap: it dates from mon
    ∷ gives mon
    ∷ yields (Block (filled_block 9))
    ∷ yields None
    -- a third region leaves one block in layout 2, where the write needs two, and none in layout 1, where it needs one
    ∷ refuses 11 (Block (filled_block 11))
    ∷ yields None
    ∷ yields None
    ∷ yields (Block (filled_block 7))
    -- the region of mon has the active name now
    ∷ gives fs
    -- 3 is no layout
    ∷ refuses 2 None
    ∷ yields None
    ∷ yields (Block (filled_block 5))
    ∷ yields None
    ∷ yields (Records (listed_as fs 0 3 0 ∷ blank ∷ blank ∷ []))
    ∷ []

-- number and place of each
abbrev pub second_answers : List Answer
second_answers = map (λ (o : Outcome). o.answer) (second_outcomes 0)
