-- Document 01's worked example on a card of revision 1, in both layouts, and after it a second rollback to the same visit (02, W5).
use Rattle.std.specs.Prelude.{List, [], ◌∷◌, ◌++◌, ℕ, take, replicate}
use Rattle.blocks.specs.Name.{no_name}
use Rattle.blocks.specs.Descriptor.{format_of}
use Rattle.calls.specs.Call.{Active, Snapshot, Call, Ream, Read, Write, Snap, Revert, Listing, None, Block, Records, Outcome, answer, accepted}
use Rattle.claims.specs.History.{formatted}
use Rattle.claims.specs.Bench.{area, fs, mon, tue, lent, blank}
use Rattle.histories.specs.Example.{example_calls, example_outcomes, filled_block, lent_records, listed_as, yields}
use Rattle.histories.specs.SecondExample.{refuses}
use Rattle.calls.specs.declared.answer.Answer.{Answer}

-- blocks=16 volume=200 name=fs, in a layout, of revision 1
abbrev pub surviving_card : ℕ → List ℕ
surviving_card layout = formatted (area 16) (format_of layout 200 1 fs)

-- the calls of the example, of which the snap is at position 1 and the revert at position 6; then another write, a refused ream, a later visit with a rollback to
-- it, a refused snap of mon; and the revert to mon again, at position 17
unfoldable pub surviving_calls : List Call
surviving_calls =
    example_calls
    ++ (Write 5 (filled_block 11)
    ∷ Read Active no_name 5 lent
    ∷ Read Snapshot mon 5 lent
    ∷ Ream (format_of 2 200 2 fs)
    ∷ Snap tue
    ∷ Snap mon
    ∷ Revert tue
    ∷ Listing lent_records
    ∷ Revert mon
    ∷ Read Active no_name 5 lent
    ∷ Listing lent_records
    ∷ [])

-- up to the read after the first revert they answer as in 01; from there on mon is still listed. The first region ends at beta, the second at beta' after a write and at
-- opened after a revert, and the third, after tue, at last
unfoldable pub surviving_outcomes : ℕ → ℕ → ℕ → ℕ → List Outcome
surviving_outcomes beta beta' opened last =
    let listed = Records (listed_as mon 0 beta beta ∷ listed_as fs beta opened 0 ∷ blank ∷ []) in
    take 8 (example_outcomes beta beta')
    ++ (yields listed
    ∷ yields (Block (filled_block 11))
    ∷ yields (Block (filled_block 11))
    ∷ yields (Block (filled_block 7))
    ∷ refuses 17 None
    ∷ yields None
    ∷ refuses 12 None
    ∷ yields None
    ∷ yields (Records (listed_as mon 0 beta beta ∷ listed_as tue beta beta' beta' ∷ listed_as fs beta' last 0 ∷ []))
    ∷ yields None
    ∷ yields (Block (filled_block 7))
    ∷ yields listed
    ∷ [])

-- number and place of each
unfoldable pub surviving_answers : List Answer
surviving_answers = replicate 12 accepted ++ (answer 17 0 ∷ accepted ∷ answer 12 0 ∷ replicate 5 accepted)
