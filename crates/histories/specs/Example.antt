-- The calls of 01's worked example, in both layouts, and what 01 says that they answer. The old bytes of the area are sevens.
use Rattle.std.specs.Prelude.{List, [], ◌∷◌, ℕ, replicate}
use Rattle.blocks.specs.Bytes.{block_size}
use Rattle.blocks.specs.Name.{no_name}
use Rattle.calls.specs.Call.{Active, Snapshot, Call, Read, Write, Snap, Revert, Listing, Lent, None, Block, Records, Outcome, accepted, NoneGiven}
use Rattle.calls.specs.declared.answer.Record.{Record}
use Rattle.claims.specs.History.{formatted}
use Rattle.claims.specs.Bench.{area, fs, mon, lent, blank}
use Rattle.blocks.specs.Descriptor.{physical, as_format}

-- blocks=16 volume=200 name=fs, in a layout
abbrev pub example_card : ℕ → List ℕ
example_card layout = formatted (area 16) (as_format layout 200 fs)

-- 512 bytes of a value, as a write of that fill lends
abbrev pub filled_block : ℕ → List ℕ
filled_block value = replicate block_size value

-- three lent records
abbrev pub lent_records : List Record
lent_records = replicate 3 blank

unfoldable pub example_calls : List Call
example_calls =
    Write 5 (filled_block 7)
    ∷ Snap mon
    ∷ Write 5 (filled_block 9)
    ∷ Read Snapshot mon 5 lent
    ∷ Read Active no_name 5 lent
    ∷ Listing lent_records
    ∷ Revert mon
    ∷ Read Active no_name 5 lent
    ∷ Listing lent_records
    ∷ []

abbrev pub listed_as : List ℕ → ℕ → ℕ → ℕ → Record
listed_as name alpha beta next = record { name = name; alpha = physical alpha; beta = physical beta; next = physical next }

-- accepted, with what is lent at exit
abbrev pub yields : Lent → Outcome
yields l = record { answer = accepted; lent = l; given = NoneGiven }

-- each is accepted; the reads give 7, 9 and, after the revert, 7; the first region ends at beta, the second at beta'
unfoldable pub example_outcomes : ℕ → ℕ → List Outcome
example_outcomes beta beta' =
    yields (Block (filled_block 7))
    ∷ yields None
    ∷ yields (Block (filled_block 9))
    ∷ yields (Block (filled_block 7))
    ∷ yields (Block (filled_block 9))
    ∷ yields (Records (listed_as mon 0 beta beta ∷ listed_as fs beta beta' 0 ∷ blank ∷ []))
    ∷ yields None
    ∷ yields (Block (filled_block 7))
    ∷ yields (Records (listed_as fs 0 beta 0 ∷ blank ∷ blank ∷ []))
    ∷ []
