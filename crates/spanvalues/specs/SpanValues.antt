-- Values of spans (document 02, W1) on small cards that are written out block by block: what a span read gives, where a span may end, each refusal and which comes first, and
-- the room that a span write takes; whole cards after a span write, and what calls give on these. All of them are worked out from the papers.
use Rattle.std.specs.Prelude.{◌≡◌, List, [], ◌∷◌, ◌++◌, ℕ, replicate}
use Rattle.blocks.specs.Bytes.{le32, zero_block}
use Rattle.blocks.specs.Name.{no_name}
use Rattle.blocks.specs.Descriptor.{as_format}
use Rattle.calls.specs.Call.{Active, Snapshot, Call, Write, Check, SpanRead, SpanWrite, answer}
use Rattle.calls.specs.Step.{after}
use Rattle.claims.specs.History.{formatted}
use Rattle.claims.specs.Bench.{Beta, Value, Differs, area, ones, fs, mon, tue, lent}
use Rattle.samples.specs.Samples.{descriptor, bare, with_phi, table, table_end, of_revision, phi_of, one_block, two, four, old, pair, tables2, shared4, dated, dated1, reading, reading_from, visiting, visiting_from, only, showing_block, refusing, naming}
use Rattle.cards.specs.Cards.{counting, counted, Change, change, said, left}

-- n bytes lent to a span read; a span read of n bytes from byte o on, of the active store and of a snapshot
abbrev pub lending : ℕ → List ℕ
lending n = replicate n 8

abbrev pub fetching : ℕ → ℕ → Call
fetching o n = SpanRead Active no_name o (lending n)

abbrev pub fetching_from : List ℕ → ℕ → ℕ → Call
fetching_from name o n = SpanRead Snapshot name o (lending n)

-- a byte and two bytes for a span write: none of the cards has such bytes
abbrev pub new : List ℕ
new = 251 ∷ []

abbrev pub new_two : List ℕ
new_two = 251 ∷ 252 ∷ []

-- a refusal with place 0, and the card's beta after it
abbrev pub staying : List ℕ → Call → ℕ → ℕ → Value
staying card call number beta = record { card = card; call = call; answer = answer number 0; shown = Beta beta }

-- the largest offset, 2^64 - 1
abbrev pub largest : ℕ
largest = 18446744073709551615

-- four blocks, layout 2, L 3, so that the volume ends at byte 1,536, and beta = N: a table block with its first two entries, then two blocks; logical block 2 is nil
abbrev pub set2 : ℕ → ℕ → List ℕ → List ℕ → List ℕ
set2 p q a b = with_phi (descriptor 2 3 0 4 0 fs) 1 0 ++ table p q ++ a ++ b

-- logical blocks 0 and 1 in blocks 2 and 3; in blocks 3 and 2; the first in layout 1. Byte i of `counted 10` is 10 + i modulo 251, and its last one is 19; that of `counted 100` is 109
abbrev pub kept : List ℕ
kept = set2 2 3 (counted 10) (counted 100)

abbrev pub turned : List ℕ
turned = set2 3 2 (counted 10) (counted 100)

abbrev pub kept1 : List ℕ
kept1 = bare (descriptor 1 3 0 4 0 fs) ++ table 2 3 ++ counted 10 ++ counted 100

-- a table block that names blocks 2, 3 and 4
abbrev pub table234 : List ℕ
table234 = le32 2 ++ le32 3 ++ le32 4 ++ replicate 500 0

-- n blocks as a format leaves them, the old bytes being sevens
abbrev pub fresh : ℕ → ℕ → ℕ → List ℕ
fresh layout volume n = formatted (area n) (as_format layout volume fs)

-- layout 2, L 2: the snapshot mon, with its table block and logical blocks 0 and 1 in blocks 2 and 3; the active store in block 4, with the same Phi; n free blocks
abbrev pub frozen : ℕ → List ℕ
frozen n = with_phi (descriptor 2 2 0 4 4 mon) 1 0 ++ table 2 3 ++ counted 10 ++ counted 100 ++ with_phi (descriptor 2 2 4 5 0 fs) 1 0 ++ area n

-- The bytes that a span read gives.
unfoldable pub fetched_values : List Value
fetched_values =
    -- from a block's first byte on, and from its last one: one byte, and two
    showing_block kept (fetching 0 1) (10 ∷ [])
    ∷ showing_block kept (fetching 0 2) (10 ∷ 11 ∷ [])
    ∷ showing_block kept (fetching 511 1) (19 ∷ [])
    ∷ showing_block kept (fetching 511 2) (19 ∷ 100 ∷ [])
    ∷ showing_block kept (fetching 512 1) (100 ∷ [])
    ∷ showing_block kept (fetching 512 2) (100 ∷ 101 ∷ [])
    -- the next logical block stands before the first one on the card
    ∷ showing_block turned (fetching 511 2) (109 ∷ 10 ∷ [])
    -- inside one block
    ∷ showing_block kept (fetching 300 4) (59 ∷ 60 ∷ 61 ∷ 62 ∷ [])
    -- a set block and a nil one; a nil one
    ∷ showing_block kept (fetching 1023 2) (109 ∷ 0 ∷ [])
    ∷ showing_block kept (fetching 1024 2) (0 ∷ 0 ∷ [])
    -- 700 bytes, which end in the third block, in both layouts; the volume as one run of 3 times 512 bytes
    ∷ showing_block kept (fetching 400 700) (counting 112 410 ++ counted 100 ++ replicate 76 0)
    ∷ showing_block kept1 (fetching 400 700) (counting 112 410 ++ counted 100 ++ replicate 76 0)
    ∷ showing_block kept (fetching 0 1536) (counted 10 ++ counted 100 ++ zero_block)
    -- no byte: inside a block, and between two
    ∷ showing_block kept (fetching 300 0) []
    ∷ showing_block kept (fetching 512 0) []
    ∷ []

-- Offset plus length may reach the volume's end and not pass it. The sum is not cut to 64 bits.
unfoldable pub end_values : List Value
end_values =
    showing_block kept (fetching 1535 1) (0 ∷ [])
    ∷ refusing kept (fetching 1535 2) 16 0 (lending 2)
    ∷ showing_block kept (fetching 1536 0) []
    ∷ refusing kept (fetching 1536 1) 16 0 (lending 1)
    ∷ refusing kept (fetching 1537 0) 16 0 []
    ∷ refusing kept (fetching 0 1537) 16 0 (lending 1537)
    ∷ refusing kept (fetching largest 0) 16 0 []
    ∷ refusing kept (fetching largest 1) 16 0 (lending 1)
    ∷ refusing kept (fetching largest 2) 16 0 (lending 2)
    -- the same of a span write; no byte at the end is among the whole cards below
    ∷ refusing kept (SpanWrite 1535 new_two) 16 0 new_two
    ∷ staying kept (SpanWrite 1536 new) 16 4
    ∷ only kept (SpanWrite 1537 []) 16 0
    ∷ only kept (SpanWrite largest []) 16 0
    ∷ only kept (SpanWrite largest new) 16 0
    ∷ only kept (SpanWrite largest new_two) 16 0
    ∷ []

-- Refusals before any entry: 1, 4, 6, 7, each before the next and before 16. A span of length 0 meets the same tests.
unfoldable pub refused_values : List Value
refused_values =
    -- one block
    refusing one_block (fetching 0 1) 1 0 (lending 1)
    ∷ only one_block (fetching_from no_name 0 1) 1 0
    ∷ only one_block (fetching 0 0) 1 0
    ∷ refusing one_block (SpanWrite 0 new_two) 1 0 new_two
    ∷ only one_block (SpanWrite 0 []) 1 0
    -- not a name, on no sound chain and past the end
    ∷ refusing (area 2) (fetching_from no_name 0 1) 4 0 (lending 1)
    ∷ only shared4 (fetching_from (replicate 16 65) 513 0) 4 0
    -- an unsound descriptor in block 0, and in block 1
    ∷ refusing (area 2) (fetching 0 1) 6 0 (lending 1)
    ∷ only (area 2) (fetching 0 0) 6 0
    ∷ only (area 2) (fetching_from mon largest 1) 6 0
    ∷ refusing (two 2 1 1 4 fs) (fetching 512 1) 6 1 (lending 1)
    ∷ refusing (area 2) (SpanWrite 0 new_two) 6 0 new_two
    ∷ only (two 2 1 1 4 fs) (SpanWrite 513 []) 6 1
    -- no snapshot has the name, the active name included
    ∷ refusing shared4 (fetching_from fs 0 1) 7 0 (lending 1)
    ∷ only shared4 (fetching_from tue 0 0) 7 0
    ∷ only shared4 (fetching_from tue 513 0) 7 0
    -- the snapshot's last byte, and past it; the name beside the active store is not looked at
    ∷ showing_block shared4 (fetching_from mon 511 1) (1 ∷ [])
    ∷ refusing shared4 (fetching_from mon 511 2) 16 0 (lending 2)
    ∷ showing_block shared4 (SpanRead Active (replicate 16 65) 510 (lending 2)) (1 ∷ 1 ∷ [])
    ∷ []

-- A span read follows the entries of its blocks, rising, and no others; where one is not in place, it gives the bytes of none.
unfoldable pub followed_values : List Value
followed_values =
    -- the second block's entry is not in place; the first block's
    showing_block (four 2 3 1 2 9) (fetching 511 1) (1 ∷ [])
    ∷ refusing (four 2 3 1 2 9) (fetching 511 2) 10 1 (lending 2)
    ∷ refusing (four 2 3 1 2 9) (fetching 512 1) 10 1 (lending 1)
    ∷ refusing (four 2 3 1 9 2) (fetching 511 2) 10 1 (lending 2)
    ∷ showing_block (four 2 3 1 9 2) (fetching 512 1) (1 ∷ [])
    -- a span of no byte follows no entry
    ∷ showing_block (four 2 3 1 2 9) (fetching 512 0) []
    ∷ showing_block (four 2 3 1 2 9) (fetching 1024 0) []
    -- 16 before 10
    ∷ only (four 2 3 1 2 9) (fetching 512 513) 16 0
    -- two groups: an entry of the second table, Phi's second entry; of two that are not in place the first
    ∷ refusing (tables2 129 1 2 0 9 0) (fetching 65535 2) 10 2 (lending 2)
    ∷ refusing (tables2 129 1 9 0 0 0) (fetching 65535 2) 10 0 (lending 2)
    ∷ only (tables2 129 9 2 0 9 0) (fetching 65535 2) 10 0
    ∷ only (tables2 129 9 2 0 9 0) (fetching 65536 1) 10 2
    -- layout 1: the snapshot's entry, and the active store's
    ∷ only (pair 3 1) (fetching_from mon 0 1) 10 1
    ∷ only (pair 3 1) (fetching 0 1) 10 4
    -- a card that fails check, whose entries are in place: one block is named twice
    ∷ showing_block (four 2 3 1 2 2) (fetching 511 2) (1 ∷ 1 ∷ [])
    ∷ []

-- On a card that fails check a span write gets check's answer, whatever blocks it touches.
unfoldable pub failing_values : List Value
failing_values =
    -- the entry of logical block 1 is at fault: two bytes of block 0, no byte, no byte at the end, a byte of block 1
    refusing (four 2 3 1 2 9) (SpanWrite 0 new_two) 10 1 new_two
    ∷ only (four 2 3 1 2 9) (SpanWrite 0 []) 10 1
    ∷ only (four 2 3 1 2 9) (SpanWrite 1024 []) 10 1
    ∷ only (four 2 3 1 2 9) (SpanWrite 512 new) 10 1
    -- 16 before 10
    ∷ only (four 2 3 1 2 9) (SpanWrite 1024 new) 16 0
    ∷ only (four 2 3 1 2 9) (SpanWrite 1025 []) 16 0
    -- no room for logical block 2, and with the fault: 10 before 11
    ∷ staying (four 3 4 1 2 0) (SpanWrite 1024 new) 11 4
    ∷ only (four 3 4 1 2 9) (SpanWrite 1024 new) 10 1
    -- a block named twice; an entry past L; a data entry above alpha in an old table, which a write overwrites
    ∷ only (four 2 3 1 2 2) (SpanWrite 0 new) 10 1
    ∷ only (four 1 3 1 0 2) (SpanWrite 0 new) 10 1
    ∷ only (old 3) (SpanWrite 0 new) 10 1
    -- a fault of the snapshot alone; of both, where a write meets the active store's; of the active store alone
    ∷ only (pair 3 5) (SpanWrite 0 new) 10 1
    ∷ only (pair 3 1) (SpanWrite 0 new) 10 1
    ∷ only (pair 3 1) (Write 0 ones) 10 4
    ∷ only (pair 2 1) (SpanWrite 0 new) 10 4
    ∷ []

-- Too few blocks are free, by one but for the last two, and nothing is done. The same with room is among the whole cards below.
unfoldable pub full_values : List Value
full_values =
    -- two nil blocks of one group: a table block and two data blocks
    staying (fresh 2 2 3) (SpanWrite 511 new_two) 11 1
    -- three of one group: a table block and three data blocks
    ∷ staying (fresh 2 3 4) (SpanWrite 400 (counting 700 30)) 11 1
    -- two of two groups: two table blocks and two data blocks
    ∷ staying (fresh 2 129 4) (SpanWrite 65535 new_two) 11 1
    -- two blocks below alpha, in a table below alpha: a copy of the table block, and two data blocks
    ∷ staying (frozen 2) (SpanWrite 511 new_two) 11 5
    -- a block below alpha and one above it, in a table above it: a data block
    ∷ staying (dated 0 1 3 5 3 7) (SpanWrite 511 new_two) 11 8
    -- layout 1: two data blocks
    ∷ staying (fresh 1 2 3) (SpanWrite 511 new_two) 11 2
    -- no room for the first block already: two blocks, and one is free; one block, and none is free
    ∷ staying (fresh 2 2 2) (SpanWrite 511 new_two) 11 1
    ∷ staying (four 129 4 1 2 0) (SpanWrite 65535 new_two) 11 4
    ∷ []

-- cards after a span write: of two nil blocks of one group, and of two groups; of two blocks below alpha
abbrev pub crossed : List ℕ
crossed = with_phi (descriptor 2 2 0 4 0 fs) 1 0 ++ table 2 3 ++ (replicate 511 0 ++ (251 ∷ [])) ++ (252 ∷ replicate 511 0)

abbrev pub crossed_groups : List ℕ
crossed_groups = with_phi (descriptor 2 129 0 5 0 fs) 1 3 ++ table_end 2 ++ (replicate 511 0 ++ (251 ∷ [])) ++ table 4 0 ++ (252 ∷ replicate 511 0)

abbrev pub copied : List ℕ
copied =
    with_phi (descriptor 2 2 0 4 4 mon) 1 0 ++ table 2 3 ++ counted 10 ++ counted 100
    ++ with_phi (descriptor 2 2 4 8 0 fs) 5 0 ++ table 6 7 ++ (counting 511 10 ++ (251 ∷ [])) ++ (252 ∷ counting 511 101)

-- Whole cards after a span write that takes all blocks that are free.
unfoldable pub span_writes : List Change
span_writes =
    -- need 2 and then 1: a table block at beta and its data block, then a data block that the same table names. Bytes outside the span are zeros
    change (fresh 2 2 4) (SpanWrite 511 new_two) crossed
    -- 700 bytes: need 2, then 1 and 1
    ∷ change (fresh 2 3 5)
    (SpanWrite 400 (counting 700 30))
    (with_phi (descriptor 2 3 0 5 0 fs) 1 0 ++ table234 ++ (replicate 400 0 ++ counting 112 30) ++ counting 512 142 ++ (counting 76 654 ++ replicate 436 0))
    -- two groups: need 2 and 2
    ∷ change (fresh 2 129 5) (SpanWrite 65535 new_two) crossed_groups
    -- need 2 and then 1: the table block is copied once, and the snapshot's blocks stay. Bytes outside the span keep their value
    ∷ change (frozen 3) (SpanWrite 511 new_two) copied
    -- need 1 and then 0: logical block 0 leaves block 3 and gets block 8, block 7 is overwritten
    ∷ change (dated 0 1 3 5 3 7 ++ zero_block)
    (SpanWrite 511 new_two)
    (phi_of 0 (descriptor 2 2 0 4 4 mon) 2 ++ ones ++ table 1 3 ++ ones
    ++ phi_of 0 (descriptor 2 2 4 9 0 fs) 5 ++ table 8 7 ++ lent ++ (252 ∷ replicate 511 9) ++ (replicate 511 1 ++ (251 ∷ [])))
    -- the volume's last byte: need 1
    ∷ change (kept ++ lent)
    (SpanWrite 1535 new)
    (with_phi (descriptor 2 3 0 5 0 fs) 1 0 ++ table234 ++ counted 10 ++ counted 100 ++ (replicate 511 0 ++ (251 ∷ [])))
    -- a zero is written like any other byte: need 2
    ∷ change (fresh 2 1 3) (SpanWrite 0 (0 ∷ [])) (with_phi (descriptor 2 1 0 3 0 fs) 1 0 ++ table 2 0 ++ zero_block)
    -- layout 1, two blocks below alpha: need 1 and 1
    ∷ change (dated1 0 2 3 ++ area 2)
    (SpanWrite 511 new_two)
    (of_revision 0 (descriptor 1 2 0 4 4 mon) ++ table 2 3 ++ ones ++ ones
    ++ of_revision 0 (descriptor 1 2 4 10 0 fs) ++ table 8 9 ++ lent ++ lent ++ (replicate 511 1 ++ (251 ∷ [])) ++ (252 ∷ replicate 511 1))
    -- layout 1, 700 bytes: need 0, 0 and 1, the middle block whole
    ∷ change (kept1 ++ lent)
    (SpanWrite 400 (counting 700 30))
    (bare (descriptor 1 3 0 5 0 fs) ++ table234
    ++ (counting 400 10 ++ counting 112 30) ++ counting 512 142 ++ (counting 76 654 ++ replicate 436 0))
    ∷ []

-- "broken down and processed as multiple operations, each fitting within one logical block" (000): the cards after writes of the whole blocks, rising, are the same.
unfoldable pub BlockByBlock : Type 0
BlockByBlock =
    (after (Write 0 (replicate 511 0 ++ (251 ∷ [])) ∷ Write 1 (252 ∷ replicate 511 0) ∷ []) (fresh 2 2 4) ≡ crossed)
    × (after (Write 127 (replicate 511 0 ++ (251 ∷ [])) ∷ Write 128 (252 ∷ replicate 511 0) ∷ []) (fresh 2 129 5) ≡ crossed_groups)
    × (after (Write 0 (counting 511 10 ++ (251 ∷ [])) ∷ Write 1 (252 ∷ counting 511 101) ∷ []) (frozen 3) ≡ copied)

-- Whole cards after a span write that takes no block, on a full card.
unfoldable pub overwrites : List Change
overwrites =
    -- from a block's first byte on, and from its last one: one byte, and two
    change kept (SpanWrite 0 new) (set2 2 3 (251 ∷ counting 511 11) (counted 100))
    ∷ change kept (SpanWrite 511 new) (set2 2 3 (counting 511 10 ++ (251 ∷ [])) (counted 100))
    ∷ change kept (SpanWrite 511 new_two) (set2 2 3 (counting 511 10 ++ (251 ∷ [])) (252 ∷ counting 511 101))
    ∷ change kept (SpanWrite 512 new) (set2 2 3 (counted 10) (251 ∷ counting 511 101))
    ∷ change kept (SpanWrite 512 new_two) (set2 2 3 (counted 10) (251 ∷ 252 ∷ counting 510 102))
    -- the next logical block stands before the first one on the card
    ∷ change turned (SpanWrite 511 new_two) (set2 3 2 (252 ∷ counting 511 11) (counting 511 100 ++ (251 ∷ [])))
    -- inside one block, and up to its end
    ∷ change kept (SpanWrite 300 (251 ∷ 252 ∷ 253 ∷ [])) (set2 2 3 (counting 300 10 ++ (251 ∷ 252 ∷ 253 ∷ []) ++ counting 209 313) (counted 100))
    ∷ change kept (SpanWrite 510 new_two) (set2 2 3 (counting 510 10 ++ new_two) (counted 100))
    -- no byte: inside a block, and at the volume's end
    ∷ change kept (SpanWrite 700 []) kept
    ∷ change kept (SpanWrite 1536 []) kept
    ∷ []

-- What calls give on the cards after a span write.
unfoldable pub later_values : List Value
later_values =
    -- zeros but for the bytes of the span
    showing_block crossed (reading 0) (replicate 511 0 ++ (251 ∷ []))
    ∷ showing_block crossed (reading 1) (252 ∷ replicate 511 0)
    ∷ showing_block crossed (fetching 510 4) (0 ∷ 251 ∷ 252 ∷ 0 ∷ [])
    ∷ showing_block crossed_groups (reading 127) (replicate 511 0 ++ (251 ∷ []))
    ∷ showing_block crossed_groups (fetching 65534 4) (0 ∷ 251 ∷ 252 ∷ 0 ∷ [])
    ∷ showing_block crossed_groups (reading 126) zero_block
    -- the snapshot gives the old bytes
    ∷ showing_block copied (fetching 510 4) (18 ∷ 251 ∷ 252 ∷ 101 ∷ [])
    ∷ showing_block copied (fetching_from mon 510 4) (18 ∷ 19 ∷ 100 ∷ 101 ∷ [])
    ∷ showing_block copied (reading_from mon 1) (counted 100)
    -- the regions that the blocks date from (W2); check passes
    ∷ naming copied (visiting 1) fs
    ∷ naming copied (visiting_from mon 1) mon
    ∷ only copied Check 0 0
    ∷ []

unfoldable pub span_values : List Value
span_values = fetched_values ++ end_values ++ refused_values ++ followed_values ++ failing_values ++ full_values ++ later_values

-- what a change is said to leave is not what the call leaves
abbrev pub LeftOtherwise : Change → Type 0
LeftOtherwise h = left h ≡ said h → ⊥

-- The tables tell wrong from right.
unfoldable pub WrongSpans : Type 0
WrongSpans =
    -- the blocks as they stand on the card, not in the volume; bytes of a block before the one whose entry is not in place
    Differs (showing_block turned (fetching 511 2) (19 ∷ 100 ∷ []))
    × Differs (refusing (four 2 3 1 2 9) (fetching 511 2) 10 1 (1 ∷ 8 ∷ []))
    -- 8 for 16; a sum that is cut to 64 bits
    × Differs (only kept (fetching 1536 1) 8 0)
    × Differs (only kept (fetching largest 1) 0 0)
    -- no byte, and so no check; the place of the entry that the span follows, and not check's
    × Differs (only (four 2 3 1 2 9) (SpanWrite 0 []) 0 0)
    × Differs (only (pair 3 1) (SpanWrite 0 new) 10 4)
    -- each block's need counted on the card at entry, 4 and not 3
    × Differs (only (fresh 2 2 4) (SpanWrite 511 new_two) 11 0)
    -- old bytes of a free block outside the span; a byte of the second block that is not kept
    × LeftOtherwise (change (fresh 2 2 4) (SpanWrite 511 new_two) (with_phi (descriptor 2 2 0 4 0 fs) 1 0 ++ table 2 3 ++ (replicate 511 7 ++ (251 ∷ [])) ++ (252 ∷ replicate 511 7)))
    × LeftOtherwise (change kept (SpanWrite 511 new_two) (set2 2 3 (counting 511 10 ++ (251 ∷ [])) (252 ∷ counting 510 101 ++ (0 ∷ []))))
