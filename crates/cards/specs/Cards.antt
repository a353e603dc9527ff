-- Whole cards after a write, a snap and a revert, in both layouts, block by block as 01 says; after a format and a revert on revision 1 (02, W5), and in a snap's
-- pass (02, W3); a stored number and a descriptor's block, byte by byte.
-- The bytes of the data blocks count up, so that none is like its neighbours.
use Rattle.std.specs.Prelude.{◌≡◌, List, [], ◌∷◌, ◌++◌, ℕ, zero, suc, ◌+◌, ◌-◌, ◌%◌, replicate, take}
use Rattle.blocks.specs.Bytes.{u32_at, le32}
use Rattle.blocks.specs.Descriptor.{descriptor_block, format_of}
use Rattle.blocks.specs.declared.descriptor.Descriptor.{Descriptor}
use Rattle.calls.specs.Call.{Call, Ream, Write, Snap, Revert, accepted}
use Rattle.calls.specs.Step.{Done, step, done}
use Rattle.claims.specs.Claims.{lent_at_entry}
use Rattle.claims.specs.OnePass.{during_pass}
use Rattle.claims.specs.Bench.{fs, mon, tue, lent}
use Rattle.samples.specs.Samples.{descriptor, bare, of_revision, with_phi, table}

-- A stored number has its lowest byte first.
unfoldable pub NumberBytes : Type 0
NumberBytes = (u32_at (1 ∷ 2 ∷ 3 ∷ 4 ∷ []) 0 ≡ 67305985) × (le32 67305985 ≡ 1 ∷ 2 ∷ 3 ∷ 4 ∷ [])

-- The block of a descriptor with layout 2, L 300, alpha 6, beta 7, next 8, the name fs and 9 as Phi's first entry.
unfoldable pub DescriptorBytes : Type 0
DescriptorBytes =
    with_phi (descriptor 2 300 6 7 8 fs) 9 0
    ≡ (115 ∷ 110 ∷ 97 ∷ 112 ∷ 2 ∷ 0 ∷ 0 ∷ 0 ∷ 44 ∷ 1 ∷ 0 ∷ 0 ∷ 6 ∷ 0 ∷ 0 ∷ 0 ∷ 7 ∷ 0 ∷ 0 ∷ 0 ∷ 8 ∷ 0 ∷ 0 ∷ 0 ∷ 102 ∷ 115 ∷ [])
    ++ replicate 38 0
    ++ (9 ∷ replicate 447 0)

-- n bytes that count up from v, modulo 251; a block of them
unfoldable pub counting : ℕ → ℕ → List ℕ
counting zero v = []
counting (suc n) v = v % 251 ∷ counting n (suc v)

abbrev pub counted : ℕ → List ℕ
counted v = counting 512 v

-- a table block with its first two entries, and counting bytes after them; a layout 2 descriptor's block with the same of Phi, of a revision and of revision 0
abbrev pub full_table : ℕ → ℕ → ℕ → List ℕ
full_table a b v = le32 a ++ le32 b ++ counting 504 v

abbrev pub full_phi_of : ℕ → Descriptor → ℕ → ℕ → ℕ → List ℕ
full_phi_of revision d a b v = descriptor_block d (le32 revision ++ replicate 20 0 ++ le32 a ++ le32 b ++ counting 440 v)

abbrev pub full_phi : Descriptor → ℕ → ℕ → ℕ → List ℕ
full_phi d a b v = full_phi_of 0 d a b v

-- a name of sixteen letters, each another one
abbrev pub letters16 : List ℕ
letters16 = 97 ∷ 98 ∷ 99 ∷ 100 ∷ 101 ∷ 102 ∷ 103 ∷ 104 ∷ 105 ∷ 106 ∷ 107 ∷ 108 ∷ 109 ∷ 110 ∷ 111 ∷ 112 ∷ []

-- a call that is accepted: the card before it and the card after it
pub record Change : Type 0 where
  pub before : List ℕ
  pub call : Call
  pub after : List ℕ

abbrev pub change : List ℕ → Call → List ℕ → Change
change before call after = record { before = before; call = call; after = after }

-- what is said of it, and what the call does: its answer, the memory lent to it and the card
unfoldable pub said : Change → Done
said h = done accepted (lent_at_entry h.call) h.after

unfoldable pub left : Change → Done
left h = step h.call h.before

-- Layout 1, L 130: the descriptor, two table blocks, then data.
unfoldable pub writes1 : List Change
writes1 =
    -- need 0: logical block 128 stands in block 4, which is overwritten
    change (bare (descriptor 1 130 0 5 0 fs) ++ table 0 3 ++ table 4 0 ++ counted 3 ++ counted 4 ++ lent)
    (Write 128 (counted 100))
    (bare (descriptor 1 130 0 5 0 fs) ++ table 0 3 ++ table 4 0 ++ counted 3 ++ counted 100 ++ lent)
    -- need 1, the entry nil: logical block 129 gets block 5, named second in the second table
    ∷ change (bare (descriptor 1 130 0 5 0 fs) ++ table 0 3 ++ table 4 0 ++ counted 3 ++ counted 4 ++ lent)
    (Write 129 (counted 100))
    (bare (descriptor 1 130 0 6 0 fs) ++ table 0 3 ++ table 4 5 ++ counted 3 ++ counted 4 ++ counted 100)
    -- need 1, the entry below alpha: logical block 1 leaves the snapshot's block 3 and gets block 8; the snapshot's tables stay
    ∷ change
    (bare (descriptor 1 130 0 5 5 mon) ++ table 0 3 ++ table 4 0 ++ counted 3 ++ counted 4 ++ bare (descriptor 1 130 5 8 0 fs) ++ full_table 0 3 20 ++ table 4 0 ++ lent)
    (Write 1 (counted 100))
    (bare (descriptor 1 130 0 5 5 mon) ++ table 0 3 ++ table 4 0 ++ counted 3 ++ counted 4 ++ bare (descriptor 1 130 5 9 0 fs) ++ full_table 0 8 20 ++ table 4 0 ++ counted 100)
    ∷ []

-- Layout 2, L 130: the descriptor, and table blocks and data as Phi and the tables name them.
unfoldable pub writes2 : List Change
writes2 =
    -- need 0: logical block 128 stands in block 4, which is overwritten
    change (with_phi (descriptor 2 130 0 5 0 fs) 1 3 ++ table 0 2 ++ counted 2 ++ table 4 0 ++ counted 4 ++ lent)
    (Write 128 (counted 100))
    (with_phi (descriptor 2 130 0 5 0 fs) 1 3 ++ table 0 2 ++ counted 2 ++ table 4 0 ++ counted 100 ++ lent)
    -- need 1, the entry nil: logical block 129 gets block 5, named second in the table block 3
    ∷ change (with_phi (descriptor 2 130 0 5 0 fs) 1 3 ++ table 0 2 ++ counted 2 ++ table 4 0 ++ counted 4 ++ lent)
    (Write 129 (counted 100))
    (with_phi (descriptor 2 130 0 6 0 fs) 1 3 ++ table 0 2 ++ counted 2 ++ table 4 5 ++ counted 4 ++ counted 100)
    -- need 1, the entry below alpha in a table block above it: logical block 0 leaves the snapshot's block 2 and gets block 7
    ∷ change
    (with_phi (descriptor 2 130 0 4 4 mon) 1 0 ++ table 2 3 ++ counted 2 ++ counted 3 ++ full_phi (descriptor 2 130 4 7 0 fs) 5 0 10 ++ full_table 2 6 20 ++ counted 6 ++ lent)
    (Write 0 (counted 100))
    (with_phi (descriptor 2 130 0 4 4 mon) 1 0 ++ table 2 3 ++ counted 2 ++ counted 3 ++ full_phi (descriptor 2 130 4 8 0 fs) 5 0 10 ++ full_table 7 6 20 ++ counted 6 ++ counted 100)
    -- need 2, Phi's entry nil: a table block of nil entries at beta, the data after it; the blocks taken held other bytes
    ∷ change (full_phi (descriptor 2 130 0 3 0 fs) 1 0 10 ++ table 0 2 ++ counted 2 ++ counted 50 ++ counted 60)
    (Write 129 (counted 100))
    (full_phi (descriptor 2 130 0 5 0 fs) 1 3 10 ++ table 0 2 ++ counted 2 ++ table 0 4 ++ counted 100)
    -- need 2, the table block below alpha: a copy of it at beta, the data after it; the snapshot's table block stays
    ∷ change
    (with_phi (descriptor 2 130 0 4 4 mon) 3 0 ++ counted 1 ++ counted 2 ++ full_table 1 2 20 ++ full_phi (descriptor 2 130 4 5 0 fs) 3 0 10 ++ counted 50 ++ counted 60)
    (Write 1 (counted 100))
    (with_phi (descriptor 2 130 0 4 4 mon) 3 0 ++ counted 1 ++ counted 2 ++ full_table 1 2 20 ++ full_phi (descriptor 2 130 4 7 0 fs) 5 0 10 ++ full_table 1 6 20 ++ counted 100)
    ∷ []

-- cards before a snap in layouts 1 and 2: the first snap, and a second one. Snaps follow no entry, so tables and Phi may hold any bytes here
abbrev pub first1 : List ℕ
first1 = bare (descriptor 1 130 0 5 0 fs) ++ counted 1 ++ counted 2 ++ counted 3 ++ counted 4 ++ counted 50 ++ counted 60 ++ counted 70 ++ lent

abbrev pub first2 : List ℕ
first2 = full_phi (descriptor 2 130 0 3 0 letters16) 1 0 10 ++ table 2 0 ++ counted 2 ++ counted 50 ++ lent

abbrev pub second1 : List ℕ
second1 = bare (descriptor 1 130 0 4 4 mon) ++ counted 1 ++ counted 2 ++ counted 3 ++ bare (descriptor 1 130 4 8 0 fs) ++ counted 5 ++ counted 6 ++ counted 7 ++ counted 50 ++ counted 60 ++ counted 70 ++ lent

abbrev pub second2 : List ℕ
second2 = with_phi (descriptor 2 130 0 3 3 mon) 1 0 ++ table 2 0 ++ counted 2 ++ full_phi (descriptor 2 130 3 6 0 fs) 4 0 10 ++ table 5 0 ++ counted 5 ++ counted 50

-- The copy stands at beta, the old descriptor has the name and is linked to it.
unfoldable pub snaps : List Change
snaps =
    -- layout 1: descriptor and both tables are copied to beta; the old descriptor gets the name and next = beta, the copy alpha = 5 and beta = 8
    change first1
    (Snap letters16)
    (bare (descriptor 1 130 0 5 5 letters16) ++ counted 1 ++ counted 2 ++ counted 3 ++ counted 4 ++ bare (descriptor 1 130 5 8 0 fs) ++ counted 1 ++ counted 2 ++ lent)
    -- layout 2: the descriptor is copied with its Phi, the tables are not
    ∷ change first2
    (Snap mon)
    (full_phi (descriptor 2 130 0 3 3 mon) 1 0 10 ++ table 2 0 ++ counted 2 ++ full_phi (descriptor 2 130 3 4 0 letters16) 1 0 10 ++ lent)
    -- the same of revision 1, which is copied too
    ∷ change (full_phi_of 1 (descriptor 2 130 0 3 0 letters16) 1 0 10 ++ table 2 0 ++ counted 2 ++ counted 50 ++ lent)
    (Snap mon)
    (full_phi_of 1 (descriptor 2 130 0 3 3 mon) 1 0 10 ++ table 2 0 ++ counted 2 ++ full_phi_of 1 (descriptor 2 130 3 4 0 letters16) 1 0 10 ++ lent)
    -- layout 1, a second snap: the first snapshot stays
    ∷ change
    second1
    (Snap tue)
    (bare (descriptor 1 130 0 4 4 mon) ++ counted 1 ++ counted 2 ++ counted 3 ++ bare (descriptor 1 130 4 8 8 tue) ++ counted 5 ++ counted 6 ++ counted 7 ++ bare (descriptor 1 130 8 11 0 fs) ++ counted 5 ++ counted 6 ++ lent)
    -- layout 2, a second snap: the first snapshot stays
    ∷ change second2
    (Snap tue)
    (with_phi (descriptor 2 130 0 3 3 mon) 1 0 ++ table 2 0 ++ counted 2 ++ full_phi (descriptor 2 130 3 6 6 tue) 4 0 10 ++ table 5 0 ++ counted 5 ++ full_phi (descriptor 2 130 6 7 0 fs) 4 0 10)
    ∷ []

-- A revert gives the snapshot's descriptor the active name and a nil next; every other byte stays.
unfoldable pub reverts : List Change
reverts =
    -- layout 1
    change
    (bare (descriptor 1 130 0 5 5 mon) ++ counted 1 ++ counted 2 ++ counted 3 ++ counted 4 ++ bare (descriptor 1 130 5 9 0 letters16) ++ counted 6 ++ counted 7 ++ counted 8)
    (Revert mon)
    (bare (descriptor 1 130 0 5 0 letters16) ++ counted 1 ++ counted 2 ++ counted 3 ++ counted 4 ++ bare (descriptor 1 130 5 9 0 letters16) ++ counted 6 ++ counted 7 ++ counted 8)
    -- layout 1, to the second snapshot
    ∷ change
    (bare (descriptor 1 130 0 4 4 mon) ++ counted 1 ++ counted 2 ++ counted 3 ++ bare (descriptor 1 130 4 8 8 tue) ++ counted 5 ++ counted 6 ++ counted 7 ++ bare (descriptor 1 130 8 11 0 fs) ++ counted 9 ++ counted 10 ++ lent)
    (Revert tue)
    (bare (descriptor 1 130 0 4 4 mon) ++ counted 1 ++ counted 2 ++ counted 3 ++ bare (descriptor 1 130 4 8 0 fs) ++ counted 5 ++ counted 6 ++ counted 7 ++ bare (descriptor 1 130 8 11 0 fs) ++ counted 9 ++ counted 10 ++ lent)
    -- layout 2, to the first snapshot and to the second
    ∷ change (full_phi (descriptor 2 130 0 3 3 mon) 1 0 10 ++ table 2 0 ++ counted 2 ++ full_phi (descriptor 2 130 3 5 5 tue) 1 0 20 ++ counted 4 ++ full_phi (descriptor 2 130 5 6 0 fs) 1 0 30 ++ lent)
    (Revert mon)
    (full_phi (descriptor 2 130 0 3 0 fs) 1 0 10 ++ table 2 0 ++ counted 2 ++ full_phi (descriptor 2 130 3 5 5 tue) 1 0 20 ++ counted 4 ++ full_phi (descriptor 2 130 5 6 0 fs) 1 0 30 ++ lent)
    ∷ change (full_phi (descriptor 2 130 0 3 3 mon) 1 0 10 ++ table 2 0 ++ counted 2 ++ full_phi (descriptor 2 130 3 5 5 tue) 1 0 20 ++ counted 4 ++ full_phi (descriptor 2 130 5 6 0 fs) 1 0 30 ++ lent)
    (Revert tue)
    (full_phi (descriptor 2 130 0 3 3 mon) 1 0 10 ++ table 2 0 ++ counted 2 ++ full_phi (descriptor 2 130 3 5 0 fs) 1 0 20 ++ counted 4 ++ full_phi (descriptor 2 130 5 6 0 fs) 1 0 30 ++ lent)
    ∷ []

-- bytes 0 to 19 of a descriptor's block: the mark, layout, L, whose two lower bytes are given, alpha and beta
abbrev pub first_twenty : ℕ → ℕ → ℕ → ℕ → ℕ → List ℕ
first_twenty layout low high alpha beta = 115 ∷ 110 ∷ 97 ∷ 112 ∷ layout ∷ 0 ∷ 0 ∷ 0 ∷ low ∷ high ∷ 0 ∷ 0 ∷ alpha ∷ 0 ∷ 0 ∷ 0 ∷ beta ∷ 0 ∷ 0 ∷ 0 ∷ []

-- A format stores the revision in bytes 40 to 43, lowest byte first: layout 2, L 300, of revision 1 and of revision 0; layout 1, L 1, of revision 1.
unfoldable pub reams : List Change
reams =
    change (counted 5 ++ counted 6)
    (Ream (format_of 2 300 1 fs))
    (first_twenty 2 44 1 0 1 ++ replicate 4 0 ++ (102 ∷ 115 ∷ []) ++ replicate 14 0 ++ (1 ∷ replicate 471 0) ++ counted 6)
    ∷ change (counted 5 ++ counted 6)
    (Ream (format_of 2 300 0 fs))
    (first_twenty 2 44 1 0 1 ++ replicate 4 0 ++ (102 ∷ 115 ∷ []) ++ replicate 486 0 ++ counted 6)
    ∷ change (counted 5 ++ counted 6 ++ counted 7)
    (Ream (format_of 1 1 1 fs))
    (first_twenty 1 1 0 0 2 ++ replicate 4 0 ++ (102 ∷ 115 ∷ []) ++ replicate 14 0 ++ (1 ∷ replicate 471 0) ++ replicate 512 0 ++ counted 7)
    ∷ []

-- cards of revision 1 before a revert in layouts 1 and 2, with two snapshots
abbrev pub visited1 : List ℕ
visited1 = of_revision 1 (descriptor 1 130 0 4 4 mon) ++ counted 1 ++ counted 2 ++ counted 3 ++ of_revision 1 (descriptor 1 130 4 8 8 tue) ++ counted 5 ++ counted 6 ++ counted 7 ++ of_revision 1 (descriptor 1 130 8 12 0 fs) ++ counted 9 ++ counted 10 ++ lent

abbrev pub visited2 : List ℕ
visited2 = full_phi_of 1 (descriptor 2 130 0 3 3 mon) 1 0 10 ++ table 2 0 ++ counted 2 ++ full_phi_of 1 (descriptor 2 130 3 5 5 tue) 1 0 20 ++ counted 4 ++ full_phi_of 1 (descriptor 2 130 5 7 0 fs) 1 0 30 ++ lent

-- A revert on revision 1 leaves the snapshot's descriptor as it is; at its beta stands a copy of it, in layout 1 with its tables, under the active name, with alpha,
-- beta and a nil next of its own. The blocks after these stay.
unfoldable pub reverts1 : List Change
reverts1 =
    -- layout 1: the active descriptor stands at the snapshot's beta
    change
    (of_revision 1 (descriptor 1 130 0 5 5 mon) ++ counted 1 ++ counted 2 ++ counted 3 ++ counted 4 ++ of_revision 1 (descriptor 1 130 5 9 0 letters16) ++ counted 6 ++ counted 7 ++ counted 8)
    (Revert mon)
    (of_revision 1 (descriptor 1 130 0 5 5 mon) ++ counted 1 ++ counted 2 ++ counted 3 ++ counted 4 ++ of_revision 1 (descriptor 1 130 5 8 0 letters16) ++ counted 1 ++ counted 2 ++ counted 8)
    -- layout 1, to the first snapshot of two, and to the second
    ∷ change visited1
    (Revert mon)
    (of_revision 1 (descriptor 1 130 0 4 4 mon) ++ counted 1 ++ counted 2 ++ counted 3 ++ of_revision 1 (descriptor 1 130 4 7 0 fs) ++ counted 1 ++ counted 2 ++ counted 7 ++ of_revision 1 (descriptor 1 130 8 12 0 fs) ++ counted 9 ++ counted 10 ++ lent)
    ∷ change visited1
    (Revert tue)
    (of_revision 1 (descriptor 1 130 0 4 4 mon) ++ counted 1 ++ counted 2 ++ counted 3 ++ of_revision 1 (descriptor 1 130 4 8 8 tue) ++ counted 5 ++ counted 6 ++ counted 7 ++ of_revision 1 (descriptor 1 130 8 11 0 fs) ++ counted 5 ++ counted 6 ++ lent)
    -- layout 2, to the first snapshot and to the second: Phi is the snapshot's
    ∷ change visited2
    (Revert mon)
    (full_phi_of 1 (descriptor 2 130 0 3 3 mon) 1 0 10 ++ table 2 0 ++ counted 2 ++ full_phi_of 1 (descriptor 2 130 3 4 0 fs) 1 0 10 ++ counted 4 ++ full_phi_of 1 (descriptor 2 130 5 7 0 fs) 1 0 30 ++ lent)
    ∷ change visited2
    (Revert tue)
    (full_phi_of 1 (descriptor 2 130 0 3 3 mon) 1 0 10 ++ table 2 0 ++ counted 2 ++ full_phi_of 1 (descriptor 2 130 3 5 5 tue) 1 0 20 ++ counted 4 ++ full_phi_of 1 (descriptor 2 130 5 6 0 fs) 1 0 20 ++ lent)
    ∷ []

-- a snap's pass that is stopped: the card at the snap's entry, how many bytes are stored, and the card then
pub record Stop : Type 0 where
  pub entry : List ℕ
  pub count : ℕ
  pub card : List ℕ

-- the free block that becomes the new descriptor's is counted 50 at entry: its first k bytes replaced
abbrev pub begun : ℕ → List ℕ → List ℕ
begun k bytes = bytes ++ counting (512 - k) (50 + k)

-- what the pass leaves of these cards after k bytes; in layout 1 the two table blocks are copied before
abbrev pub stop1 : ℕ → List ℕ → Stop
stop1 k bytes =
    record {
      entry = first1;
      count = k;
      card = bare (descriptor 1 130 0 5 0 fs) ++ counted 1 ++ counted 2 ++ counted 3 ++ counted 4 ++ begun k bytes ++ counted 1 ++ counted 2 ++ lent;
    }

abbrev pub stop2 : ℕ → List ℕ → Stop
stop2 k bytes =
    record {
      entry = first2;
      count = k;
      card = full_phi (descriptor 2 130 0 3 0 letters16) 1 0 10 ++ table 2 0 ++ counted 2 ++ begun k bytes ++ lent;
    }

-- the same of a second snap, and of a card of two blocks
abbrev pub later1 : ℕ → List ℕ → Stop
later1 k bytes =
    record {
      entry = second1;
      count = k;
      card = bare (descriptor 1 130 0 4 4 mon) ++ counted 1 ++ counted 2 ++ counted 3 ++ bare (descriptor 1 130 4 8 0 fs) ++ counted 5 ++ counted 6 ++ counted 7 ++ begun k bytes ++ counted 5 ++ counted 6 ++ lent;
    }

abbrev pub later2 : ℕ → List ℕ → Stop
later2 k bytes =
    record {
      entry = second2;
      count = k;
      card = with_phi (descriptor 2 130 0 3 3 mon) 1 0 ++ table 2 0 ++ counted 2 ++ full_phi (descriptor 2 130 3 6 0 fs) 4 0 10 ++ table 5 0 ++ counted 5 ++ begun k bytes;
    }

abbrev pub small : ℕ → List ℕ → Stop
small k bytes = record { entry = bare (descriptor 2 300 0 1 0 fs) ++ counted 50; count = k; card = bare (descriptor 2 300 0 1 0 fs) ++ begun k bytes }

-- The pass stores the bytes of the new descriptor's block rising, each in its last form; the old descriptor keeps its bytes.
unfoldable pub stops : List Stop
stops =
    -- layout 2: no byte; one; alpha and beta, which are the new region's at once; all of the name but its last byte; the name whole; one of the 24 bytes before
    -- Phi; all but the last byte; the whole block
    stop2 0 []
    ∷ stop2 1 (115 ∷ [])
    ∷ stop2 20 (first_twenty 2 130 0 3 4)
    ∷ stop2 39 (first_twenty 2 130 0 3 4 ++ replicate 4 0 ++ take 15 letters16)
    ∷ stop2 40 (first_twenty 2 130 0 3 4 ++ replicate 4 0 ++ letters16)
    ∷ stop2 41 (first_twenty 2 130 0 3 4 ++ replicate 4 0 ++ letters16 ++ (0 ∷ []))
    ∷ stop2 511 (first_twenty 2 130 0 3 4 ++ replicate 4 0 ++ letters16 ++ replicate 24 0 ++ le32 1 ++ le32 0 ++ counting 439 10)
    ∷ stop2 512 (full_phi (descriptor 2 130 3 4 0 letters16) 1 0 10)
    -- layout 1: the table blocks stand before the first byte
    ∷ stop1 0 []
    ∷ stop1 20 (first_twenty 1 130 0 5 8)
    ∷ stop1 300 (first_twenty 1 130 0 5 8 ++ replicate 4 0 ++ (102 ∷ 115 ∷ []) ++ replicate 274 0)
    ∷ stop1 512 (bare (descriptor 1 130 5 8 0 fs))
    -- the active region is not the first; L is 300
    ∷ later1 20 (first_twenty 1 130 0 8 11)
    ∷ later2 20 (first_twenty 2 130 0 6 7)
    ∷ small 20 (first_twenty 2 44 1 1 2)
    ∷ []

unfoldable pub during : Stop → List ℕ
during s = during_pass s.entry s.count

unfoldable pub stopped : Stop → List ℕ
stopped s = s.card

-- revision 1: the region of the snapshot mon, one block, then the active one, two blocks
abbrev taken : List ℕ
taken = of_revision 1 (descriptor 2 1 0 1 1 mon) ++ of_revision 1 (descriptor 2 1 1 3 0 fs) ++ counted 2

-- The tables tell wrong from right: a call that is refused, and a card with one wrong byte, are not what is left; nor are, after 20 bytes of the pass, the old
-- block's alpha and beta; nor, after a format of revision 1, revision 0, and after a revert on revision 1, the old beta.
unfoldable pub WrongCards : Type 0
WrongCards =
    (left (change (bare (descriptor 2 1 0 2 0 fs) ++ counted 1) (Snap mon) (bare (descriptor 2 1 0 2 0 fs) ++ counted 1))
    ≡ said (change (bare (descriptor 2 1 0 2 0 fs) ++ counted 1) (Snap mon) (bare (descriptor 2 1 0 2 0 fs) ++ counted 1)) → ⊥)
    × (left (change (bare (descriptor 2 1 0 1 0 fs) ++ counted 1) (Snap mon) (bare (descriptor 2 1 0 1 1 mon) ++ bare (descriptor 2 1 1 3 0 fs)))
    ≡ said (change (bare (descriptor 2 1 0 1 0 fs) ++ counted 1) (Snap mon) (bare (descriptor 2 1 0 1 1 mon) ++ bare (descriptor 2 1 1 3 0 fs))) → ⊥)
    × (during (stop2 20 (first_twenty 2 130 0 0 3)) ≡ stopped (stop2 20 (first_twenty 2 130 0 0 3)) → ⊥)
    × (left (change (counted 0 ++ counted 1) (Ream (format_of 2 1 1 fs)) (bare (descriptor 2 1 0 1 0 fs) ++ counted 1))
    ≡ said (change (counted 0 ++ counted 1) (Ream (format_of 2 1 1 fs)) (bare (descriptor 2 1 0 1 0 fs) ++ counted 1)) → ⊥)
    × (left (change taken (Revert mon) taken) ≡ said (change taken (Revert mon) taken) → ⊥)
