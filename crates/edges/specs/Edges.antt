-- Values at the edges of 01's rules, and of 02's for the revision (W5), besides 01's bench values: areas, names and cards on which one number is off by one or one byte is set, what a refused
-- read leaves in the caller's block, room, and which refusal comes first. The cards are written out block by block; those after a revert are computed.
use Rattle.std.specs.Prelude.{Bool, ◌≡◌, List, [], ◌∷◌, ◌++◌, ℕ, zero, suc, ◌*◌, length, replicate, set}
use Rattle.blocks.specs.Pick.{pick}
use Rattle.blocks.specs.Bytes.{zero_block}
use Rattle.blocks.specs.Name.{name_byte, is_name, no_name}
use Rattle.blocks.specs.Descriptor.{as_format, format_of}
use Rattle.calls.specs.Call.{Active, Snapshot, Call, Ream, Read, Write, Snap, Revert, Listing, Check, answer}
use Rattle.calls.specs.Meaning.{answer_of}
use Rattle.calls.specs.Step.{step}
use Rattle.claims.specs.Bench.{Value, Differs, area, ones, fs, mon, tue, lent, blank}
use Rattle.samples.specs.Samples.{descriptor, bare, with_tail_byte, table, literal, snap_text, one_byte, long, wed, revised, pair_of, pair_of1, visits, visits1, one_block, first, one, two, two_names, second1, second2, apart1, apart2, later, tabled, three, four, empty, three_snapshots, reading, reading_from, only, showing_beta, showing_block, refusing}

unfoldable pub area_edges : List Value
area_edges =
    -- one block, with each call but a read, which stands below
    only one_block (Ream (as_format 2 1 fs)) 1 0
    ∷ only one_block (Write 0 ones) 1 0
    ∷ only one_block (Snap mon) 1 0
    ∷ only one_block (Revert mon) 1 0
    ∷ only one_block (Listing (blank ∷ [])) 1 0
    ∷ only one_block Check 1 0
    -- no byte; one byte less than two blocks; two blocks and one byte; two blocks and a half
    ∷ only [] (Listing []) 1 0
    ∷ only (replicate 1023 0) (Listing []) 1 0
    ∷ only (one 2 0 ++ (0 ∷ [])) (Listing (blank ∷ [])) 1 0
    ∷ only (one 2 0 ++ replicate 256 0) (Listing (blank ∷ [])) 1 0
    -- a caller's block of 513 bytes for a read; of 511 and of 513 for a write
    ∷ only (one 2 0) (Read Active no_name 0 (replicate 513 9)) 9 0
    ∷ only (four 1 4 1 2 0) (Write 0 (replicate 511 1)) 9 0
    ∷ only (four 1 4 1 2 0) (Write 0 (replicate 513 1)) 9 0
    ∷ []

unfoldable pub refused_edges : List Value
refused_edges =
    -- a refused read leaves the caller's block as it was: 8, 6, 1, 4, 7, 10, and 9 with 511 bytes
    refusing (one 2 0) (reading 1) 8 0 lent
    ∷ refusing (area 2) (reading 0) 6 0 lent
    ∷ refusing one_block (reading 0) 1 0 lent
    ∷ refusing (one 2 0) (reading_from no_name 0) 4 0 lent
    ∷ refusing (one 2 0) (reading_from mon 0) 7 0 lent
    ∷ refusing (four 1 3 1 3 0) (reading 0) 10 1 lent
    ∷ refusing (one 2 0) (Read Active no_name 0 (replicate 511 9)) 9 0 (replicate 511 9)
    ∷ []

unfoldable pub name_edges : List Value
name_edges =
    -- a byte just outside `-`, `.`, `0-9`, `a-z`
    only (one 1 0) (Snap (one_byte 44)) 4 0
    ∷ only (one 1 0) (Snap (one_byte 47)) 4 0
    ∷ only (one 1 0) (Snap (one_byte 58)) 4 0
    ∷ only (one 1 0) (Snap (one_byte 96)) 4 0
    ∷ only (one 1 0) (Snap (one_byte 123)) 4 0
    -- a first or last byte of these
    ∷ showing_beta (one 1 0) (Snap (one_byte 45)) 2
    ∷ showing_beta (one 1 0) (Snap (one_byte 46)) 2
    ∷ showing_beta (one 1 0) (Snap (one_byte 48)) 2
    ∷ showing_beta (one 1 0) (Snap (one_byte 57)) 2
    ∷ showing_beta (one 1 0) (Snap (one_byte 97)) 2
    ∷ showing_beta (one 1 0) (Snap (one_byte 122)) 2
    -- no byte before the zeros; a byte after a zero byte, right after it, further on and at the end
    ∷ only (one 1 0) (Snap no_name) 4 0
    ∷ only (one 1 0) (Snap (97 ∷ 0 ∷ 97 ∷ replicate 13 0)) 4 0
    ∷ only (one 1 0) (Snap (set (one_byte 97) 7 97)) 4 0
    ∷ only (one 1 0) (Snap (set (one_byte 97) 15 97)) 4 0
    -- another byte after a letter, and after fifteen
    ∷ only (one 1 0) (Snap (97 ∷ 47 ∷ replicate 14 0)) 4 0
    ∷ only (one 1 0) (Snap (set (replicate 16 97) 15 47)) 4 0
    -- sixteen letters; fifteen and seventeen bytes
    ∷ showing_beta (one 1 0) (Snap (replicate 16 97)) 2
    ∷ only (one 1 0) (Snap (replicate 15 97)) 4 0
    ∷ only (one 1 0) (Snap (replicate 17 97)) 4 0
    -- names that differ in their last byte alone are two names; that do not differ, one
    ∷ only (two_names (long 98) (long 99)) (Listing []) 14 0
    ∷ only (two_names (long 98) (long 98)) (Listing []) 6 1
    ∷ showing_beta (bare (descriptor 2 1 0 1 0 (long 98)) ++ zero_block) (Snap (long 99)) 2
    ∷ only (two_names (long 98) (long 99)) (Revert (long 99)) 7 0
    ∷ showing_beta (two_names (long 98) (long 99)) (Revert (long 98)) 1
    ∷ only (two_names (long 98) (long 99)) (reading_from (long 99) 0) 7 0
    ∷ []

unfoldable pub form_edges : List Value
form_edges =
    -- L 300, lowest byte first; Phi's entry and a table's entry byte by byte; beta and next, with a second descriptor
    showing_block (literal snap_text 2 0 0 ++ zero_block) (reading 299) zero_block
    ∷ only (literal snap_text 2 0 0 ++ zero_block) (reading 300) 8 0
    ∷ showing_block (literal snap_text 3 0 1 ++ (2 ∷ replicate 511 0) ++ ones) (reading 0) ones
    ∷ only (literal snap_text 1 1 0 ++ bare (descriptor 2 300 1 2 0 mon)) (Listing (blank ∷ [])) 14 0
    -- a wrong byte in the mark
    ∷ only (literal (114 ∷ 110 ∷ 97 ∷ 112 ∷ []) 2 0 0 ++ zero_block) (Listing []) 6 0
    ∷ only (literal (115 ∷ 111 ∷ 97 ∷ 112 ∷ []) 2 0 0 ++ zero_block) (Listing []) 6 0
    ∷ only (literal (115 ∷ 110 ∷ 96 ∷ 112 ∷ []) 2 0 0 ++ zero_block) (Listing []) 6 0
    ∷ only (literal (115 ∷ 110 ∷ 97 ∷ 113 ∷ []) 2 0 0 ++ zero_block) (Listing []) 6 0
    -- layouts 1 and 2; layouts 0 and 3
    ∷ only (first 1 1 fs) (Listing []) 14 0
    ∷ only (first 2 1 fs) (Listing []) 14 0
    ∷ only (first 0 1 fs) (Listing []) 6 0
    ∷ only (first 3 1 fs) (Listing []) 6 0
    -- L 0, 14,336 and 14,337
    ∷ only (first 2 0 fs) (Listing []) 6 0
    ∷ only (first 2 14336 fs) (Listing []) 14 0
    ∷ only (first 2 14337 fs) (Listing []) 6 0
    -- in layout 1, with a beta that is in order: L 0, 14,336 and 14,337
    ∷ only (tabled 0 2) (Listing []) 6 0
    ∷ only (tabled 14336 113) (Listing []) 14 0
    ∷ only (tabled 14337 114) (Listing []) 6 0
    -- no name; a name with another byte; in layout 2, in layout 1
    ∷ only (first 2 1 no_name) (Listing []) 6 0
    ∷ only (first 2 1 (one_byte 47)) (Listing []) 6 0
    ∷ only (first 1 1 no_name) (Listing []) 6 0
    ∷ only (first 1 1 (one_byte 47)) (Listing []) 6 0
    -- byte 44, 50 or 63 is set
    ∷ only (with_tail_byte 4 (descriptor 2 1 0 2 0 fs) ++ zero_block) (Listing []) 6 0
    ∷ only (with_tail_byte 10 (descriptor 2 1 0 2 0 fs) ++ zero_block) (Listing []) 6 0
    ∷ only (with_tail_byte 23 (descriptor 2 1 0 2 0 fs) ++ zero_block) (Listing []) 6 0
    -- byte 64 or 511 is set, in layout 2; byte 64, 240 or 511 in layout 1
    ∷ only (with_tail_byte 24 (descriptor 2 1 0 2 0 fs) ++ zero_block) (Listing []) 14 0
    ∷ only (with_tail_byte 471 (descriptor 2 1 0 2 0 fs) ++ zero_block) (Listing []) 14 0
    ∷ only (with_tail_byte 24 (descriptor 1 1 0 2 0 fs) ++ zero_block) (Listing []) 6 0
    ∷ only (with_tail_byte 200 (descriptor 1 1 0 2 0 fs) ++ zero_block) (Listing []) 6 0
    ∷ only (with_tail_byte 471 (descriptor 1 1 0 2 0 fs) ++ zero_block) (Listing []) 6 0
    -- in the second descriptor: byte 40, 44, 63 or 64 in layout 2; byte 40, 64 or 511 in layout 1; no name
    ∷ only (second2 0) (Listing []) 6 1
    ∷ only (second2 4) (Listing []) 6 1
    ∷ only (second2 23) (Listing []) 6 1
    ∷ only (second2 24) (Listing []) 14 0
    ∷ only (second1 0) (Listing []) 6 2
    ∷ only (second1 24) (Listing []) 6 2
    ∷ only (second1 471) (Listing []) 6 2
    ∷ only (two 2 1 1 3 no_name) (Listing []) 6 1
    ∷ []

unfoldable pub chain_edges : List Value
chain_edges =
    -- beta = N with a nil next; next = beta, but beta is N; next is not beta
    showing_beta (one 2 0) (Listing (blank ∷ [])) 2
    ∷ only (one 2 2) (Listing []) 6 0
    ∷ only (one 2 1) (Listing []) 6 0
    -- next = beta leads to a block of zeros
    ∷ only (one 1 1) (Listing []) 6 1
    -- next leads to a descriptor: it is beta, it is below beta; it is beta, it is above beta
    ∷ only (apart1 1 1) (Listing (blank ∷ [])) 14 0
    ∷ only (apart1 2 1) (Listing []) 6 0
    ∷ only (apart2 2 2) (Listing (blank ∷ [])) 14 0
    ∷ only (apart2 1 2) (Listing []) 6 0
    -- beta above N; beta = alpha + c, and below it
    ∷ only (one 3 0) (Listing []) 6 0
    ∷ showing_beta (one 1 0) (Listing (blank ∷ [])) 1
    ∷ only (one 0 0) (Listing []) 6 0
    -- the same in layout 1 with beta 2: c is 2, and 3
    ∷ only (first 1 128 fs) (Listing []) 14 0
    ∷ only (first 1 129 fs) (Listing []) 6 0
    -- the second descriptor has another alpha, layout, L, and the name of the first
    ∷ only (two 2 1 0 3 fs) (Listing []) 6 1
    ∷ only (two 2 1 2 3 fs) (Listing []) 6 1
    ∷ only (two 2 1 4294967295 3 fs) (Listing []) 6 1
    ∷ only (two 1 1 1 3 fs) (Listing []) 6 1
    ∷ only (two 2 2 1 3 fs) (Listing []) 6 1
    ∷ only (two 2 1 1 3 mon) (Listing []) 6 1
    -- its beta above N; its beta = alpha + c, and below it
    ∷ only (two 2 1 1 4 fs) (Listing []) 6 1
    ∷ showing_beta (two 2 1 1 2 fs) (Listing (blank ∷ blank ∷ [])) 2
    ∷ only (two 2 1 1 1 fs) (Listing []) 6 1
    -- its next is beta, block 2 and block 3; above beta, below it; beta = N
    ∷ only (later 2 2) (Listing (blank ∷ blank ∷ [])) 14 0
    ∷ only (later 3 3) (Listing (blank ∷ blank ∷ [])) 14 0
    ∷ only (later 2 3) (Listing []) 6 1
    ∷ only (later 3 2) (Listing []) 6 1
    ∷ only (later 4 4) (Listing []) 6 1
    -- the third descriptor has a name of its own, that of the first, that of the second
    ∷ only (three fs) (Listing (blank ∷ blank ∷ [])) 14 0
    ∷ only (three mon) (Listing []) 6 2
    ∷ only (three tue) (Listing []) 6 2
    -- the names in use, of the first, the second and the active one; a snapshot is any but the last
    ∷ only (three fs) (Snap mon) 12 0
    ∷ only (three fs) (Snap tue) 12 0
    ∷ only (three fs) (Snap fs) 12 0
    ∷ only (three fs) (Snap wed) 11 0
    ∷ showing_beta (three fs) (Revert mon) 1
    ∷ showing_beta (three fs) (Revert tue) 2
    ∷ only (three fs) (Revert fs) 7 0
    ∷ []

unfoldable pub room_edges : List Value
room_edges =
    -- a ream of layout 0, with c = N, and with c = N + 1
    only (area 2) (Ream (as_format 0 1 fs)) 2 0
    ∷ showing_beta (area 2) (Ream (as_format 1 128 fs)) 2
    ∷ only (area 2) (Ream (as_format 1 129 fs)) 5 0
    -- need 0 at beta = N
    ∷ showing_beta (four 1 4 1 2 0) (Write 0 ones) 4
    -- need 1 at beta = N - 1 and at N
    ∷ showing_beta (four 2 3 1 2 0) (Write 1 ones) 4
    ∷ only (four 2 4 1 2 0) (Write 1 ones) 11 0
    -- need 2 at beta = N - 2 and at N - 1
    ∷ showing_beta (four 2 2 0 0 0) (Write 0 ones) 4
    ∷ only (four 2 3 0 0 0) (Write 0 ones) 11 0
    -- a snap of c = 1 at beta = N - 1 and at N
    ∷ showing_beta (four 2 3 0 0 0) (Snap mon) 4
    ∷ only (four 2 4 0 0 0) (Snap mon) 11 0
    -- layout 1: need 1 at beta = N - 1 and at N, a snap of c = 2 at beta = N - 2 and at N - 1
    ∷ showing_beta (empty 3) (Write 0 ones) 4
    ∷ only (empty 4) (Write 0 ones) 11 0
    ∷ showing_beta (empty 2) (Snap mon) 4
    ∷ only (empty 3) (Snap mon) 11 0
    ∷ []

unfoldable pub order_edges : List Value
order_edges =
    -- 1 before all; 2 before 3, 3 before 4 and 5, 4 before 5
    only (replicate 1025 0) (Ream (as_format 9 0 [])) 1 0
    ∷ only (area 2) (Ream (as_format 3 0 no_name)) 2 0
    ∷ only (area 2) (Ream (as_format 2 0 no_name)) 3 0
    ∷ only (area 2) (Ream (as_format 1 14337 no_name)) 3 0
    ∷ only (area 2) (Ream (as_format 2 1 no_name)) 4 0
    ∷ only (area 2) (Ream (as_format 1 129 no_name)) 4 0
    -- 4 before 9, 9 before 6
    ∷ only (area 2) (Read Snapshot no_name 9 []) 4 0
    ∷ only (area 2) (Read Snapshot mon 9 []) 9 0
    ∷ only (area 2) (Write 9 []) 9 0
    -- 4 before 6
    ∷ only (area 2) (Snap no_name) 4 0
    ∷ only (area 2) (Revert no_name) 4 0
    -- 6 before 7, 8, 10, 12 and 14
    ∷ only (area 2) (Read Snapshot mon 9 lent) 6 0
    ∷ only (area 2) (Write 9 ones) 6 0
    ∷ only (area 2) (Revert mon) 6 0
    ∷ only (one 2 1) (Snap fs) 6 0
    ∷ only (area 2) (Listing []) 6 0
    ∷ only (with_tail_byte 4 (descriptor 1 1 0 2 0 fs) ++ table 9 0) Check 6 0
    -- 7 before 8, and the active name is no snapshot's
    ∷ only (four 1 3 1 2 0) (Read Snapshot fs 9 lent) 7 0
    ∷ only (four 1 3 1 2 0) (reading 1) 8 0
    -- far above L
    ∷ only (four 1 3 1 2 0) (reading 14336) 8 0
    ∷ only (four 1 3 1 2 0) (reading 4294967295) 8 0
    ∷ only (four 1 3 1 2 0) (Write 14336 ones) 8 0
    ∷ only (four 1 3 1 2 0) (Write 4294967295 ones) 8 0
    -- 9 before 8; 8 before 11
    ∷ only (four 2 4 1 2 4) (Write 2 []) 9 0
    ∷ only (four 2 4 1 2 4) (Write 2 ones) 8 0
    -- 8 before 10, of a table's entry and of Phi's
    ∷ only (four 1 3 1 2 9) (reading 1) 8 0
    ∷ only (four 1 3 9 0 0) (reading 1) 8 0
    ∷ only (four 1 3 1 2 9) (Write 1 ones) 8 0
    ∷ only (four 1 3 9 0 0) (Write 1 ones) 8 0
    -- on a full card with a table block below alpha: 11 where the entries are in place, 10 where the table's or Phi's is not
    ∷ only (three_snapshots 3 4) (Write 0 ones) 11 0
    ∷ only (three_snapshots 3 1) (Write 0 ones) 10 3
    ∷ only (three_snapshots 1 0) (Write 0 ones) 10 5
    -- 12 before 11
    ∷ only (four 2 4 0 0 0) (Snap fs) 12 0
    ∷ []

-- the card after a revert that is accepted
abbrev pub back : List ℕ → List ℕ → List ℕ
back card name = (step (Revert name) card).card

-- The revision, as 02 says (W5).
unfoldable pub revision_edges : List Value
revision_edges =
    -- given to a ream: 1; 2, 256 and 2^32 - 1
    showing_beta (area 2) (Ream (format_of 2 1 1 fs)) 1
    ∷ only (area 2) (Ream (format_of 2 1 2 fs)) 17 0
    ∷ only (area 2) (Ream (format_of 2 1 256 fs)) 17 0
    ∷ only (area 2) (Ream (format_of 2 1 4294967295 fs)) 17 0
    -- 1, 2 and 3 before 17, 17 before 4 and 5
    ∷ only (replicate 1025 0) (Ream (format_of 9 0 2 [])) 1 0
    ∷ only (area 2) (Ream (format_of 3 0 2 no_name)) 2 0
    ∷ only (area 2) (Ream (format_of 2 0 2 no_name)) 3 0
    ∷ only (area 2) (Ream (format_of 1 129 2 no_name)) 17 0
    ∷ only (area 2) (Ream (format_of 2 1 3 no_name)) 17 0
    ∷ only (area 2) (Ream (format_of 1 129 2 fs)) 17 0
    ∷ only (area 2) (Ream (format_of 1 129 1 no_name)) 4 0
    ∷ only (area 2) (Ream (format_of 1 129 1 fs)) 5 0
    -- stored in block 0: 1; 2, 256, 65,536 and 2^32 - 1
    ∷ only (revised 1) (Listing []) 14 0
    ∷ only (revised 2) (Listing []) 6 0
    ∷ only (revised 256) (Listing []) 6 0
    ∷ only (revised 65536) (Listing []) 6 0
    ∷ only (revised 4294967295) (Listing []) 6 0
    -- in the second descriptor: block 0's, or another; in both one that is no revision
    ∷ only (pair_of 1 1) (Listing []) 14 0
    ∷ only (pair_of 0 1) (Listing []) 6 1
    ∷ only (pair_of 1 0) (Listing []) 6 1
    ∷ only (pair_of 0 2) (Listing []) 6 1
    ∷ only (pair_of 1 257) (Listing []) 6 1
    ∷ only (pair_of 1 4294967295) (Listing []) 6 1
    ∷ only (pair_of 2 2) (Listing []) 6 0
    ∷ only (pair_of1 1 1) (Listing []) 14 0
    ∷ only (pair_of1 0 1) (Listing []) 6 2
    ∷ only (pair_of1 1 0) (Listing []) 6 2
    ∷ only (pair_of1 0 256) (Listing []) 6 2
    ∷ only (pair_of1 2 2) (Listing []) 6 0
    -- beta = N, and the active descriptor stands at the visit's beta: no room for a snap, and a revert needs none; on revision 0 it gives blocks back
    ∷ only (pair_of 1 1) (Snap tue) 11 0
    ∷ showing_beta (pair_of 1 1) (Revert mon) 2
    ∷ showing_beta (pair_of 0 0) (Revert mon) 1
    ∷ only (pair_of1 1 1) (Snap tue) 11 0
    ∷ showing_beta (pair_of1 1 1) (Revert mon) 4
    ∷ showing_beta (pair_of1 0 0) (Revert mon) 2
    -- the visit is still there, under its name: to be read, to be rolled back to again, and not to be snapped anew; on revision 0 it is not
    ∷ showing_block (back (pair_of 1 1) mon) (reading_from mon 0) zero_block
    ∷ showing_beta (back (pair_of 1 1) mon) (Revert mon) 2
    ∷ only (back (pair_of 1 1) mon) (Snap mon) 12 0
    ∷ only (back (pair_of 0 0) mon) (reading_from mon 0) 7 0
    ∷ only (back (pair_of 0 0) mon) (Revert mon) 7 0
    ∷ showing_beta (back (pair_of 0 0) mon) (Snap mon) 2
    -- the first of three visits, and to it again: those after it are gone; to the second, and to the first after it
    ∷ showing_beta (visits 1) (Revert mon) 2
    ∷ showing_beta (back (visits 1) mon) (Revert mon) 2
    ∷ only (back (visits 1) mon) (Revert tue) 7 0
    ∷ only (back (visits 1) mon) (Listing (blank ∷ [])) 14 0
    ∷ showing_beta (back (visits 1) mon) (Listing (blank ∷ blank ∷ [])) 2
    ∷ showing_beta (visits 1) (Revert tue) 3
    ∷ showing_beta (back (visits 1) tue) (Revert mon) 2
    ∷ only (back (visits 1) tue) (Revert wed) 7 0
    ∷ showing_beta (visits1 1) (Revert mon) 4
    ∷ showing_beta (back (visits1 1) mon) (Revert mon) 4
    ∷ only (back (visits1 1) mon) (Revert tue) 7 0
    -- the ladder of a revert is the same: 4, 6 and 7
    ∷ only (visits 1) (Revert no_name) 4 0
    ∷ only (pair_of 1 0) (Revert mon) 6 1
    ∷ only (visits 1) (Revert fs) 7 0
    ∷ []

unfoldable pub edges : List Value
edges =
    area_edges
    ++ refused_edges
    ++ name_edges
    ++ form_edges
    ++ chain_edges
    ++ room_edges
    ++ order_edges
    ++ revision_edges

-- the numbers below n that a test allows, rising
unfoldable pub allowed : (ℕ → Bool) → ℕ → List ℕ
allowed test zero = []
allowed test (suc n) = allowed test n ++ pick (test n) (n ∷ []) []

-- `-`, `.`, `0-9`, `a-z`
abbrev pub allowed_bytes : List ℕ
allowed_bytes =
    45 ∷ 46
    ∷ 48 ∷ 49 ∷ 50 ∷ 51 ∷ 52 ∷ 53 ∷ 54 ∷ 55 ∷ 56 ∷ 57
    ∷ 97 ∷ 98 ∷ 99 ∷ 100 ∷ 101 ∷ 102 ∷ 103 ∷ 104 ∷ 105 ∷ 106 ∷ 107 ∷ 108 ∷ 109
    ∷ 110 ∷ 111 ∷ 112 ∷ 113 ∷ 114 ∷ 115 ∷ 116 ∷ 117 ∷ 118 ∷ 119 ∷ 120 ∷ 121 ∷ 122
    ∷ []

-- of all bytes, a name may have these and no others, and of one byte alone the same are names
unfoldable pub NameBytes : Type 0
NameBytes = (allowed name_byte 256 ≡ allowed_bytes) × (allowed (λ (b : ℕ). is_name (one_byte b)) 256 ≡ allowed_bytes)

-- N 65,536 and 65,537, whatever the area holds: the first goes on to the next refusal of a ream, the second is refused with each call
unfoldable pub SizeEdges : Type 0
SizeEdges =
    (c : List ℕ)
    → (length c ≡ 512 * 65536 → (volume : ℕ) (name : List ℕ) → answer_of (Ream (as_format 3 volume name)) c ≡ answer 2 0)
    × (length c ≡ 512 * 65537 → (k : Call) → answer_of k c ≡ answer 1 0)

-- The table tells wrong from right, in each of the ways that its rows are written: a wrong number, place, beta, block read and block left.
unfoldable pub WrongEdges : Type 0
WrongEdges =
    Differs (only (one 2 0) (Listing []) 6 0)
    × Differs (only (two 2 1 1 4 fs) (Listing []) 6 0)
    × Differs (showing_beta (one 1 0) (Snap mon) 1)
    × Differs (showing_block (one 2 0) (reading 0) (set zero_block 511 1))
    × Differs (refusing (one 2 0) (reading 1) 8 0 zero_block)
    × Differs (only (pair_of 0 1) (Listing []) 6 0)
    × Differs (showing_beta (pair_of 1 1) (Revert mon) 1)
