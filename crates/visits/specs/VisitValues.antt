-- Values of the visit that a block dates from (document 02, W2) on small cards that are written out block by block: which region is named, at the edges of the regions, through
-- old tables and own ones, on damaged cards and after a rollback of either revision; and each refusal. The cards after a call are computed.
use Rattle.std.specs.Prelude.{List, [], ◌∷◌, ◌++◌, replicate}
use Rattle.blocks.specs.Bytes.{zero_block}
use Rattle.blocks.specs.Name.{no_name}
use Rattle.calls.specs.Call.{Active, Visit, Write, Revert, Check}
use Rattle.calls.specs.Step.{step}
use Rattle.claims.specs.Bench.{Value, Differs, area, ones, fs, mon, tue}
use Rattle.samples.specs.Samples.{wed, long, descriptor, phi_of, table, snapped, shared4, visits, visits1, one_block, dated, dated1, only, visiting, visiting_from, naming, naming_none}

-- layout 2. Mon's table names blocks 1 and 3; the active table is block 5
unfoldable pub region_values : List Value
region_values =
    -- the last block of the older region, and the last below the active beta
    naming (dated 0 1 3 5 3 7) (visiting 0) mon
    ∷ naming (dated 0 1 3 5 3 7) (visiting 1) fs
    -- the first block after the opening of each region: 1 after mon's; 5, the table block itself, after the active one's, which check refuses
    ∷ naming (dated 0 1 3 5 1 6) (visiting 0) mon
    ∷ naming (dated 0 1 3 5 5 6) (visiting 0) fs
    ∷ only (dated 0 1 3 5 5 6) Check 10 5
    -- a block of the active region through a table block of it
    ∷ naming (dated 0 1 3 5 1 6) (visiting 1) fs
    -- the snapshot's own blocks, whatever stands after it
    ∷ naming (dated 0 1 3 5 6 7) (visiting_from mon 0) mon
    ∷ naming (dated 0 1 3 5 6 7) (visiting_from mon 1) mon
    -- a damaged card, which passes check: the active entry names the older table block 2
    ∷ naming (dated 0 1 3 5 2 6) (visiting 0) mon
    -- a nil entry in a table of the active region, and in an old one; nil tables
    ∷ naming (dated 0 1 3 5 0 6) (visiting 0) no_name
    ∷ naming (dated 0 0 3 2 6 7) (visiting 0) no_name
    ∷ naming (dated 0 0 3 2 6 7) (visiting 1) mon
    ∷ naming (dated 0 0 3 2 6 7) (visiting_from mon 0) no_name
    ∷ naming (dated 0 1 3 0 6 7) (visiting 0) no_name
    ∷ naming (dated 0 1 3 0 6 7) (visiting 1) no_name
    -- an old table with an entry in the active region, against check's rule: the data's region, not the table's; through mon it is not in place
    ∷ naming (dated 0 7 3 2 6 7) (visiting 0) fs
    ∷ naming_none (dated 0 7 3 2 6 7) (visiting_from mon 0) 10 2
    -- a name of sixteen letters, whole
    ∷ naming (phi_of 0 (descriptor 2 1 0 3 3 (long 98)) 1 ++ table 2 0 ++ ones ++ phi_of 0 (descriptor 2 1 3 4 0 fs) 1) (visiting 0) (long 98)
    -- three snapshots without a block
    ∷ naming (visits 0) (visiting 0) no_name
    ∷ naming (visits 1) (visiting_from wed 0) no_name
    ∷ []

-- each refusal gives no name: 1, 4, 6, 7, 8, 10, and which comes first
unfoldable pub refused_visits : List Value
refused_visits =
    naming_none one_block (visiting 0) 1 0
    ∷ naming_none one_block (visiting_from no_name 0) 1 0
    ∷ naming_none (area 2) (visiting 0) 6 0
    ∷ naming_none (area 2) (visiting_from no_name 0) 4 0
    ∷ naming_none (area 2) (visiting_from mon 0) 6 0
    -- the name beside the active store is not looked at; the active name is no snapshot's
    ∷ naming (dated 0 1 3 5 3 7) (Visit Active mon 1) fs
    ∷ naming_none shared4 (visiting_from fs 0) 7 0
    ∷ naming_none shared4 (visiting_from tue 1) 7 0
    ∷ naming_none shared4 (visiting_from (replicate 16 65) 0) 4 0
    -- the last logical number and the first past it; 8 before 10
    ∷ naming shared4 (visiting 0) mon
    ∷ naming_none shared4 (visiting 1) 8 0
    ∷ naming_none (snapped 4 3) (visiting 1) 8 0
    -- an entry at beta, and one that names the active descriptor, of the active store and of the snapshot; Phi's entry at beta and in an opening, charged to the descriptor
    ∷ naming_none (snapped 2 4) (visiting 0) 10 2
    ∷ naming_none (snapped 2 1) (visiting 0) 10 2
    ∷ naming_none (dated 0 4 3 5 3 7) (visiting_from mon 0) 10 2
    ∷ naming_none (snapped 4 3) (visiting 0) 10 1
    ∷ naming_none (snapped 1 3) (visiting 0) 10 1
    ∷ []

-- after a rollback to mon: on revision 0 its region has the active name; on revision 1 it keeps its own, and the active region opens after it
unfoldable pub reverted_visits : List Value
reverted_visits =
    naming (step (Revert mon) (dated 0 1 3 5 3 7)).card (visiting 0) fs
    ∷ naming_none (step (Revert mon) (dated 0 1 3 5 3 7)).card (visiting_from mon 0) 7 0
    ∷ naming (step (Revert mon) (dated 1 1 3 5 3 7)).card (visiting 0) mon
    ∷ naming (step (Revert mon) (dated 1 1 3 5 3 7)).card (visiting 1) mon
    ∷ naming (step (Revert mon) (dated 1 1 3 5 3 7)).card (visiting_from mon 1) mon
    -- a write after it is in the active region, and the other block stays where it was
    ∷ naming (step (Write 0 ones) (step (Revert mon) (dated 1 1 3 5 3 7)).card).card (visiting 0) fs
    ∷ naming (step (Write 0 ones) (step (Revert mon) (dated 1 1 3 5 3 7)).card).card (visiting 1) mon
    ∷ naming (step (Write 0 ones) (step (Revert mon) (dated 1 1 3 5 3 7)).card).card (visiting_from mon 0) mon
    -- an overwrite stays in its region, and a block that was in an older one moves
    ∷ naming (step (Write 1 ones) (dated 0 1 3 5 3 7)).card (visiting 1) fs
    ∷ naming (step (Write 0 ones) (dated 0 1 3 5 3 6 ++ zero_block)).card (visiting 0) fs
    ∷ []

-- layout 1: the table block of each region stands in its opening, which no entry may name
unfoldable pub tabled_visits : List Value
tabled_visits =
    naming (dated1 0 3 7) (visiting 0) mon
    ∷ naming (dated1 0 3 7) (visiting 1) fs
    ∷ naming (dated1 0 2 6) (visiting 0) mon
    ∷ naming (dated1 0 2 6) (visiting 1) fs
    ∷ naming (dated1 0 0 6) (visiting 0) no_name
    ∷ naming (dated1 0 6 7) (visiting_from mon 1) mon
    ∷ naming_none (dated1 0 5 7) (visiting 0) 10 5
    ∷ naming_none (dated1 0 1 7) (visiting 0) 10 5
    ∷ naming_none (dated1 0 8 7) (visiting 0) 10 5
    ∷ naming (step (Revert mon) (dated1 0 6 7)).card (visiting 0) fs
    ∷ naming (step (Revert mon) (dated1 1 6 7)).card (visiting 0) mon
    ∷ naming (visits1 1) (visiting_from tue 0) no_name
    ∷ []

unfoldable pub visit_values : List Value
visit_values = region_values ++ refused_visits ++ reverted_visits ++ tabled_visits

-- The table tells wrong from right: the target's own name for an older block, the name of the table block's region, none for an older block, a name for nil, the old
-- name after a rollback on revision 0.
unfoldable pub WrongVisits : Type 0
WrongVisits =
    Differs (naming (dated 0 1 3 5 3 7) (visiting 0) fs)
    × Differs (naming (dated 0 7 3 2 6 7) (visiting 0) mon)
    × Differs (naming (dated 0 1 3 5 3 7) (visiting 0) no_name)
    × Differs (naming (dated 0 0 3 2 6 7) (visiting 0) mon)
    × Differs (naming (step (Revert mon) (dated 0 1 3 5 3 7)).card (visiting 0) mon)
